-- Texts written one after another are one text, and the length of decimal numbers. Assumes nothing.
use Rattle.std.specs.Prelude.{◌≡◌, refl, List, [], ◌∷◌, ◌++◌, ℕ, zero, suc, ◌+◌, ◌*◌, ◌/◌, ◌%◌, ◌^◌, max, ◌≤◌, ◌<◌, ltb, cond, length, set}
use Rattle.std.proofs.Common.{sym, ap, ◌∙◌, append_assoc, arith, length-append, lt-ltb, le-ltb, pow-suc}
use Rattle.memory.specs.Cases.{either, lt?}
use Rattle.memory.specs.Lists.{write, write_append}
use Rattle.script.specs.Answers.{Answer, ok, hit, miss, no, bad, digits, decimal, text}

-- a store is a write of one byte
pub write_byte : (l : List ℕ) (at c : ℕ) → set l at c ≡ write l at (c ∷ [])
unfolding write
write_byte [] at c = refl
write_byte (x ∷ []) zero c = refl
write_byte (x ∷ y ∷ xs) zero c = refl
write_byte (x ∷ xs) (suc n) c = ap (λ (t : List ℕ). x ∷ t) (write_byte xs n c)

write_none : (l : List ℕ) (at : ℕ) → write l at [] ≡ l
unfolding write
write_none [] at = refl
write_none (x ∷ xs) zero = refl
write_none (x ∷ xs) (suc n) = ap (λ (t : List ℕ). x ∷ t) (write_none xs n)

-- two writes next to each other, by what each leaves
pub write_then : (l x y : List ℕ) (at next : ℕ) (a b : List ℕ) → x ≡ write l at a → next ≡ at + length a → y ≡ write x next b
    → y ≡ write l at (a ++ b)
write_then l x y at next a b p q r = r ∙ rw (p, q) (write_append l at a b)

-- a word and a piece with a space after it, and then the rest
pub write_rest : (l y z w a b : List ℕ) (at : ℕ) → y ≡ write l 0 (w ++ (a ++ (32 ∷ []))) → at ≡ length (w ++ (a ++ (32 ∷ [])))
    → z ≡ write y at b → z ≡ write l 0 (w ++ (a ++ (32 ∷ b)))
write_rest l y z w a b at p q r =
    write_then l y z 0 at (w ++ (a ++ (32 ∷ []))) b p (omega arith) r ∙ simp append_assoc

-- a word, a piece with a space after it, and the rest
pub write_three : (l x y z w a b : List ℕ) (at end : ℕ) → x ≡ write l 0 w
    → at ≡ length w + length (a ++ (32 ∷ [])) → y ≡ write x (length w) (a ++ (32 ∷ []))
    → end ≡ at + length b → z ≡ write y at b
    → (end ≡ length (w ++ (a ++ (32 ∷ b)))) × (z ≡ write l 0 (w ++ (a ++ (32 ∷ b))))
write_three l x y z w a b at end p q r s t =
    let two : w ++ (a ++ (32 ∷ [])) ++ b ≡ w ++ (a ++ (32 ∷ b)) = simp append_assoc in
    let at' : at ≡ length (w ++ (a ++ (32 ∷ []))) = q ∙ sym (length-append w (a ++ (32 ∷ []))) in
    let first : y ≡ write l 0 (w ++ (a ++ (32 ∷ []))) = write_then l x y 0 (length w) w (a ++ (32 ∷ [])) p (omega arith) r in (
      s ∙ rw at' (sym (length-append (w ++ (a ++ (32 ∷ []))) b) ∙ ap length two),
      write_then l y z 0 at (w ++ (a ++ (32 ∷ []))) b first (omega arith) t ∙ ap (λ (c : List ℕ). write l 0 c) two,
    )

-- the last byte first, then those before it
pub write_last : (l : List ℕ) (at : ℕ) (a : List ℕ) (c : ℕ) → write (set l (at + length a) c) at a ≡ write l at (a ++ (c ∷ []))
unfolding write
write_last [] at a c = refl
write_last (x ∷ []) zero [] c = refl
write_last (x ∷ y ∷ xs) zero [] c = refl
write_last (x ∷ xs) zero (y ∷ ys) c =
    let e : 0 + suc (length ys) ≡ suc (0 + length ys) = omega arith in
    rw e (ap (λ (t : List ℕ). y ∷ t) (write_last xs zero ys c))
write_last (x ∷ xs) (suc n) a c =
    let e : suc n + length a ≡ suc (n + length a) = omega arith in
    rw e (ap (λ (t : List ℕ). x ∷ t) (write_last xs n a c))

-- ---- decimal numbers

-- more room for digits than a number has changes nothing
digits_more : (k n : ℕ) → n < 10 ^ suc k → digits (suc (suc k)) n ≡ digits (suc k) n
unfolding digits
digits_more zero n h = rw (lt-ltb n 10 (omega arith))
digits_more (suc k) n h =
    either (lt? n 10)
    (λ a. rw a.0)
    (λ a. rw a.0 (ap (λ (t : List ℕ). t ++ ((n % 10 + 48) ∷ [])) (digits_more k (n / 10) (omega arith))))

pub decimal_one : (n : ℕ) → n < 10 → decimal n ≡ (n + 48) ∷ []
unfolding digits
decimal_one n h = rw (lt-ltb n 10 h)

pub decimal_more : (n : ℕ) → 10 ≤ n → n < 2 ^ 32 → decimal n ≡ decimal (n / 10) ++ ((n % 10 + 48) ∷ [])
unfolding digits
decimal_more n h l =
    rw (le-ltb n 10 h) (ap (λ (t : List ℕ). t ++ ((n % 10 + 48) ∷ [])) (sym (digits_more 8 (n / 10) (omega arith))))

digits_length : (k n : ℕ) → length (digits k n) ≤ k
unfolding digits
digits_length zero n = omega arith
digits_length (suc k) n =
    either (lt? n 10)
    (λ a. rw a.0 (omega arith))
    (λ a. rw a.0 (simp length-append (omega (arith, digits_length k (n / 10)))))

pub decimal_length : (n : ℕ) → length (decimal n) ≤ 10
decimal_length n = digits_length 10 n

pub decimal_there : (n : ℕ) → 1 ≤ length (decimal n)
unfolding digits
decimal_there n = either (lt? n 10) (λ a. rw a.0 (omega arith)) (λ a. rw a.0 (simp length-append (omega arith)))

ten_there : (k : ℕ) → 1 ≤ 10 ^ k
ten_there zero = omega arith
ten_there (suc k) = omega (arith, pow-suc 10 k, ten_there k)

decimal_power : (k n : ℕ) → 10 ^ k ≤ n → n < 10 * 10 ^ k → n < 2 ^ 32 → length (decimal n) ≡ k + 1
decimal_power zero n a b h = ap length (decimal_one n (omega arith))
decimal_power (suc k) n a b h =
    let e = pow-suc 10 k in
    let t = ten_there k in
    let i = decimal_power k (n / 10) (omega arith) (omega arith) (omega arith) in
    let d = simp length-append at (ap length (decimal_more n (omega arith) h)) in
    omega arith

-- a number from 10^k on and below 10^(k+1) has k + 1 digits; 0 has one
pub decimal_log : (k n : ℕ) → 10 ^ k ≤ max n 1 → max n 1 < 10 * 10 ^ k → n < 2 ^ 32 → length (decimal n) ≡ k + 1
decimal_log zero n a b h = ap length (decimal_one n (omega arith))
decimal_log (suc k) n a b h = let e = pow-suc 10 k in let t = ten_there k in decimal_power (suc k) n (omega arith) (omega arith) h

-- the digits that are not written yet, of a number that is written from its end on: at place i there are none left
abbrev pub unwritten : ℕ → ℕ → ℕ → List ℕ
unwritten at i left = cond (ltb at i) (decimal left) []

-- at its end, all of them
pub unwritten_all : (at i n : ℕ) → i ≡ at + length (decimal n) → unwritten at i n ≡ decimal n
unwritten_all at i n e = let t = decimal_there n in rw (lt-ltb at i (omega arith))

-- at its start, none
pub unwritten_none : (l : List ℕ) (at i n : ℕ) → i ≤ at → write l at (unwritten at i n) ≡ l
unwritten_none l at i n h = rw (le-ltb at i h) (write_none l at)

-- the last of them is written
pub digit_put : (l : List ℕ) (at i left : ℕ) → left < 2 ^ 32 → at ≤ i → i + 1 ≡ at + length (unwritten at (i + 1) left)
    → (i ≡ at + length (unwritten at i (left / 10)))
    × (write (set l i (left % 10 + 48)) at (unwritten at i (left / 10)) ≡ write l at (unwritten at (i + 1) left))
digit_put l at i left h k e =
    let u : unwritten at (i + 1) left ≡ decimal left = rw (lt-ltb at (i + 1) (omega arith)) in
    let f : i + 1 ≡ at + length (decimal left) = rw u at e in
    either (lt? left 10)
    (λ a.
    let d = decimal_one left a.1 in
    let z : i ≡ at = omega (arith, ap length d) in
    let m : left % 10 ≡ left = omega arith in (
      rw (z, le-ltb at at (omega arith)) (omega arith),
      rw (u, z, le-ltb at at (omega arith), m, d, write_none) (write_byte l at (left + 48)),
    ))
    (λ a.
    let d = decimal_more left a.1 h in
    let n = simp length-append at (ap length d) in
    let t = decimal_there (left / 10) in
    let z : i ≡ at + length (decimal (left / 10)) = omega arith in
    (rw (lt-ltb at i (omega arith)) z, rw (u, lt-ltb at i (omega arith), z, d) (write_last l at (decimal (left / 10)) (left % 10 + 48))))

-- every answer's line fits a buffer of 32 bytes
pub text_length : (a : Answer) → length (text a) ≤ 32
unfolding text
text_length (ok n d) = simp length-append (omega (arith, decimal_length n, decimal_length d))
text_length (hit moves count) = simp length-append (omega (arith, decimal_length moves, decimal_length count))
text_length (miss count) = simp length-append (omega (arith, decimal_length count))
text_length (no number) = simp length-append (omega (arith, decimal_length number))
text_length bad = omega arith
