-- What a line leaves in a part of the output's buffer, as what is kept after it, and the bytes of a chunk by their index.
use mathlib.Core.Path.{◌≡◌, refl, ap, ◌∙◌}
use mathlib.Core.Logic.{◌≢◌}
use mathlib.Core.Bool.{cond}
use mathlib.Core.List.{List, [], ◌∷◌, ◌++◌}
use Prim.Native.Nat.{ℕ, zero, suc, ◌+◌, ◌-◌, ◌≤◌, ◌<◌}
use native.Mathlib.Nat.{le_of_suc-le-suc, not-suc-le-zero}
use native.Mathlib.Omega.{arith}
use native.Mathlib.Numerals.{add-one}
use borrow.Author.Tests.{ne_eqb}
use lib.Dec.{ltb}
use lib.ListN.{length, get_or, take, drop, take-append-drop, drop_of_length-le}
use lib.Seq.{drop-cons}
use Rattle.memory.specs.Lists.{write}
use Rattle.layout.specs.Calls.{Volume}
use Rattle.script.specs.Lines.{command}
use Rattle.script.specs.Answers.{text}
use Rattle.script.specs.AnswerLaws.{text_length}
use Rattle.script.specs.Script.{Performed, perform}
use Rattle.lines.specs.Contract.{AfterLine, answer_line}
use Rattle.console.specs.Buffers.{Buffers, end_line, add_byte, next_byte, feed}

-- ---- lines

-- a text written into the first n bytes, which come back before the others
write_front : (n : ℕ) (l t : List ℕ) → length t ≤ n → write (take n l) 0 t ++ drop n l ≡ write l 0 t
unfolding write
write_front zero [] [] h = refl
write_front zero (x ∷ xs) [] h = refl
write_front zero l (y ∷ ys) h = absurd (not-suc-le-zero h)
write_front (suc n) [] t h = refl
write_front (suc n) (x ∷ xs) [] h = ap (λ (r : List ℕ). x ∷ r) (take-append-drop n xs)
write_front (suc n) (x ∷ xs) (y ∷ ys) h = ap (λ (r : List ℕ). y ∷ r) (write_front n xs ys (le_of_suc-le-suc h))

-- the same of n bytes from `at` on
write_part : (l : List ℕ) (at n : ℕ) (t : List ℕ) → length t ≤ n
    → take at l ++ (write (take n (drop at l)) 0 t ++ drop n (drop at l)) ≡ write l at t
unfolding write
write_part l zero n t h = write_front n l t h
write_part [] (suc m) n t h = write_front n [] t h
write_part (x ∷ xs) (suc m) n t h = ap (λ (r : List ℕ). x ∷ r) (write_part xs m n t h)

answer_line_is : (v : Volume) (line out : List ℕ)
    → let r : Performed = perform v (command line) in
    answer_line v line out ≡ record { length = length (text r.answer); volume = r.volume; out = write out 0 (text r.answer) }
unfolding answer_line
answer_line_is v line out = refl

pub line_short : (v : Volume) (line out : List ℕ) (l : AfterLine) → l ≡ answer_line v line out → l.length ≤ 32
line_short v line out l e =
    let a = (perform v (command line)).answer in
    let h : l.length ≡ length (text a) = ap (λ (x : AfterLine). x.length) (e ∙ answer_line_is v line out) in
    omega (arith, text_length a)

-- the line that is kept, answered into the 32 bytes behind what was printed
pub line_ends : (k : Buffers) (l : AfterLine)
    → l ≡ answer_line k.volume (take k.fill k.buffer) (take (k.printed + 32 - k.printed) (drop k.printed k.out))
    → ◌≡◌ {A = Buffers} (record {
      volume = l.volume;
      buffer = k.buffer;
      fill = 0;
      out = take k.printed k.out ++ (l.out ++ drop (k.printed + 32 - k.printed) (drop k.printed k.out));
      printed = k.printed + l.length;
    }) (end_line k)
unfolding end_line
line_ends k l e =
    let r : Performed = perform k.volume (command (take k.fill k.buffer)) in
    let n : k.printed + 32 - k.printed ≡ 32 = omega arith in
    let out = take (k.printed + 32 - k.printed) (drop k.printed k.out) in
    let f = e ∙ answer_line_is k.volume (take k.fill k.buffer) out in
    rw (f, n, write_part k.out k.printed 32 (text r.answer) (text_length r.answer))

-- ---- bytes

pub add_byte_lem : (k : Buffers) (c fill : ℕ) (line : List ℕ) → c ≢ 10
    → fill ≡ cond (ltb k.fill (length k.buffer)) (k.fill + 1) k.fill → line ≡ write k.buffer k.fill (c ∷ [])
    → ◌≡◌ {A = Buffers} (record { volume = k.volume; buffer = line; fill = fill; out = k.out; printed = k.printed }) (next_byte k c)
unfolding next_byte add_byte
add_byte_lem k c fill line h f l = rw (ne_eqb c 10 h, f, l)

pub feed_more : (z k n : Buffers) (cs : List ℕ) (i : ℕ) → i < length cs → z ≡ feed k (drop i cs) → n ≡ next_byte k (get_or cs i 0)
    → z ≡ feed n (drop (i + 1) cs)
unfolding feed
feed_more z k n cs i h e b = e ∙ rw (drop-cons cs i 0, add-one, b)

pub feed_end : (k : Buffers) (cs : List ℕ) (i : ℕ) → length cs ≤ i → feed k (drop i cs) ≡ k
unfolding feed
feed_end k cs i h = rw drop_of_length-le
