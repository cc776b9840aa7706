-- A filter in the SKA page: only its own bits count, and pieces of bytes are pieces of bits.
use Rattle.std.specs.Prelude.{◌≡◌, refl, Bool, List, ℕ, zero, suc, ◌+◌, ◌*◌, ◌-◌, ◌/◌, ◌%◌, ◌≤◌, ◌<◌, length, get_or, take, drop}
use Rattle.std.proofs.Common.{sym, ap, ◌∙◌, arith, length-take, length-drop, ext_get_or, get_or-take, get_or-drop}
use Rattle.memory.specs.Lists.{pieces, write, tabulate, tabulate_ext, length_tabulate, get_d_tabulate}
use Rattle.memory.specs.Bits.{bit, pack, pack_ext, pack_bit}
use Rattle.layout.specs.Geometry.{sector, fourth_size}
use Rattle.filter.specs.Filter.{array_bit}

-- the i-th fourth of a filter as bytes
abbrev pub fourth_of : ℕ → (ℕ → Bool) → ℕ → List ℕ
fourth_of u f i = tabulate (fourth_size u) (λ y. pack 8 (λ b. f (i * sector u + (y * 8 + b))))

pub pieces_ext : {A : Type 0} (L d at k : ℕ) (f g : ℕ → ℕ → A) (l : List A) → ((j y : ℕ) → j < k → y < L → f j y ≡ g j y)
    → pieces L d at k f l ≡ pieces L d at k g l
unfolding pieces
pieces_ext L d at zero f g l h = refl
pieces_ext {A = A} L d at (suc k) f g l h =
    ap (λ (t : List A). pieces L d (at + d) k (λ j. f (suc j)) (write l at t))
    (tabulate_ext L (f zero) (g zero) (λ y b. h zero y (omega arith) b))
    ∙ pieces_ext L d (at + d) k (λ j. f (suc j)) (λ j. g (suc j)) (write l at (tabulate L (g zero))) (λ j y a b. h (suc j) y (omega arith) b)

-- the 2 u bytes of an array from byte i * 2 u on are the i-th fourth of its bits
pub piece_of : (u i lo hi : ℕ) (a : List ℕ) → ((k : ℕ) → get_or a k 0 < 256) → lo ≡ i * (2 * u) → hi ≡ lo + 2 * u → hi ≤ length a
    → take (hi - lo) (drop lo a) ≡ fourth_of u (array_bit a) i
unfolding array_bit
piece_of u i lo hi a bytes el eh fits =
    let n : hi - lo ≡ 2 * u = omega arith in
    let len : length (take (2 * u) (drop lo a)) ≡ 2 * u = simp (length-take, length-drop) (omega arith) in
    rw n (ext_get_or 0 (take (2 * u) (drop lo a)) (tabulate (2 * u) (λ y. pack 8 (λ b. array_bit a (i * (16 * u) + (y * 8 + b)))))
    (len ∙ sym (length_tabulate (2 * u) _))
    (λ y h.
    let b : y < 2 * u = rw len at h in
    byte y b ∙ sym (get_d_tabulate (2 * u) (λ y. pack 8 (λ b. array_bit a (i * (16 * u) + (y * 8 + b)))) y 0 b)))
  where
    -- bit b of byte y of the fourth
    bit_of : ℕ → ℕ → Bool
    bit_of y b = bit (get_or a ((i * (16 * u) + (y * 8 + b)) / 8) 0) ((i * (16 * u) + (y * 8 + b)) % 8)

    bits : (y b : ℕ) → b < 8 → bit (get_or a (lo + y) 0) b ≡ bit_of y b
    bits y b h =
        let q : (i * (16 * u) + (y * 8 + b)) / 8 ≡ lo + y = omega arith in
        let r : (i * (16 * u) + (y * 8 + b)) % 8 ≡ b = omega arith in
        rw (q, r)

    byte : (y : ℕ) → y < 2 * u → get_or (take (2 * u) (drop lo a)) y 0 ≡ pack 8 (bit_of y)
    byte y h =
        rw (get_or-take, get_or-drop)
        (sym (pack_bit 8 (get_or a (lo + y) 0) (bytes (lo + y)))
        ∙ pack_ext 8 (bit (get_or a (lo + y) 0)) (bit_of y) (λ b l. bits y b l))
