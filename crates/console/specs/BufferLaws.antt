-- Laws of the buffers: what a write leaves before its end, and a write past the end.
use Rattle.std.specs.Prelude.{◌≡◌, refl, List, [], ◌∷◌, ◌++◌, ℕ, zero, suc, ◌+◌, ◌≤◌, length, take, drop}
use Rattle.std.proofs.Common.{ap, ◌∙◌, append_assoc, le_of_suc-le-suc, not-suc-le-zero, arith, length-append, length-take-le, take_at}
use Rattle.memory.specs.Lists.{write, write_cut}

pub take_before : (l : List ℕ) (at : ℕ) (s : List ℕ) → take at (write l at s) ≡ take at l
unfolding write
take_before [] at s = refl
take_before (x ∷ xs) zero s = refl
take_before (x ∷ xs) (suc n) s = ap (λ (t : List ℕ). x ∷ t) (take_before xs n s)

pub take_written : (l : List ℕ) (at : ℕ) (s : List ℕ) → at + length s ≤ length l → take (at + length s) (write l at s) ≡ take at l ++ s
take_written l at s h =
    let e : length (take at l ++ s) ≡ at + length s = length-append (take at l) s ∙ rw (length-take-le at l (omega arith)) in
    rw (write_cut l at s h, ← append_assoc (take at l) s (drop (at + length s) l))
    (take_at (take at l ++ s) (drop (at + length s) l) (at + length s) e)

pub write_past : (l : List ℕ) (at : ℕ) (s : List ℕ) → length l ≤ at → write l at s ≡ l
unfolding write
write_past [] at s h = refl
write_past (x ∷ xs) zero s h = absurd (not-suc-le-zero h)
write_past (x ∷ xs) (suc n) s h = ap (λ (t : List ℕ). x ∷ t) (write_past xs n s (le_of_suc-le-suc h))
