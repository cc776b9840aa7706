-- Sectors programmed in a row are one write of the main area and one of the spare area.
use Rattle.std.specs.Prelude.{◌≡◌, refl, List, [], ◌∷◌, ◌++◌, ℕ, zero, suc, ◌+◌, ◌-◌, ◌*◌, length, get_or, set, replicate}
use Rattle.std.proofs.Common.{sym, ap, ◌∙◌, arith, length-append, get_or-append-add}
use Rattle.std.proofs.lemmas.List.{length-replicate}
use Rattle.std.proofs.Math.ListN.{get_or-append}
use Rattle.memory.specs.Cases.{either, lt?}
use Rattle.memory.specs.Lists.{tabulate, is_tabulate, length_tabulate, get_d_tabulate, write}
use Rattle.layout.specs.Geometry.{sector}
use Rattle.layout.specs.Flash.{Flash, flash_of, program, apply}
use Rattle.memory.specs.Lists.{write_append}

-- sectors s to s + k - 1 with the bytes of `bytes`
abbrev pub programmed_row : ℕ → ℕ → ℕ → List ℕ → Flash → Flash
programmed_row u s k bytes c = flash_of (write c.main (s * sector u) bytes) (write c.spare s (replicate k 0))

-- a store is a write of one element
set_write : (l : List ℕ) (i v : ℕ) → set l i v ≡ write l i (v ∷ [])
unfolding write
set_write [] i v = refl
set_write (x ∷ []) zero v = refl
set_write (x ∷ y ∷ l) zero v = refl
set_write (x ∷ l) (suc i) v = ap (λ (t : List ℕ). x ∷ t) (set_write l i v)

-- a table in two parts
tabulate_add : (n m : ℕ) (f : ℕ → ℕ) → tabulate n f ++ tabulate m (λ i. f (n + i)) ≡ tabulate (n + m) f
tabulate_add n m f =
    is_tabulate (tabulate n f ++ tabulate m (λ i. f (n + i))) (n + m) f
    (length-append (tabulate n f) (tabulate m (λ i. f (n + i))) ∙ rw (length_tabulate n f, length_tabulate m (λ i. f (n + i))) refl)
    (λ i h. either (lt? i n)
    (λ a. get_or-append (tabulate n f) (tabulate m (λ i. f (n + i))) 0 i (rw (length_tabulate n f) a.1) ∙ get_d_tabulate n f i 0 a.1)
    (λ a.
    let e : n + (i - n) ≡ i = omega (arith, a.1) in
    let d : length (tabulate n f) + (i - n) ≡ i = rw (length_tabulate n f) e in
    ap (λ (x : ℕ). get_or (tabulate n f ++ tabulate m (λ i. f (n + i))) x 0) (sym d) ∙ get_or-append-add (tabulate n f) (tabulate m (λ i. f (n + i))) (i - n) 0
    ∙ get_d_tabulate m (λ i. f (n + i)) (i - n) 0 (omega (arith, h, a.1)) ∙ ap f e))

zeros_add : (k : ℕ) → replicate {A = ℕ} k 0 ++ (0 ∷ []) ≡ replicate (suc k) 0
zeros_add zero = refl
zeros_add (suc k) = ap (λ (t : List ℕ). 0 ∷ t) (zeros_add k)

-- one sector more behind k sectors; byte i of them is f i
pub row_more : (u s k : ℕ) (f : ℕ → ℕ) (c : Flash)
    → apply u (program (s + k) (tabulate (sector u) (λ i. f (k * sector u + i)))) (programmed_row u s k (tabulate (k * sector u) f) c)
    ≡ programmed_row u s (suc k) (tabulate (suc k * sector u) f) c
row_more u s k f c = λ i. flash_of (on_main_lem i) (on_spare i)
  where
    bytes : tabulate (k * sector u) f ++ tabulate (sector u) (λ i. f (k * sector u + i)) ≡ tabulate (suc k * sector u) f
    bytes = let e : k * sector u + sector u ≡ suc k * sector u = omega arith in tabulate_add (k * sector u) (sector u) f ∙ ap (λ (n : ℕ). tabulate n f) e

    on_main_lem : write (write c.main (s * sector u) (tabulate (k * sector u) f)) ((s + k) * sector u) (tabulate (sector u) (λ i. f (k * sector u + i)))
        ≡ write c.main (s * sector u) (tabulate (suc k * sector u) f)
    on_main_lem =
        let e : (s + k) * sector u ≡ s * sector u + length (tabulate (k * sector u) f) = rw (length_tabulate (k * sector u) f) (omega arith) in
        rw e (write_append c.main (s * sector u) (tabulate (k * sector u) f) (tabulate (sector u) (λ i. f (k * sector u + i)))
        ∙ ap (λ (v : List ℕ). write c.main (s * sector u) v) bytes)

    on_spare : set (write c.spare s (replicate k 0)) (s + k) 0 ≡ write c.spare s (replicate (suc k) 0)
    on_spare =
        let e : s + k ≡ s + length (replicate {A = ℕ} k 0) = rw (length-replicate {A = ℕ} k 0) refl in
        set_write (write c.spare s (replicate k 0)) (s + k) 0
        ∙ rw e (write_append c.spare s (replicate k 0) (0 ∷ []) ∙ ap (λ (v : List ℕ). write c.spare s v) (zeros_add k))
