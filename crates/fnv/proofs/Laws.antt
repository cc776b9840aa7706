-- Steps of FNV-1a over a list, and the positions of a key.
use Rattle.std.proofs.Common.{◌≡◌, ℕ, ◌+◌, ◌-◌, ◌*◌, ◌%◌, ◌^◌, ◌<◌, ◌≤◌, List, ◌++◌, length, get_or, drop, replicate, sym, ap, ◌∙◌, add-one, arith, length-append, drop_of_length-le, drop-cons, get_or-append-add, ext_get_or}
use lib.Bits.{bit_xor}
use lib.ListN.{length-replicate, get_or-replicate, get_or-append}
use Rattle.memory.specs.Cases.{either, lt?}
use Rattle.memory.specs.Lists.{tabulate, length_tabulate, get_d_tabulate}
use Rattle.memory.specs.Power.{PowerOfTwo}
use Rattle.layout.specs.Hash.{fnv_from, Family, positions}
use Rattle.laws.specs.Positions.{position_array}
use Rattle.laws.specs.Units.{UnitSound, unit_times}

-- from h over what is left, with the byte at i absorbed
pub fnv_more : (h i : ℕ) (l : List ℕ) → i < length l → fnv_from h (drop i l) ≡ fnv_from (bit_xor h (get_or l i 0) * 16777619 % 2 ^ 32) (drop (i + 1) l)
unfolding fnv_from
fnv_more h i l p = rw (add-one, drop-cons l i 0)

-- nothing is left
pub fnv_end : (h i : ℕ) (l : List ℕ) → length l ≤ i → fnv_from h (drop i l) ≡ h
unfolding fnv_from
fnv_end h i l p = rw drop_of_length-le

-- a fourth of a filter has as many bits as a sector has bytes
pub fourth_power : (u size : ℕ) → UnitSound u → size ≡ 16 * u → PowerOfTwo size
fourth_power u size s e = rw e (unit_times 4 u s)

-- position j of some bytes
abbrev pub position : Family → ℕ → List ℕ → ℕ → ℕ
position f u l j = f 0 l % 4 * (16 * u) + f (j + 1) l % (16 * u)

-- an array of eight with k positions in front and zeros after them
pub filled : (f : Family) (k u : ℕ) (l ps : List ℕ) → k ≤ 8 → length ps ≡ 8
    → ((j : ℕ) → j < k → get_or ps j 0 ≡ position f u l j)
    → ((j : ℕ) → k ≤ j → j < 8 → get_or ps j 0 ≡ 0)
    → ps ≡ position_array f k u l
unfolding positions
filled f k u l ps few long front rest =
    let t = length_tabulate k (position f u l) in
    ext_get_or 0 ps (tabulate k (position f u l) ++ replicate (8 - k) 0)
    (long ∙ rw (length-append, t, length-replicate) (omega arith))
    (λ i h.
    either (lt? i k)
    (λ a. front i a.1 ∙ sym (get_or-append (tabulate k (position f u l)) (replicate (8 - k) 0) 0 i (rw t a.1) ∙ get_d_tabulate k (position f u l) i 0 a.1))
    (λ a.
    let d : length (tabulate k (position f u l)) + (i - k) ≡ i = rw t (omega (arith, a.1)) in
    rest i (omega (arith, a.1)) (omega arith)
    ∙ sym (ap (λ (x : ℕ). get_or (tabulate k (position f u l) ++ replicate (8 - k) 0) x 0) (sym d)
    ∙ get_or-append-add (tabulate k (position f u l)) (replicate (8 - k) 0) (i - k) 0
    ∙ get_or-replicate {A = ℕ} (8 - k) (i - k) 0 0 (omega (arith, a.1)))))
