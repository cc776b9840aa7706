-- A list that is filled by parts from its start on.
use mathlib.Core.Path.{◌≡◌, ap, ◌∙◌}
use mathlib.Core.List.{List, ◌++◌}
use Prim.Native.Nat.{ℕ, ◌+◌, ◌-◌, ◌≤◌, ◌<◌}
use native.Mathlib.Omega.{arith}
use lib.ListN.{length, get_or, take, drop}
use Rattle.std.proofs.Common.{get_or-take, get_or-drop}
use Rattle.memory.specs.Lists.{Done, get_d_write_before, get_d_write_in, part_back}
use Rattle.memory.specs.Cases.{lt?, either}

-- element j of the part of m elements from `at` on
part_at : (l : List ℕ) (at m j : ℕ) → j < m → get_or (take (at + m - at) (drop at l)) j 0 ≡ get_or l (at + j) 0
part_at l at m j h =
    let e : at + m - at ≡ m = omega arith in
    rw (e, get_or-take, get_or-drop)

-- d has the first i elements of s, and the part from i to i + m became that of s
pub part_more : (s d ys : List ℕ) (i m : ℕ) → i + m ≤ length d → length d ≡ length s → ys ≡ take (i + m - i) (drop i s)
    → length ys ≡ i + m - i → Done (λ j. get_or s j 0) d i → Done (λ j. get_or s j 0) (take i d ++ (ys ++ drop (i + m - i) (drop i d))) (i + m)
part_more s d ys i m h same is size D k p =
    rw (part_back d i (i + m) ys (omega arith) h size)
    (either (lt? k i)
    (λ a. get_d_write_before d i ys k 0 a.1 ∙ D k a.1)
    (λ a.
    let q : i + (k - i) ≡ k = omega arith in
    get_d_write_in d i ys k 0 a.1 (omega arith) (omega arith) ∙ ap (λ (v : List ℕ). get_or v (k - i) 0) is
    ∙ part_at s i m (k - i) (omega arith) ∙ ap (λ (x : ℕ). get_or s x 0) q))
