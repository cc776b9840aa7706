-- The operations that a restart has to do are few, whatever the header says.
use mathlib.Core.Bool.{Bool, true, false, cond}
use Prim.Native.Nat.{ℕ, ◌+◌, ◌≤◌}
use native.Mathlib.Omega.{arith}
use lib.ListN.{length}
use lib.Dec.{eqb}
use Rattle.layout.specs.Geometry.{sizes_of}
use Rattle.layout.specs.Items.{record_of}
use Rattle.layout.specs.Hash.{fnv_family}
use Rattle.layout.specs.Calls.{Volume, insert, update, delete}
use Rattle.layout.specs.Header.{header_word, kind_in, Pending, nothing, changing, formatting, unknown, pending_in}
use Rattle.layout.specs.Budgets.{pending_on, pending_ops}
use Rattle.state.specs.declared.Request.TheVariants.{Insert, Update, Delete}
use Rattle.format.specs.Few.{few_format}
use Rattle.calls.specs.Few.{few_again}

module _ (v : Volume) where
  abbrev Few : Pending → Type 0
  Few p = length (pending_ops fnv_family v p) + 1 ≤ 18446744073709551615

  pub few_pending : Few (pending_in v.ram)
  unfolding pending_in
  few_pending =
      of (header_word v.ram 7) (header_word v.ram 8) (header_word v.ram 9) (header_word v.ram 10) (eqb (kind_in v.ram) 0)
      (eqb (kind_in v.ram) 1) (eqb (kind_in v.ram) 2) (eqb (kind_in v.ram) 3) (eqb (kind_in v.ram) 4)
    where
      of : (a b c d : ℕ) (k0 k1 k2 k3 k4 : Bool)
          → Few
          (cond k0 nothing
          (cond k1 (changing (insert (record_of a b c d)))
          (cond k2 (changing (update (record_of a b c d)))
          (cond k3 (changing (delete a)) (cond k4 (formatting (sizes_of a b c d)) unknown)))))
      of a b c d true k1 k2 k3 k4 = omega arith
      of a b c d false true k2 k3 k4 = few_again v (Insert (record { key = record { level = a }; moves = b; goal = c; free = d }))
      of a b c d false false true k3 k4 = few_again v (Update (record { key = record { level = a }; moves = b; goal = c; free = d }))
      of a b c d false false false true k4 = few_again v (Delete (record { level = a }))
      of a b c d false false false false true = omega (arith, few_format (pending_on v) (sizes_of a b c d))
      of a b c d false false false false false = omega arith
