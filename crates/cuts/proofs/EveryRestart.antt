-- Of any restart with any budget on any volume: bytes past the volume never change.
use Rattle.std.specs.Prelude.{◌≡◌}
use Rattle.std.proofs.Math.Path.{refl}
use Prim.Native.Nat.{ℕ}
use Rattle.layout.specs.Geometry.{Geometry, geometry, ram_size}
use Rattle.layout.specs.Hash.{Family}
use Rattle.layout.specs.Calls.{Volume}
use Rattle.layout.specs.Header.{Pending, nothing, changing, formatting, unknown, pending_in}
use Rattle.layout.specs.Budgets.{restart_for}
use Rattle.cuts.specs.EveryCut.{CutBeyond, sizes_named}
use Rattle.cuts.proofs.EveryCut.{same_ram, same_beyond, resumed_beyond, restart_format_beyond, restart_change_beyond, restart_idle_keeps}

bytes_beyond : (g : Geometry) (v w : Volume) → w.flash ≡ v.flash → w.ram ≡ v.ram → CutBeyond g v w
bytes_beyond g v w f r = record {
  main = λ x l. rw f;
  spare = λ x l. rw f;
  main_length = rw f;
  spare_length = rw f;
  ram = rw r (same_ram (ram_size g) v.ram);
}

-- any restart
pub restart_beyond : (h : Family) (b : ℕ) (v : Volume)
    → CutBeyond (geometry (sizes_named (pending_in v.ram) v.ram)) v (restart_for h b v).volume
restart_beyond h b v = by (pending_in v.ram) refl
  where
    by : (p : Pending) → pending_in v.ram ≡ p → CutBeyond (geometry (sizes_named p v.ram)) v (restart_for h b v).volume
    by nothing q = let k = restart_idle_keeps h b v q in bytes_beyond _ v _ k.0 k.1
    by (changing c) q = restart_change_beyond h b v c q
    by (formatting sizes) q = restart_format_beyond h b v sizes q
    by unknown q = resumed_beyond h b v _ unknown q (λ l. same_beyond _ v)
