use Rattle.std.proofs.Common.{◌≡◌, ℕ, ◌+◌, ◌*◌, ◌%◌, ◌<◌, ◌≤◌, length, get_or}
use Rattle.layout.specs.Hash.{fnv_family}
use Rattle.fnv.specs.Hashed.{bytes_of}
use Rattle.fnv.proofs.positions.Given as goal

abbrev pub invariant-loop-i : goal.invariant-loop-i
invariant-loop-i l = record {
  long : length l.ps ≡ 8;
  front : (j : ℕ) → j < l.i
      → (get_or l.ps j 0 ≡ l.start + fnv_family (j + 1) (bytes_of l.x) % (16 * l.chip.unit)) × (get_or l.ps j 0 < 64 * l.chip.unit);
  rest : (j : ℕ) → l.i ≤ j → j < 8 → get_or l.ps j 0 ≡ 0;
}
