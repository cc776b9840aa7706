use Prim.Native.Nat.{ℕ, ◌-◌, min}
use Rattle.filter.specs.declared.groups.Recent.{Recent}
use Rattle.filter.proofs.Rows.{Tested}
use Rattle.filter.proofs.RecentBytes.{has_recent}
use Rattle.filter.proofs.groups.Query.word.Given as goal

-- the bits of the word that count
abbrev pub bits : Recent → ℕ → ℕ
bits rs first = min (rs.below - rs.l1.start - first) 64

abbrev pub invariant-loop-p : goal.invariant-loop-p
invariant-loop-p l = Tested (has_recent l.self.rs l.self.main.now l.self.ram.now) l.self.ps.now l.first (bits l.self.rs l.first) l.p-index l.r
