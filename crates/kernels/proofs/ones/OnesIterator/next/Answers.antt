use Rattle.std.proofs.Common.{rules, ◌≡◌, ℕ, ◌≤◌, ◌<◌, false, ◌∙◌, arith}
use Rattle.memory.specs.Bits.{bit}
use Rattle.memory.specs.Candidate.{candidate, candidate_le, candidate_skip, candidate_top}
use Rattle.memory.specs.Cases.{eq?, either}
use Rattle.kernels.specs.Ones.{TakesHighest}
use Rattle.kernels.proofs.ones.OnesIterator.next.Goals as goal

-- The highest bit that is left is a lower one.

module _ (bits f r : ℕ) (takes : TakesHighest bits f r) where
  gone : (i : ℕ) → f ≤ i → i < 64 → bit r i ≡ false
  gone i l k =
      either (eq? i f)
      (λ t. takes.1 i k ∙ rw t.0)
      (λ t. let ne = t.1 in takes.1 i k ∙ rw t.0 (takes.0.2 i (omega arith) k))

  fewer : candidate (bit r) 64 < candidate (bit bits) 64
  fewer =
      omega (
        arith,
        candidate_top (bit bits) 64 f takes.0.0 takes.0.1 takes.0.2,
        candidate_skip (bit r) 64 f (omega (arith, takes.0.0)) gone,
        candidate_le (bit r) f,
      )

pub returns-clause-goes : goal.returns-clause-goes
returns-clause-goes c =
    let l = fewer c.args.self.now.left c.top-f.result c.without-self.result (c.top-f.ensures, c.without-self.ensures) in
    record { on = λ h. (search rules, search rules, l); keeps = search rules; rests = λ h. search rules }
