use Rattle.filter.proofs.Rows.{Filled}
use Rattle.filter.proofs.groups.block_by_words.Given as goal

abbrev pub invariant-loop-i : goal.invariant-loop-i
invariant-loop-i l = Filled l.l l.ps l.w l.i l.rows
