-- The numbers of a plan without what the code's types say of them besides, so that any geometry of the layout has them.
use Rattle.std.specs.Prelude.{ℕ}
use Rattle.layout.specs.Index.{Index}
use Rattle.geometry.specs.Indexes.{index_of}
use Rattle.plan.specs.declared.Segment.{Segment}
use Rattle.plan.specs.declared.Summary.{Summary}
use Rattle.plan.specs.declared.Plan.{Plan}

-- how filters leave the SKA page of an index of the layout
pub record SummaryNumbers : Type 0 where
  pub piece : ℕ
  pub flush : Segment
  pub set : Segment
  pub l1 : Segment
  pub old : Segment
  pub index : Index
  pub full_sets : ℕ
  pub rounds : ℕ

-- the operations of a change on a chip of sectors of 8 * unit bytes
pub record PlanNumbers : Type 0 where
  pub unit : ℕ
  pub da : Segment
  pub da_index : SummaryNumbers
  pub ra : Segment
  pub ka : Segment
  pub ka_index : SummaryNumbers

-- those of the code's
abbrev pub summary_numbers : Summary → SummaryNumbers
summary_numbers s = record {
  piece = s.piece;
  flush = s.flush;
  set = s.set;
  l1 = s.l1;
  old = s.old;
  index = index_of s.next.index;
  full_sets = s.next.full_sets;
  rounds = s.next.rounds;
}

abbrev pub plan_numbers : Plan → PlanNumbers
plan_numbers p = record {
  unit = p.chip.unit;
  da = p.da;
  da_index = summary_numbers p.da_index;
  ra = p.ra;
  ka = p.ka;
  ka_index = summary_numbers p.ka_index;
}
