-- What a step of a change keeps, and what a step that adds an item or a filter does.
use Rattle.std.specs.Prelude.{refl, List, ℕ, ◌+◌, ◌*◌, ◌≤◌}
use Rattle.std.proofs.Common.{◌∙◌, inr, mul-le-mul_right, arith}
use Rattle.layout.specs.Geometry.{Geometry, page, blocks, ram_size}
use Rattle.layout.specs.Flash.{Flash}
use Rattle.history.specs.Frames.{Beyond, Frame}

pub beyond_same : (g : Geometry) (C : Flash) (r : List ℕ) → Beyond g C C r r
beyond_same g C r = record {
  main = λ x l. refl;
  spare = λ x l. refl;
  ram = λ x l. refl;
  main_length = refl;
  spare_length = refl;
  ram_length = refl;
}

pub beyond_then : (g : Geometry) (A B C : Flash) (r s t : List ℕ) → Beyond g A B r s → Beyond g B C s t → Beyond g A C r t
beyond_then g A B C r s t p q = record {
  main = λ x l. q.main x l ∙ p.main x l;
  spare = λ x l. q.spare x l ∙ p.spare x l;
  ram = λ x l. q.ram x l ∙ p.ram x l;
  main_length = q.main_length ∙ p.main_length;
  spare_length = q.spare_length ∙ p.spare_length;
  ram_length = q.ram_length ∙ p.ram_length;
}

pub frame_beyond : (g : Geometry) (lo hi p : ℕ) (C C' : Flash) (r r' : List ℕ) → Frame g.u lo hi p C C' r r'
    → hi ≤ blocks g → p + page g.u ≤ ram_size g → Beyond g C C' r r'
frame_beyond g lo hi p C C' r r' W b q = record {
  main = λ x l. W.main x (inr (omega (arith, mul-le-mul_right (1024 * g.u) b)));
  spare = λ x l. W.spare x (inr (omega arith));
  ram = λ x l. W.ram x (inr (omega arith));
  main_length = W.main_length;
  spare_length = W.spare_length;
  ram_length = W.ram_length;
}
