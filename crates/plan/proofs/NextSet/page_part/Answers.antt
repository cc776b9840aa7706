use native.Mathlib.Omega.{arith}
use Prim.Native.Nat.{ℕ, ◌-◌, ◌≤◌}
use mathlib.Core.Path.{◌≡◌, refl, ap, ◌∙◌}
use lib.ListN.{length, take, drop}
use mathlib.Core.List.{List}
use Rattle.memory.specs.Lists.{tabulate, length_tabulate}
use Rattle.plan.specs.Groups.{page_is, made_size, in_page}
use Rattle.plan.proofs.NextSet.page_part.Goals as goal

pub set_sectors-requires : goal.set_sectors-requires
set_sectors-requires c =
    let P = c.requires.next_fits.0 in
    let O = c.requires.of_page in
    let n = c.sector_address-n in
    record {
      unit_sound = (P.unit, P.rounds);
      j_bound = omega (arith, P.sectors, c.requires.next_fits.1);
      in_main = P.sides;
      shares = c.requires.shares;
      in_page = in_page c.args.self.chip.unit n.result _ c.args.part O n.ensures (made_size _ n.result (omega (arith, n.ensures, O.small)));
    }

-- so many bytes are made
made : (buffer out : List ℕ) (f : ℕ → ℕ) (n : ℕ) → out ≡ tabulate (length (take (n - 0) (drop 0 buffer))) f → n ≤ length buffer
    → length out ≡ n
made buffer out f n e h = ap length e ∙ (length_tabulate _ _ ∙ made_size buffer n h)

pub returns : goal.returns
returns c =
    let n = c.sector_address-n in
    let F = c.requires.next_fits in
    let x = c.args in
    let s = c.set_sectors in
    page_is x.self.chip.unit x.self.set x.self.sector x.part.to _ _ F.0 x.part refl F.1 x.main.now x.spare.now s.new.out _ _ n.result
    (made _ _ _ n.result s.ensures (omega (arith, n.ensures, c.requires.of_page.small))) n.ensures s.ensures c.program_sectors.ensures
