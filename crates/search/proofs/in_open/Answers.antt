use native.Mathlib.Omega.{arith}
use mathlib.Core.Path.{◌≡◌}
use Prim.Native.Nat.{◌/◌, ◌≤◌}
use Rattle.keys.specs.Key.{key_is}
use Rattle.search.specs.Find.{stop_of}
use Rattle.search.proofs.Volume.{open_few, open_in_flash, open_on_flash, cost_on_flash, open_on_ram, cost_on_ram}
use Rattle.search.proofs.in_open.Goals as goal
use Rattle.search.proofs.in_open.Goals.{then-v+else-p-v, else-v}

-- The entries past the last full page lie on flash or in RAM.

-- ---- on flash

pub in_page-requires : goal.in_page-requires
in_page-requires c =
    let q = c.entries_per_page-per_page in
    (c.requires, open_in_flash c.requires q.result q.ensures c.if-p-v.true c.page_start.result c.page_start.ensures, open_few c.requires q.result q.ensures)

pub returns-then-p-v : goal.returns-then-p-v
returns-then-p-v c =
    let q = c.entries_per_page-per_page in
    record {
      end_value = open_on_flash c.requires q.result q.ensures c.if-p-v.true c.page_start.result c.page_start.ensures (key_is c.args.key)
          (stop_of c.in_page.result.end) c.in_page.ensures.end_value;
      opened = c.in_page.ensures.opened;
      pages = cost_on_flash c.requires q.result q.ensures c.if-p-v.true c.page_start.result c.page_start.ensures (key_is c.args.key)
          c.in_page.result.da_pages c.in_page.ensures.pages;
    }

-- ---- in RAM

pub returns : goal.returns
returns c =
    let v = c.args.v in
    let q = c.entries_per_page-per_page in
    -- no page was filled since
    let none_filled : v.n / q.result ≤ v.n0 / q.result = elim c.if-v.branch [
      | then-v+else-p-v w ↦ w.if-p-v.false
      | else-v w ↦ let e : v.n ≡ v.n0 = omega (arith, w.if-v.false, c.requires.n0_le) in rw e (omega arith)
    ] in
    record {
      end_value = open_on_ram c.requires q.result q.ensures c.ka_ram.result c.ka_ram.ensures none_filled (key_is c.args.key)
          (stop_of c.in_page-2.result.end) c.in_page-2.ensures.end_value;
      opened = c.in_page-2.ensures.opened;
      pages = cost_on_ram c.requires q.result q.ensures c.ka_ram.result c.ka_ram.ensures none_filled (key_is c.args.key)
          c.in_page-2.result.da_pages c.in_page-2.ensures.pages;
    }
