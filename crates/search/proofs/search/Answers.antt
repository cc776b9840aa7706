use native.Mathlib.Omega.{arith}
use borrow.Author.Rules.{rules}
use mathlib.Core.Path.{◌≡◌, refl, sym, ap, ◌∙◌}
use mathlib.Core.List.{List}
use mathlib.Core.Option.{none, some}
use Prim.Native.Nat.{ℕ, ◌+◌, ◌*◌, ◌%◌, ◌<◌}
use lib.ListN.{take}
use Rattle.layout.specs.Keys.{Key, key_bytes}
use Rattle.layout.specs.Hash.{fnv_family}
use Rattle.layout.specs.Search.{Stop, found, corrupt, scan, scan_cost}
use Rattle.layout.specs.Calls.{search_at, da_pages_at}
use Rattle.laws.specs.Positions.{take_positions}
use Rattle.geometry.specs.Shape.{shape}
use Rattle.keys.specs.Key.{key_is}
use Rattle.search.specs.declared.View.{View}
use Rattle.search.specs.declared.Found.{Found}
use Rattle.search.specs.declared.End.{End}
use Rattle.search.specs.declared.End.TheVariants.{Nothing, Live, Corrupt}
use Rattle.search.specs.Find.{stop_of, found_of, viewed, try_of, cost_of}
use Rattle.search.proofs.Volume.{per_page, pages_then, search_is, search_cost, search_open, cost_open, all_most}
use Rattle.search.proofs.search.Goals as goal

-- The entries past the last full page first, then full pages.

-- ---- it ended before the full pages

stopped : (e : End) → (e ≡ Nothing → ⊥) → (r : Stop) × (stop_of e ≡ some r)
stopped Nothing n = absurd (n refl)
stopped (Live j) n = (found j, refl)
stopped Corrupt n = (corrupt, refl)

module _ (v : View) (main ram : List ℕ) (key : Key) (o : Found) {r : Stop} (s : stop_of o.end ≡ some r)
    (e : stop_of o.end ≡ scan (try_of v main ram key) (pages_then v * per_page v) (v.n0 % per_page v)) where
  ended : o.opened ≡ 0 → found_of o ≡ search_at fnv_family (shape v.g) (viewed v main ram) v.n0 v.d0 key
  ended z = rw (s, z) (search_is v main ram key (some r) (sym s ∙ e))

  ended_cost : o.da_pages ≡ scan_cost (try_of v main ram key) (cost_of v main ram key) (pages_then v * per_page v) (v.n0 % per_page v)
      → o.da_pages ≡ da_pages_at fnv_family (shape v.g) (viewed v main ram) v.n0 v.d0 key
  ended_cost p = omega (arith, search_cost v main ram key (some r) o.da_pages (sym s ∙ e) p)

pub returns-then-ne : goal.returns-then-ne
returns-then-ne c =
    let x = c.args in
    let o = c.in_open-o in
    let is : o.result.end ≡ Nothing → ⊥ = search rules in
    let s = stopped o.result.end is in
    record {
      found = ended x.v x.main.now x.ram.now (key_is x.key) o.result s.1 o.ensures.end_value o.ensures.opened;
      pages = ended_cost x.v x.main.now x.ram.now (key_is x.key) o.result s.1 o.ensures.end_value o.ensures.pages;
    }

-- ---- it did not

pub returns-then-v-entries_per_page : goal.returns-then-v-entries_per_page
returns-then-v-entries_per_page c =
    let x = c.args in
    let is : c.in_open-o.result.end ≡ Nothing = search rules in
    let e = rw is at c.in_open-o.ensures.end_value in
    let some_fit : 0 < per_page x.v = omega (arith, c.args.v.g.power.some) in
    let few = rw c.entries_per_page.ensures at c.if-v-entries_per_page.true in
    record {
      found = rw (is, c.in_open-o.ensures.opened) (search_open x.v x.main.now x.ram.now (key_is x.key) some_fit few e);
      pages = cost_open x.v x.main.now x.ram.now (key_is x.key) some_fit few e c.in_open-o.result.da_pages c.in_open-o.ensures.pages;
    }

pub overflow_add-result : goal.overflow_add-result
overflow_add-result c =
    let x = c.args in
    omega (
      arith,
      all_most c.requires (key_is x.key) c.in_open-o.result.da_pages c.in_pages-f.result.da_pages
          (take x.v.g.hashes c.positions-ps.result) c.in_open-o.ensures.pages c.in_pages-f.ensures.pages,
    )

pub returns : goal.returns
returns c =
    let x = c.args in
    let is : c.in_open-o.result.end ≡ Nothing = search rules in
    let e = rw is at c.in_open-o.ensures.end_value in
    let positions = take_positions fnv_family x.v.g.hashes x.v.g.chip.unit (key_bytes (key_is x.key)) in
    let f = rw (c.positions-ps.ensures.equal, c.of_key.ensures, positions) at c.in_pages-f.ensures.result_value in
    let d = rw (c.positions-ps.ensures.equal, c.of_key.ensures, positions) at c.in_pages-f.ensures.pages in
    record {
      found = f ∙ search_is x.v x.main.now x.ram.now (key_is x.key) none e;
      pages = ap (λ (k : ℕ). c.in_open-o.result.da_pages + k) d
          ∙ search_cost x.v x.main.now x.ram.now (key_is x.key) none c.in_open-o.result.da_pages e c.in_open-o.ensures.pages;
    }
