use mathlib.Core.Path.{◌≡◌, sym, ap, subst, ◌∙◌}
use mathlib.Core.List.{List}
use Prim.Native.Nat.{ℕ, ◌-◌}
use lib.ListN.{length, take}
use Rattle.std.specs.Prelude.{Result, Ok}
use Rattle.layout.specs.Hash.{fnv_family}
use Rattle.layout.specs.Keys.{Key}
use Rattle.layout.specs.Calls.{Volume, search_at}
use Rattle.layout.specs.Header.{header_size, on_pages}
use Rattle.layout.specs.Search as find
use Rattle.laws.specs.HeaderLaws.{pages_part}
use Rattle.geometry.specs.Shape.{shape}
use Rattle.geometry.specs.declared.volume.Geometry.{Geometry}
use Rattle.keys.specs.Key.{key_is}
use Rattle.search.specs.Find.{stop_of, found_of, whole, viewed, view_fits, search_is}
use Rattle.search.specs.declared.End.{End}
use Rattle.search.specs.declared.Found.{Found}
use Rattle.search.specs.declared.View.{View}
use Rattle.state.specs.Contract.{volume}
use Rattle.state.specs.Judge.{VolumeFits, GoodFits}
use Rattle.state.specs.declared.State.{State}
use Rattle.state.specs.declared.Refusal.{Refusal}
use Rattle.calls.specs.Resolve.{stopped, resolved_by}
use Rattle.calls.proofs.CallsLaws.{header_fits}
use Rattle.calls.proofs.resolve_judged.Goals as goal

-- what the judgement says of the geometry
fits : (w : Volume) (j : Result Geometry Refusal) (g : Geometry) → j ≡ Ok g → GoodFits w j → VolumeFits w g
fits w j g e f = subst (GoodFits w) e f

-- by where the search of the lent pages ended
ended : (s : State) (main spare ram : List ℕ) (n : ℕ) → n ≡ length ram - header_size → (j : Result Geometry Refusal)
    → (g : Geometry) → j ≡ Ok g → (v : View) → v ≡ whole g s.records s.deletions → (key : Key) (f : Found)
    → found_of f ≡ search_at fnv_family (shape v.g) (viewed v main (take (n - 0) ram)) v.n0 v.d0 key → (end : End) → f.end ≡ end
    → stopped g (stop_of end) ≡ resolved_by j (on_pages (volume s main spare ram)) key
ended s main spare ram n n_is j g j_is v v_is key f found end is =
    let w = on_pages (volume s main spare ram) in
    let met = search_is w g v v_is fnv_family key f (rw (pages_part ram n n_is) at found) in
    ap (λ (t : End). stopped g (stop_of t)) (sym is) ∙ ap (λ (x : find.Found). stopped g x.stop) (sym met)
    ∙ ap (λ (x : Result Geometry Refusal). resolved_by x w key) (sym j_is)

pub pages_end-n-requires : goal.pages_end-n-requires
pages_end-n-requires c =
    let v = volume c.args.s c.args.main.now c.args.spare.now c.args.ram.now in
    header_fits v c.in_ok-g.g (fits (on_pages v) c.args.j c.in_ok-g.g c.in_ok-g.was c.requires)

pub search-f-requires : goal.search-f-requires
search-f-requires c =
    let w = on_pages (volume c.args.s c.args.main.now c.args.spare.now c.args.ram.now) in
    let f = fits w c.args.j c.in_ok-g.g c.in_ok-g.was c.requires in
    rw (pages_part c.args.ram.now c.pages_end-n.result c.pages_end-n.ensures)
    (view_fits w c.in_ok-g.g c.all-v.result c.all-v.ensures f.long.read f.n_cap f.d_cap)

pub returns-in-Corrupt-clause-equal : goal.returns-in-Corrupt-clause-equal
returns-in-Corrupt-clause-equal c =
    let x = c.args in
    ended x.s x.main.now x.spare.now x.ram.now _ c.pages_end-n.ensures x.j c.in_ok-g.g c.in_ok-g.was _ c.all-v.ensures (key_is x.key)
    c.search-f.result c.search-f.ensures.found _ c.in-Corrupt.is

pub returns-in-Nothing-clause-equal : goal.returns-in-Nothing-clause-equal
returns-in-Nothing-clause-equal c =
    let x = c.args in
    ended x.s x.main.now x.spare.now x.ram.now _ c.pages_end-n.ensures x.j c.in_ok-g.g c.in_ok-g.was _ c.all-v.ensures (key_is x.key)
    c.search-f.result c.search-f.ensures.found _ c.in-Nothing.is

pub returns-in-Live-clause-equal : goal.returns-in-Live-clause-equal
returns-in-Live-clause-equal c =
    let x = c.args in
    ended x.s x.main.now x.spare.now x.ram.now _ c.pages_end-n.ensures x.j c.in_ok-g.g c.in_ok-g.was _ c.all-v.ensures (key_is x.key)
    c.search-f.result c.search-f.ensures.found _ c.in-Live.is
