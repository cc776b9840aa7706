use mathlib.Core.Path.{ap, ◌∙◌}
use Rattle.layout.specs.Hash.{fnv_family}
use Rattle.layout.specs.Items.{Area, item_place}
use Rattle.layout.specs.Search as find
use Rattle.geometry.specs.Shape.{shape}
use Rattle.search.specs.Find.{stop_of, search_is, search_pages_lem}
use Rattle.search.specs.declared.End.{End}
use Rattle.keys.specs.Key.{key_is}
use Rattle.state.specs.Contract.{volume}
use Rattle.lookup.proofs.LookupLaws.{lookup_corrupt, lookup_nothing, lookup_live}
use Rattle.lookup.proofs.find_in.Goals as goal

-- The layout's lookup by what the search of all records found.

pub returns-in-Corrupt : goal.returns-in-Corrupt
returns-in-Corrupt c =
    let x = c.args in
    let v = volume x.s x.main.now x.spare.now x.ram.now in
    let f = search_is v x.g c.all.result c.all.ensures fnv_family (key_is x.key) c.search-f.result c.search-f.ensures.found
    ∙ ap (λ (y : End). find.reply (stop_of y) c.search-f.result.opened) c.in-Corrupt.is in
    lookup_corrupt fnv_family (shape x.g) v (key_is x.key) c.search-f.result.opened f

pub returns-in-Nothing : goal.returns-in-Nothing
returns-in-Nothing c =
    let x = c.args in
    let v = volume x.s x.main.now x.spare.now x.ram.now in
    let f = search_is v x.g c.all.result c.all.ensures fnv_family (key_is x.key) c.search-f.result c.search-f.ensures.found
    ∙ ap (λ (y : End). find.reply (stop_of y) c.search-f.result.opened) c.in-Nothing.is in
    let d = search_pages_lem v x.g c.all.result c.all.ensures fnv_family (key_is x.key) c.search-f.result c.search-f.ensures.pages in
    lookup_nothing fnv_family (shape x.g) v (key_is x.key) c.search-f.result.opened c.search-f.result.da_pages f d

pub returns-in-Live : goal.returns-in-Live
returns-in-Live c =
    let x = c.args in
    let v = volume x.s x.main.now x.spare.now x.ram.now in
    let f = search_is v x.g c.all.result c.all.ensures fnv_family (key_is x.key) c.search-f.result c.search-f.ensures.found
    ∙ ap (λ (y : End). find.reply (stop_of y) c.search-f.result.opened) c.in-Live.is in
    let d = search_pages_lem v x.g c.all.result c.all.ensures fnv_family (key_is x.key) c.search-f.result c.search-f.ensures.pages in
    let p = c.item_place.ensures ∙ ap (λ (a : Area). item_place x.g.chip.unit a x.s.records c.in-Live.j) c.record_area.ensures in
    lookup_live fnv_family (shape x.g) v (key_is x.key) c.search-f.result.opened c.search-f.result.da_pages c.in-Live.j c.item_place.result f d p
