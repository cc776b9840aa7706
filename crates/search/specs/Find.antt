-- What the search's contract compares: the code's answers as the layout's, and the volume as far as a search reads it.
use Rattle.std.specs.Prelude.{◌≡◌, Bool, List, [], ℕ, ◌+◌, ◌*◌, ◌/◌, ◌≤◌}
use Rattle.std.proofs.Math.Path.{refl, sym}
use Rattle.std.proofs.Math.Option.{Option, none, some}
use Rattle.std.proofs.Common.{arith}
use Rattle.memory.specs.Words.{word}
use Rattle.layout.specs.Keys.{word_size, Key, key_at, number_in}
use Rattle.layout.specs.Geometry as layout
use Rattle.layout.specs.Flash.{flash_of}
use Rattle.layout.specs.Items.{entry_size}
use Rattle.layout.specs.Hash.{Family, fnv_family}
use Rattle.layout.specs.Search as find
use Rattle.layout.specs.Calls.{Volume, try_deletion, maybe_deleted, test_deletion, tested_deleted, try_at, try_cost, maybe_in}
use Rattle.layout.specs.Calls.{search_at, da_pages_at, search, search_da_pages}
use Rattle.laws.specs.Lengths.{Readable}
use Rattle.geometry.specs.declared.volume.Geometry.{Geometry}
use Rattle.geometry.specs.Shape.{shape}
use Rattle.geometry.specs.Indexes.{index_for}
use Rattle.deletions.specs.declared.Deletions.{Deletions}
use Rattle.filter.specs.declared.groups.Filters.{Filters}
use Rattle.search.specs.declared.View.{View}
use Rattle.search.specs.declared.End.{End}
use Rattle.search.specs.declared.End.TheVariants.{Nothing, Live, Corrupt}
use Rattle.search.specs.declared.Found.{Found}

-- ---- answers

-- where a search ended
abbrev pub stop_of : End → Option find.Stop
stop_of Nothing = none
stop_of (Live j) = some (find.found j)
stop_of Corrupt = some find.corrupt

abbrev pub found_of : Found → find.Found
found_of r = find.reply (stop_of r.end) r.opened

-- ---- what is searched

-- all records and deletions
abbrev pub whole : Geometry → ℕ → ℕ → View
whole g n d = record { g = g; n = n; d = d; n0 = n; d0 = d }

-- a volume with these bytes; a search reads nothing else of it
abbrev pub viewed : View → List ℕ → List ℕ → Volume
viewed v main ram = record { state = layout.state_of (layout.sizes_of 0 0 0 0) v.n v.d; flash = flash_of main []; ram = ram }

-- the lent bytes hold a volume, of which no more is searched than there is
pub record ViewFits (v : View) (main ram : List ℕ) : Type 0 where
  pub read : Readable (shape v.g) main ram
  pub n_cap : v.n ≤ layout.record_capacity (shape v.g)
  pub d_cap : v.d ≤ layout.deletion_capacity (shape v.g)
  pub n0_le : v.n0 ≤ v.n
  pub d0_le : v.d0 ≤ v.d

-- ---- all of a volume

module _ (w : Volume) (g : Geometry) (v : View) (is : v ≡ whole g w.state.records w.state.deletions) where
  pub view_fits : Readable (shape g) w.flash.main w.ram
      → w.state.records ≤ layout.record_capacity (shape g) → w.state.deletions ≤ layout.deletion_capacity (shape g)
      → ViewFits v w.flash.main w.ram
  view_fits read n_cap d_cap =
      rw is record {
        read = read;
        n_cap = n_cap;
        d_cap = d_cap;
        n0_le = omega arith;
        d0_le = omega arith;
      }

  -- what a search of all found is the volume's
  pub search_is : (h : Family) (key : Key) (r : Found)
      → found_of r ≡ search_at h (shape v.g) (viewed v w.flash.main w.ram) v.n0 v.d0 key
      → search h (shape g) w key ≡ found_of r
  unfolding search_at maybe_in try_at test_deletion try_deletion maybe_deleted
  search_is h key r e = sym (rw is at e)

  -- and so are the pages of deletions that it opened
  pub search_pages_lem : (h : Family) (key : Key) (r : Found)
      → r.da_pages ≡ da_pages_at h (shape v.g) (viewed v w.flash.main w.ram) v.n0 v.d0 key
      → search_da_pages h (shape g) w key ≡ r.da_pages
  unfolding da_pages_at maybe_in try_at try_cost test_deletion try_deletion maybe_deleted
  search_pages_lem h key r e = sym (rw is at e)

-- ---- the same over any geometry of the layout

-- what a search reads of a volume
abbrev pub read_of : Volume → Volume
read_of w =
    record {
      state = layout.state_of (layout.sizes_of 0 0 0 0) w.state.records w.state.deletions;
      flash = flash_of w.flash.main [];
      ram = w.ram;
    }

module _ (h : Family) (g : layout.Geometry) (w : Volume) (key : Key) where
  pub search_read : search_at h g (read_of w) w.state.records w.state.deletions key ≡ search h g w key
  unfolding search_at maybe_in try_at test_deletion try_deletion maybe_deleted
  search_read = refl

  pub search_pages_read : da_pages_at h g (read_of w) w.state.records w.state.deletions key ≡ search_da_pages h g w key
  unfolding da_pages_at maybe_in try_at try_cost test_deletion try_deletion maybe_deleted
  search_pages_read = refl

-- ---- its parts

-- entry j of the view, and the pages of deletions opened to try it
abbrev pub try_of : View → List ℕ → List ℕ → Key → ℕ → Option find.Stop
try_of v main ram key = try_at fnv_family (shape v.g) (viewed v main ram) v.n0 v.d0 key

abbrev pub cost_of : View → List ℕ → List ℕ → Key → ℕ → ℕ
cost_of v main ram key = try_cost fnv_family (shape v.g) (viewed v main ram) v.n0 v.d0 key

-- is number j among its deletions, and the pages opened to test it
abbrev pub deleted_of : View → List ℕ → List ℕ → ℕ → Bool
deleted_of v main ram = tested_deleted fnv_family (shape v.g) (viewed v main ram) v.d0

abbrev pub test_cost : View → List ℕ → List ℕ → ℕ → ℕ
test_cost v main ram j = (test_deletion fnv_family (shape v.g) (viewed v main ram) v.d0 j).opened

-- entry k of those that lie from byte `start` of a page's bytes on, and what trying it costs
abbrev pub try_in : View → List ℕ → List ℕ → Key → List ℕ → ℕ → ℕ → Option find.Stop
try_in v main ram key bytes start k =
    find.try_entry v.n0 (deleted_of v main ram) key (key_at bytes (start + k * entry_size))
    (number_in (word bytes (start + k * entry_size + word_size)))

abbrev pub cost_in : View → List ℕ → List ℕ → Key → List ℕ → ℕ → ℕ → ℕ
cost_in v main ram key bytes start k =
    find.entry_cost v.n0 (test_cost v main ram) key (key_at bytes (start + k * entry_size))
    (number_in (word bytes (start + k * entry_size + word_size)))

-- the full pages below a number, opened by the bits of some positions
abbrev pub pages_below : View → List ℕ → List ℕ → Key → List ℕ → ℕ → find.Found
pages_below v main ram key ps below =
    find.search_pages (maybe_in (shape v.g) (viewed v main ram) ps) (try_of v main ram key) (layout.entries_per_page v.g.chip.unit) below

-- what the search of them costs
abbrev pub cost_below : View → List ℕ → List ℕ → Key → List ℕ → ℕ → ℕ
cost_below v main ram key ps below =
    find.pages_cost (maybe_in (shape v.g) (viewed v main ram) ps) (try_of v main ram key) (cost_of v main ram key)
    (layout.entries_per_page v.g.chip.unit) below

-- its deletions, as a test takes them
abbrev pub deletions_of : View → Deletions
deletions_of v = record { g = v.g; d = v.d; d0 = v.d0 }

-- the filters of its entries, all of them
abbrev pub filters_of : View → Filters
filters_of v =
    record { chip = v.g.chip; index = index_for v.g; count = v.n / layout.entries_per_page v.g.chip.unit }
