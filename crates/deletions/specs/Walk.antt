-- The parts of a test: numbers in a row of bytes, the pages of a word of filters, and the pages below a number.
use Rattle.std.specs.Prelude.{◌≡◌, Bool, true, ◌||◌, cond, List, ℕ, ◌+◌, ◌*◌, ◌/◌, ◌%◌, ◌≤◌, ◌<◌, eqb, length}
use Rattle.std.proofs.Math.Option.{Option, none, some}
use Rattle.memory.specs.Bits.{bit}
use Rattle.memory.specs.Words.{word}
use Rattle.layout.specs.Keys.{word_size}
use Rattle.layout.specs.Geometry.{page, deletions_per_page}
use Rattle.layout.specs.Search.{Stop, Found, found, scan, search_pages}
use Rattle.layout.specs.Calls.{try_deletion, maybe_deleted, deletion_filters}
use Rattle.geometry.specs.Shape.{shape}
use Rattle.geometry.specs.Indexes.{deletion_index_for}
use Rattle.filter.specs.declared.groups.Filters.{Filters}
use Rattle.deletions.specs.declared.Deletions.{Deletions}
use Rattle.deletions.specs.Test.{held}

-- where a test of number j ends, if it is met or not
abbrev pub test_stop : ℕ → Bool → Option Stop
test_stop j met = cond met (some (found j)) none

-- deletion i of these
abbrev pub try_held : Deletions → List ℕ → List ℕ → ℕ → ℕ → Option Stop
try_held t main ram j = try_deletion (shape t.g) (held t main ram) j

-- number k of those that lie from byte `start` on
abbrev pub try_word : List ℕ → ℕ → ℕ → ℕ → Option Stop
try_word bytes start j k = test_stop j (eqb (word bytes (start + k * word_size)) j)

-- those of the page that the first d₀ do not fill
abbrev pub past_pages : Deletions → List ℕ → List ℕ → ℕ → Option Stop
past_pages t main ram j =
    let q : ℕ = deletions_per_page t.g.chip.unit in
    scan (try_held t main ram j) (t.d0 / q * q) (t.d0 % q)

-- the full pages below a number, opened by the bits of some positions
abbrev pub test_below : Deletions → List ℕ → List ℕ → ℕ → List ℕ → ℕ → Found
test_below t main ram j ps below =
    search_pages (maybe_deleted (shape t.g) (held t main ram) ps) (try_held t main ram j) (deletions_per_page t.g.chip.unit) below

-- is one of the two filters of page i of a word open
abbrev pub either_bit : ℕ → ℕ → Bool
either_bit bits i = bit bits (2 * i) || bit bits (2 * i + 1)

-- the pages of a word that are to be opened lie within the flash
pub record WordPagesIn (u start bits : ℕ) (main : List ℕ) : Type 0 where
  pub page_in : (i : ℕ) → i < 32 → either_bit bits i ≡ true → start + i * page u + page u ≤ length main

-- the filters of its deletions, all of them
abbrev pub deletion_filters_of : Deletions → Filters
deletion_filters_of t = record { chip = t.g.chip; index = deletion_index_for t.g; count = deletion_filters (shape t.g) t.d }
