use native.Mathlib.Omega.{arith}
use mathlib.Core.Path.{◌≡◌, ap}
use mathlib.Core.Bool.{Bool, true, false}
use mathlib.Core.Option.{Option, none}
use mathlib.Core.List.{List}
use Prim.Native.Nat.{ℕ, ◌+◌, ◌*◌, ◌-◌, ◌/◌, ◌≤◌, ◌<◌}
use lib.ListN.{get_or}
use Rattle.layout.specs.Geometry as layout
use Rattle.layout.specs.Calls.{deletion_index, deletion_filters, maybe_deleted}
use Rattle.layout.specs.Search.{Stop, found, reply, search_pages}
use Rattle.laws.specs.WalkLaws.{Words, Pages, Part, part_few, part_ended, part_next, free, lesser, Shown}
use Rattle.laws.specs.WalkLaws.{words_next, words_left, words_end}
use Rattle.laws.specs.Walks.{onward}
use Rattle.geometry.specs.Shape.{shape, unit_sound}
use Rattle.filter.specs.Blocks.{BlockAt}
use Rattle.filter.specs.declared.groups.Block.{Block}
use Rattle.deletions.specs.declared.Deletions.{Deletions}
use Rattle.deletions.specs.Test.{held, DeletionsFit}
use Rattle.deletions.specs.Walk.{test_stop, try_word, try_held, test_below, either_bit, WordPagesIn}
use Rattle.deletions.proofs.Volume.{per_page, pages, pages_then, page_at, first_lt, first_few, block_shows, word_in, word_part}
use Rattle.deletions.proofs.Volume.{pages_few, pages_then_lem, page_in, sets_le, index_fits}
use Rattle.deletions.proofs.in_block.Goals as goal

-- What is left of the search at each word of a block.

module _ {t : Deletions} {main ram : List ℕ} (R : DeletionsFit t main ram) {below : ℕ} {ps : List ℕ} {b : Block}
    (B : BlockAt t.g.chip.unit (deletion_index (shape t.g)) main ram (deletion_filters (shape t.g) t.d) (2 * below) ps b)
    (then : below ≤ pages_then t) where
  abbrev gate_at : ℕ → Bool
  gate_at = maybe_deleted (shape t.g) (held t main ram) ps

  abbrev first : ℕ
  first = b.start / 2

  -- pages tested are full ones
  below_le : below ≤ pages t
  below_le = omega (arith, then, pages_then_lem R)

  -- pages that its words show to be open
  shows : Shown either_bit 32 first below b.words gate_at
  shows = block_shows t main ram below ps b B

  block_lt : first < below
  block_lt = first_lt t main ram below ps b B

  module _ (j : ℕ) {opened w : ℕ} (I : Words (try_held t main ram j) free (per_page t) either_bit 32 first below b.words opened 0 w) where
    abbrev try_at : ℕ → Option Stop
    try_at = try_held t main ram j

    -- no word is left
    ended : w ≤ 0 → test_below t main ram j ps below ≡ onward none opened (test_below t main ram j ps first)
    ended h = (words_end I gate_at shows h block_lt).found

    module _ (some : 0 < w) where
      abbrev from : ℕ
      from = first + (w - 1) * 32

      -- there are eight at the most
      word_lt_8 : w - 1 < 8
      word_lt_8 = omega (arith, I.used, first_few t main ram below ps b B, block_lt, some)

      -- and each begins with a page of the block
      from_lt : from < below
      from_lt = omega (arith, I.used, block_lt, some)

      -- the word's pages are left
      left : (gate : ℕ → Bool) → Shown either_bit 32 first below b.words gate
          → Pages gate try_at free (per_page t) below opened 0 (lesser (from + 32) below)
      left gate s = words_left I gate s some

      -- its pages, by their first byte
      module _ {block start at : ℕ} (area : block ≡ layout.da_block (shape t.g)) (area_start : start ≡ block * layout.block t.g.chip.unit)
          (page_start : at ≡ from * layout.page t.g.chip.unit) where
        first_byte : start + at ≡ page_at t from
        first_byte = let z = rw area at area_start in omega (arith, z, page_start)

        pages_in : WordPagesIn t.g.chip.unit (start + at) (get_or b.words (w - 1) 0) main
        pages_in = record {
          page_in = λ k h s.
              let l = word_in first below b.words (w - 1) word_lt_8 gate_at shows k h s in
              omega (arith, first_byte, page_in R (from + k) (omega (arith, l, below_le)));
        }

        module _ (met : Bool) {k : ℕ}
            (e : reply (test_stop j met) k ≡ search_pages (either_bit (get_or b.words (w - 1) 0)) (try_word main (start + at) j) (per_page t) 32) where
          part : (gate : ℕ → Bool) → Shown either_bit 32 first below b.words gate
              → Part gate try_at free (per_page t) (lesser (from + 32) below) from k 0 (test_stop j met)
          part gate s = word_part first below b.words (w - 1) word_lt_8 gate s t main ram j below_le from_lt (start + at) first_byte met k e

          opened_few : opened + k ≤ below
          opened_few = part_few (left gate_at shows) (part gate_at shows)

          found_in : met ≡ true → test_below t main ram j ps below ≡ reply (test_stop j true) (opened + k)
          found_in m = (part_ended (left gate_at shows) (part gate_at shows) (found j) (ap (test_stop j) m)).0

          next : met ≡ false → Words try_at free (per_page t) either_bit 32 first below b.words (opened + k) 0 (w - 1)
          next m =
              words_next try_at free (per_page t) either_bit 32 first below b.words (opened + k) 0 (w - 1) from_lt
              (λ gate s. part_next (left gate s) (part gate s) (ap (test_stop j) m) (omega (arith, from_lt)))

pub block_below-b-requires-clause-by_index : goal.block_below-b-requires-clause-by_index
block_below-b-requires-clause-by_index c =
    let x = c.args in
    let R = c.requires.deletions_fit.0 in
    rw c.filters.ensures (
      (layout.deletion_sets (shape x.t.g), sets_le R, index_fits R),
      omega (arith, pages_few R),
      omega (arith, c.requires.below_nonzero.0),
      omega (arith, c.requires.below_nonzero.1, pages_then_lem R),
    )

pub in_word-r-requires : goal.in_word-r-requires
in_word-r-requires c =
    let R = c.requires.deletions_fit.0 in (
      unit_sound c.args.t.g,
      pages_in R (rw c.filters.ensures at c.block_below-b.ensures) c.requires.below_nonzero.1 c.args.j c.loop-w.invariant c.loop-w-test.true
          c.da_block.ensures c.block_address-start.ensures c.page_address.ensures,
    )

pub overflow_add-opened : goal.overflow_add-opened
overflow_add-opened c =
    let R = c.requires.deletions_fit.0 in
    let few = opened_few R (rw c.filters.ensures at c.block_below-b.ensures) c.requires.below_nonzero.1 c.args.j c.loop-w.invariant c.loop-w-test.true
    c.da_block.ensures c.block_address-start.ensures c.page_address.ensures c.in_word-r.result.met c.in_word-r.ensures in
    omega (arith, few, c.requires.below_nonzero.1, pages_then_lem R, pages_few R)

pub returns-then-r-clause-found : goal.returns-then-r-clause-found
returns-then-r-clause-found c =
    found_in c.requires.deletions_fit.0 (rw c.filters.ensures at c.block_below-b.ensures) c.requires.below_nonzero.1 c.args.j c.loop-w.invariant
    c.loop-w-test.true c.da_block.ensures c.block_address-start.ensures c.page_address.ensures c.in_word-r.result.met c.in_word-r.ensures c.if-r.true

pub loop-w-preserved : goal.loop-w-preserved
loop-w-preserved c =
    next c.requires.deletions_fit.0 (rw c.filters.ensures at c.block_below-b.ensures) c.requires.below_nonzero.1 c.args.j c.loop-w.invariant
    c.loop-w-test.true c.da_block.ensures c.block_address-start.ensures c.page_address.ensures c.in_word-r.result.met c.in_word-r.ensures c.if-r.false

-- no word is left
pub returns-clause-found : goal.returns-clause-found
returns-clause-found c =
    ended c.requires.deletions_fit.0 (rw c.filters.ensures at c.block_below-b.ensures) c.requires.below_nonzero.1 c.args.j c.loop-w.invariant
    (omega arith)
