-- The calls over the history alone, and the invariant between a history and document 01's finite map. Document 01, "Demand 3's map".
use Rattle.std.specs.Prelude.{◌≡◌, refl, true, false, ℕ, ◌<◌, length}
use Rattle.std.proofs.Common.{sym, ◌∙◌, not-suc-le-zero}
use Rattle.std.proofs.Math.Option.{some}
use Rattle.memory.specs.Cases.{either}
use Rattle.memory.specs.Ranges.{last, last_some, memb}
use Rattle.layout.specs.Keys.{Key}
use Rattle.layout.specs.Calls.{one}
use Rattle.layout.specs.FiniteMap.{empty_map, find}
use Rattle.history.proofs.KeyLaws.{key?}
use Rattle.history.specs.Image.{History, record_at}
use Rattle.history.specs.Live.{live_at, find_live, empty_history, Live}

-- it holds at first
pub live_start : Live empty_history empty_map
unfolding last memb find
live_start = record {
  n_is = refl;
  d_is = refl;
  same = λ k. refl;
  count = refl;
  once = tt;
  one = λ k i j h. absurd (not-suc-le-zero h);
  below = λ j h. refl;
}

-- ---- what a search finds is a record that is there

pub live_key : (H : History) (k : Key) (j : ℕ) → live_at H k j ≡ true → (record_at H j).key ≡ k
unfolding live_at
live_key H k j e = either (key? (record_at H j).key k) (λ a. a.1) (λ a. let z : false ≡ true = sym (rw a.0) ∙ e in cc)

pub found_below : (H : History) (k : Key) (j : ℕ) → find_live H k ≡ some j → (j < length H.records) × ((record_at H j).key ≡ k)
found_below H k j e = let s = last_some (live_at H k) (length H.records) j e in (s.0, live_key H k j s.1)
