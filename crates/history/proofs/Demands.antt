-- Demands 2 and 3 of document 01, for every hash family and every list of calls after an accepted format.
-- Their words (runs, program order, agreement, history, image) are defined in Runs and Image; the calls and the map in `layout`.
use Rattle.std.specs.Prelude.{◌≡◌, true, false, List}
use Rattle.layout.specs.Geometry.{geometry, allowed, Sizes}
use Rattle.layout.specs.Hash.{Family}
use Rattle.layout.specs.Calls.{Volume, Call, too_short, format}
use Rattle.history.specs.Live.{empty_history}
use Rattle.history.specs.Runs.{KeyWords, after, history_of, ImageOf}
use Rattle.history.proofs.DemandLaws as laws
use Rattle.history.specs.Demands.{Run}

-- Demand 3: one claim about the whole list of calls
pub demand_3 : (h : Family) (v : Volume) (sizes : Sizes) (calls : List Call)
    → allowed sizes ≡ true → too_short (geometry sizes) v.flash v.ram ≡ false → KeyWords calls
    → Run h v sizes calls
demand_3 h v sizes calls can long words = record {
  formatted_ok = laws.format_accepted h v sizes calls can long words;
  started = laws.format_state h v sizes calls can long words;
  agrees = laws.each_agrees h v sizes calls can long words;
  flash_is = laws.flash_is h v sizes calls can long words;
  in_order = laws.all_in_order h v sizes calls can long words;
}

-- Demand 2: after every list of calls the volume's bytes are the image of the history of accepted calls
pub demand_2 : (h : Family) (v : Volume) (sizes : Sizes) (calls : List Call)
    → allowed sizes ≡ true → too_short (geometry sizes) v.flash v.ram ≡ false → KeyWords calls
    → ImageOf h (geometry sizes) (history_of h (format v sizes).volume empty_history calls) v (after h (format v sizes).volume calls)
demand_2 h v sizes calls can long words = laws.image_of h v sizes calls can long words
