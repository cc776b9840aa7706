-- A load is the calls of its rows, up to the first that the store refuses and with it: it leaves what they leave, and tells how many of
-- them were accepted.
use Rattle.std.proofs.Math.Option.{Option, none, some}
use mathlib.Core.List.{List, [], ◌∷◌}
use Prim.Native.Nat.{ℕ, suc}
use Rattle.layout.specs.Hash.{Family}
use Rattle.layout.specs.Calls.{Call, Outcome, accepted, hit, miss, refused, Volume, call}
use Rattle.tab.specs.Grammar.{Row}
use Rattle.tab.specs.Reader.{body, rows_of}
use Rattle.load.specs.Load.{row_call}

-- a call that is refused is the last
abbrev pub accepts : Outcome → Call → List Call → List Call
accepts accepted c cs = c ∷ cs
accepts (hit place bytes) c cs = c ∷ cs
accepts miss c cs = c ∷ cs
accepts (refused i) c cs = c ∷ []

-- a call that is refused does not count
abbrev pub counted : Outcome → ℕ → ℕ
counted accepted n = suc n
counted (hit place bytes) n = suc n
counted miss n = suc n
counted (refused i) n = n

module _ (h : Family) where
  -- the calls of the rows that the store sees
  unfoldable pub row_calls : Volume → List Row → List Call
  row_calls v [] = []
  row_calls v (r ∷ rs) = accepts (call h v (row_call h v r)).outcome (row_call h v r) (row_calls (call h v (row_call h v r)).volume rs)

  abbrev pub lines_calls : Volume → Option (List ℕ) → List Call
  lines_calls v none = []
  lines_calls v (some lines) = row_calls v (rows_of lines).rows

  -- the calls of a tab's rows
  abbrev pub tab_calls : Volume → List ℕ → List Call
  tab_calls v text = lines_calls v (body text)
