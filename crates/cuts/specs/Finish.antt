-- A call as steps, cut after any number of them, then restarts cut after any numbers of steps, then one with enough: all is as after the
-- call uncut. Of any call whose restart makes the same end of its list; `Recover` has the changing calls and `Formats` the format.
use Rattle.std.specs.Prelude.{cond, List, [], ◌∷◌, ◌++◌, ℕ, ◌+◌, length, take, leb}
use Rattle.layout.specs.Geometry.{State}
use Rattle.layout.specs.Flash.{Op, Flash}
use Rattle.layout.specs.Calls.{accepted, Result}
use Rattle.cuts.specs.Later.{later}
use Rattle.layout.specs.Budgets.{Step, store, memory, steps, chips, ops_in}

-- b of the steps `ss` on a volume of state s: state, chip and RAM, and the operations done
abbrev pub ran : ℕ → ℕ → State → State → Flash → List ℕ → List Step → Result
ran u b st s' X ram ss = record {
  outcome = accepted;
  count = 0;
  da_pages = 0;
  volume = record {
    state = cond (leb (length ss) b) s' st;
    flash = (steps u (take b ss) (memory X ram)).flash;
    ram = (steps u (take b ss)
        (memory X ram)).ram;
  };
  ops = ops_in (take b ss);
}

abbrev pub rest_of : Flash → List Op → List ℕ → List Step
rest_of X ops finished = chips (later X.spare ops) ++ (store finished ∷ [])

abbrev pub all_of : List ℕ → List Op → List ℕ → List Step
all_of intended ops finished = store intended ∷ (chips ops ++ (store finished ∷ []))
