-- Which of the numbers that a C caller lends is which: a state, and the answers of the calls.
use Rattle.std.specs.Prelude.{◌≡◌, refl, cond, List, [], ◌∷◌, ℕ, eqb, get_or, Option, Some, None, Result, Ok, Err}
use Rattle.memory.specs.Bits.{num}
use Rattle.layout.specs.Calls.{Outcome, accepted, refused}
use Rattle.layout.specs.Several.{Several}
use Rattle.state.specs.Contract.{volume, number_of, state_after, cut_or, Effect, CutEffect}
use Rattle.state.specs.declared.Cut as state_cut
use Rattle.state.specs.declared.Refusal.{Refusal}
use Rattle.state.specs.declared.State.{State}
use Rattle.load.specs.declared.Loaded as load
use Rattle.lookup.specs.Results.{LookupNumbers}

-- ---- a state

-- by its words
abbrev state_by : ℕ → ℕ → ℕ → ℕ → ℕ → ℕ → State
state_by S R D k n d =
    record { sizes = record { sector_size = S; ra_blocks = R; da_blocks = D; hash_count = k }; records = n; deletions = d }

-- a state: S, R, D, k, n, d, in the order of the header (document 02, §8: "S, R, D, k, n, d, then the pending call")
abbrev pub state_of : List ℕ → State
state_of l = state_by (get_or l 0 0) (get_or l 1 0) (get_or l 2 0) (get_or l 3 0) (get_or l 4 0) (get_or l 5 0)

-- ---- the answers

-- a changing call's: the refusal, 0 for none, and the state
pub record Change : Type 0 where
  pub refusal : ℕ
  pub state : State

-- a load's: the rows too
pub record Loaded : Type 0 where
  pub refusal : ℕ
  pub rows : ℕ
  pub state : State

-- one with a budget of steps: whether it did all of them, and how many it did
pub record Cut : Type 0 where
  pub refusal : ℕ
  pub finished : ℕ
  pub steps : ℕ
  pub state : State

-- a changing call's answer: the refusal, then the state
abbrev pub change_of : List ℕ → Change
change_of l =
    record {
      refusal = get_or l 0 0;
      state = state_by (get_or l 1 0) (get_or l 2 0) (get_or l 3 0) (get_or l 4 0) (get_or l 5 0) (get_or l 6 0);
    }

-- a load's: the refusal, the rows, the state
abbrev pub loaded_of : List ℕ → Loaded
loaded_of l =
    record {
      refusal = get_or l 0 0;
      rows = get_or l 1 0;
      state = state_by (get_or l 2 0) (get_or l 3 0) (get_or l 4 0) (get_or l 5 0) (get_or l 6 0) (get_or l 7 0);
    }

-- one with a budget of steps: the refusal, whether it did all of them, the state; the steps are a number of its own
abbrev pub cut_of : List ℕ → ℕ → Cut
cut_of l steps =
    record {
      refusal = get_or l 0 0;
      finished = get_or l 1 0;
      steps = steps;
      state = state_by (get_or l 2 0) (get_or l 3 0) (get_or l 4 0) (get_or l 5 0) (get_or l 6 0) (get_or l 7 0);
    }

-- a lookup's: the refusal, whether there is a record, the pages of keys opened, whether it lies in the RAM, its offset; the pages of
-- deletions opened are a number of its own
abbrev pub lookup_result_of : List ℕ → ℕ → LookupNumbers
lookup_result_of l da_pages =
    record {
      refusal = get_or l 0 0;
      found = get_or l 1 0;
      count = get_or l 2 0;
      in_ram = get_or l 3 0;
      offset = get_or l 4 0;
      deletion_count = da_pages;
    }

-- ---- what they say of a call

-- a refusal's number, 0 for accepted
abbrev pub outcome_of : ℕ → Outcome
outcome_of i = cond (eqb i 0) accepted (refused i)

-- what a changing call answers and leaves
abbrev pub change_effect : Change → List ℕ → List ℕ → List ℕ → Effect
change_effect c main spare ram = record { outcome = outcome_of c.refusal; count = 0; left = volume c.state main spare ram }

abbrev pub loaded_by : Loaded → List ℕ → List ℕ → List ℕ → Several
loaded_by r main spare ram = record { outcome = outcome_of r.refusal; done = r.rows; volume = volume r.state main spare ram }

abbrev pub cut_by : Cut → List ℕ → List ℕ → List ℕ → CutEffect
cut_by c main spare ram =
    record { outcome = outcome_of c.refusal; complete = c.finished; steps = c.steps; left = volume c.state main spare ram }

-- ---- the calls' answers in numbers

-- a refusal's number, 0 for none
abbrev pub number_or : Option Refusal → ℕ
number_or None = 0
number_or (Some i) = number_of i

-- the number of an answer's refusal
abbrev pub refusal_in : {A : Type 0} → Result A Refusal → ℕ
refusal_in (Ok x) = 0
refusal_in (Err i) = number_of i

abbrev pub change_is : State → Result State Refusal → Change
change_is handed answer = record { refusal = refusal_in answer; state = state_after handed answer }

abbrev pub loaded_is : load.Loaded → Loaded
loaded_is r = record { refusal = refusal_in r.ended; rows = r.rows; state = r.state }

abbrev pub cut_is : State → Result state_cut.Cut Refusal → Cut
cut_is handed answer =
    record {
      refusal = refusal_in answer;
      finished = num (cut_or handed answer).progress.finished;
      steps = (cut_or handed answer).progress.steps;
      state = (cut_or handed answer).state;
    }

-- ---- values that hold these in place: no two of the numbers are equal

abbrev known : State
known = record { sizes = record { sector_size = 16; ra_blocks = 1; da_blocks = 2; hash_count = 3 }; records = 5; deletions = 4 }

pub state_words_lem : state_of (16 ∷ 1 ∷ 2 ∷ 3 ∷ 5 ∷ 4 ∷ []) ≡ known
state_words_lem = refl

pub change_words : change_of (10 ∷ 16 ∷ 1 ∷ 2 ∷ 3 ∷ 5 ∷ 4 ∷ []) ≡ record { refusal = 10; state = known }
change_words = refl

pub loaded_words : loaded_of (9 ∷ 41 ∷ 16 ∷ 1 ∷ 2 ∷ 3 ∷ 5 ∷ 4 ∷ []) ≡ record { refusal = 9; rows = 41; state = known }
loaded_words = refl

pub cut_words : cut_of (10 ∷ 7 ∷ 16 ∷ 1 ∷ 2 ∷ 3 ∷ 5 ∷ 4 ∷ []) 4294967297
    ≡ record { refusal = 10; finished = 7; steps = 4294967297; state = known }
cut_words = refl

pub lookup_words : lookup_result_of (8 ∷ 1 ∷ 2 ∷ 3 ∷ 4 ∷ []) 4294967297
    ≡ record { refusal = 8; found = 1; count = 2; in_ram = 3; offset = 4; deletion_count = 4294967297 }
lookup_words = refl
