-- The insert that fills the first page of entries, computed by the definitions: the bytes of the SKA page.
use Rattle.std.specs.Prelude.{◌≡◌, refl, List, [], ◌∷◌, ◌++◌, ℕ, take, drop, replicate}
use Rattle.memory.specs.Lists.{write}
use Rattle.memory.specs.Words.{words_bytes}
use Rattle.layout.specs.Geometry.{sizes_of, state_of}
use Rattle.layout.specs.Hash.{fnv_family}
use Rattle.layout.specs.Items.{record_of}
use Rattle.layout.specs.Calls.{Volume, insert}
use Rattle.layout.specs.Budgets.{call_whole}
use Rattle.worked_examples.specs.Computing.{calls}

-- the insert that fills the first page of entries: seven entries in RAM, keys 1 to 7; the page's filter goes to slot 0 of the SKA page
abbrev seven_entries : Volume
seven_entries =
    record {
      state = state_of (sizes_of 16 1 1 3) 7 0;
      flash = record { main = replicate 21504 255; spare = replicate 1344 255 };
      ram = write (replicate 448 0) 64 (words_bytes (1 ∷ 0 ∷ 2 ∷ 1 ∷ 3 ∷ 2 ∷ 4 ∷ 3 ∷ 5 ∷ 4 ∷ 6 ∷ 5 ∷ 7 ∷ 6 ∷ []));
    }

-- a sector of the SKA page: 16 bits of the filter in slot 0, nothing in the other slots
abbrev sector : ℕ → ℕ → List ℕ
sector low high = low ∷ high ∷ replicate 14 0

pub first_filter : take 64 (drop 192 (call_whole fnv_family seven_entries (insert (record_of 8 1 2 3))).volume.ram)
    ≡ sector 102 136 ++ sector 153 68 ++ sector 153 34 ++ sector 82 37
unfolding calls
first_filter = refl
