use Rattle.layout.specs.Hash.{fnv_family}
use Rattle.state.specs.Contract.{volume}
use Rattle.lookup.specs.Small.{lookup_small}
use Rattle.capi.proofs.level_store_lookup_numbers.Goals as goal

-- A record's place has 32 bits.

pub lookup_words-requires : goal.lookup_words-requires
lookup_words-requires c =
    let x = c.args in
    rw c.find-found.ensures (lookup_small fnv_family (volume c.state_of.result x.«data».now x.spare.now x.ram.now) x.key).offset
