-- What a chunk leaves, and what a run leaves: the chunks one after the other, then the end.
use Rattle.std.specs.Prelude.{◌≡◌, Bool, cond, List, [], ◌∷◌, ℕ, ◌≤◌, length, take, Result, Ok, Err, Option, Some, None}
use Rattle.layout.specs.Flash.{flash_of}
use Rattle.layout.specs.Calls.{Volume}
use Rattle.state.specs.declared.State.{State}
use Rattle.state.specs.Contract.{volume}
use Rattle.console.specs.Buffers.{Buffers, feed, close}
use Rattle.console.specs.Stream.{into}
use Rattle.console.specs.Contract.{buffers_of}
use Rattle.console.specs.declared.stream.Fill.{Fill}
use denote.Ref.{Bor}

-- the lent bytes are those of the buffers
abbrev pub Leaves : Buffers → List ℕ → List ℕ → List ℕ → List ℕ → List ℕ → Type 0
Leaves k line main spare ram out = (flash_of main spare ≡ k.volume.flash) × (ram ≡ k.volume.ram) × (line ≡ k.buffer) × (out ≡ k.out)

-- ---- a chunk

-- the buffers after a chunk: nothing is left to be written
abbrev pub after_chunk : Buffers → Buffers
after_chunk k = into k k.out

-- the first bytes of the chunk as it was read are fed: none at the input's end; where a byte could not be read or written, what is kept
-- beside the lent bytes is lost, so that an unfinished line is not answered
abbrev pub FeedsPrefix : Result (Option Fill) (Bor (List ℕ)) → Buffers → List ℕ → List ℕ → List ℕ → List ℕ → List ℕ → List ℕ → Type 0
FeedsPrefix (Ok (Some q)) k chunk line main spare ram out =
    (n : ℕ) × (n ≤ length chunk) × (buffers_of q line main spare ram out ≡ after_chunk (feed k (take n chunk)))
FeedsPrefix (Ok None) k chunk line main spare ram out = Leaves k line main spare ram out
FeedsPrefix (Err reason) k chunk line main spare ram out =
    (n : ℕ) × (n ≤ length chunk) × Leaves (feed k (take n chunk)) line main spare ram out

-- ---- a run

-- "Before any format the state is all zero"
abbrev pub no_state : State
no_state = record { sizes = record { sector_size = 0; ra_blocks = 0; da_blocks = 0; hash_count = 0 }; records = 0; deletions = 0 }

abbrev pub unformatted : List ℕ → List ℕ → List ℕ → Volume
unformatted main spare ram = volume no_state main spare ram

-- before the first chunk
abbrev pub initial : List ℕ → List ℕ → List ℕ → List ℕ → List ℕ → Buffers
initial line main spare ram out = record { volume = unformatted main spare ram; buffer = line; fill = 0; out = out; printed = 0 }

-- the chunks one after the other; the answers to each are written before the next is read, so the output's buffer is used from its start
-- again
unfoldable pub feed_all : Buffers → List (List ℕ) → Buffers
feed_all k [] = k
feed_all k (chunk ∷ chunks) = let n : Buffers = feed k chunk in feed_all (into n n.out) chunks

-- the end: that of the input, or a byte that could not be read or written; then an unfinished line is not answered
abbrev pub close_if : Bool → Buffers → Buffers
close_if ok k = cond ok (close k) k

-- no chunk is longer than the buffer that it is read into
abbrev pub Short : ℕ → List (List ℕ) → Type 0
Short most [] = Unit {0}
Short most (chunk ∷ chunks) = (length chunk ≤ most) × Short most chunks
