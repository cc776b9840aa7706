-- However the input is cut into chunks: the volume that a run leaves is the one that the script's definitions leave for all its bytes,
-- and what stands in the output's buffer at its writes is what they print.
use Rattle.std.specs.Prelude.{◌≡◌, refl, Bool, true, false, cond, List, [], ◌∷◌, ◌++◌, ℕ, ◌*◌, ◌≤◌, eqb, length, take}
use Rattle.std.proofs.Common.{sym, ap, ◌∙◌, arith}
use Rattle.memory.specs.Lists.{length_write}
use Rattle.layout.specs.Flash.{flash_of}
use Rattle.layout.specs.Calls.{Volume}
use Rattle.script.specs.Lines.{command}
use Rattle.script.specs.Answers.{text}
use Rattle.script.specs.Script.{perform, prints}
use Rattle.console.specs.Buffers.{Buffers, end_line, add_byte, next_byte, feed, close}
use Rattle.console.specs.Stream.{Chunk, Roomy, input, start, into, output, outputs, stream_prints, leaves, stream_leaves}
use Rattle.console.specs.Chunks.{unformatted, initial, feed_all, close_if, Short, Leaves}

-- all chunks in one
unfoldable pub concat : List (List ℕ) → List ℕ
concat [] = []
concat (chunk ∷ chunks) = chunk ++ concat chunks

-- ---- the output's buffer does not matter to the rest

byte_into : (k : Buffers) (c : ℕ) → into (next_byte (into k []) c) [] ≡ into (next_byte k c) []
unfolding next_byte end_line add_byte
byte_into k c = go (eqb c 10)
  where
    go : (b : Bool) → into (cond b (end_line (into k [])) (add_byte (into k []) c)) [] ≡ into (cond b (end_line k) (add_byte k c)) []
    go true = refl
    go false = refl

feed_into : (cs : List ℕ) (k : Buffers) → into (feed (into k []) cs) [] ≡ into (feed k cs) []
unfolding feed
feed_into [] k = refl
feed_into (c ∷ cs) k =
    sym (feed_into cs (next_byte (into k []) c)) ∙ ap (λ (m : Buffers). into (feed m cs) []) (byte_into k c) ∙ feed_into cs (next_byte k c)

close_into : (ended : Bool) (k : Buffers) → (close_if ended (into k [])).volume ≡ (close_if ended k).volume
unfolding close end_line
close_into false k = refl
close_into true k = go (eqb k.fill 0)
  where
    go : (b : Bool) → (cond b (into k []) (end_line (into k []))).volume ≡ (cond b k (end_line k)).volume
    go true = refl
    go false = refl

-- ---- a chunk after another is one chunk

feed_append : (k : Buffers) (cs ds : List ℕ) → feed k (cs ++ ds) ≡ feed (feed k cs) ds
unfolding feed
feed_append k [] ds = refl
feed_append k (c ∷ cs) ds = feed_append (next_byte k c) cs ds

chunks_concat : (chunks : List (List ℕ)) (k : Buffers) → into (feed_all k chunks) [] ≡ into (feed k (concat chunks)) []
unfolding feed_all concat feed
chunks_concat [] k = refl
chunks_concat (chunk ∷ chunks) k =
    let n : Buffers = feed k chunk in
    chunks_concat chunks (into n n.out) ∙ sym (feed_into (concat chunks) (into n n.out)) ∙ feed_into (concat chunks) n
    ∙ ap (λ (m : Buffers). into m []) (sym (feed_append k chunk (concat chunks)))

-- for all lent bytes, a line's buffer of 64 bytes among them, and all chunks
pub chunks_leave : (line main spare ram out : List ℕ) (chunks : List (List ℕ)) (ended : Bool) → length line ≡ 64
    → (close_if ended (feed_all (initial line main spare ram out) chunks)).volume ≡ leaves ended (unformatted main spare ram) (concat chunks)
chunks_leave line main spare ram out chunks ended h =
    let k : Buffers = initial line main spare ram out in
    sym (close_into ended (feed_all k chunks))
    ∙ ap (λ (m : Buffers). (close_if ended m).volume) (chunks_concat chunks k ∙ sym (feed_into (concat chunks) k))
    ∙ close_into ended (feed (into k []) (concat chunks)) ∙ stream_leaves (unformatted main spare ram) line (concat chunks) ended h

-- so of a run that left what some chunks make, the flash and the RAM are those of some input
pub run_leaves : (line main spare ram out line' main' spare' ram' out' : List ℕ) (most : ℕ) (ended : Bool) → length line ≡ 64
    → ((chunks : List (List ℕ)) × Short most chunks
    × Leaves (close_if ended (feed_all (initial line main spare ram out) chunks)) line' main' spare' ram' out')
    → (input : List ℕ) × (flash_of main' spare' ≡ (leaves ended (unformatted main spare ram) input).flash)
    × (ram' ≡ (leaves ended (unformatted main spare ram) input).ram)
run_leaves line main spare ram out line' main' spare' ram' out' most ended h l =
    let e = chunks_leave line main spare ram out l.0 ended h in
    (concat l.0, l.2.0 ∙ ap (λ (v : Volume). v.flash) e, l.2.1 ∙ ap (λ (v : Volume). v.ram) e)

-- ---- what is written

-- what stands in the output's buffer at each write, one after the other: after each chunk, and at the input's end
unfoldable pub writes : Buffers → List (List ℕ) → List ℕ
writes k [] = output (close k)
writes k (chunk ∷ chunks) = let n : Buffers = feed k chunk in output n ++ writes (into n n.out) chunks

-- the same chunks, each with the buffer that its answers go into
unfoldable cuts : Buffers → List (List ℕ) → List Chunk
cuts k [] = []
cuts k (chunk ∷ chunks) = let n : Buffers = feed k chunk in record { bytes = chunk; room = k.out } ∷ cuts (into n n.out) chunks

cuts_input : (chunks : List (List ℕ)) (k : Buffers) → input (cuts k chunks) ≡ concat chunks
unfolding input cuts concat
cuts_input [] k = refl
cuts_input (chunk ∷ chunks) k = ap (λ (l : List ℕ). chunk ++ l) (cuts_input chunks (into (feed k chunk) (feed k chunk).out))

byte_room : (k : Buffers) (c : ℕ) → length (next_byte k c).out ≡ length k.out
unfolding next_byte end_line add_byte
byte_room k c = go (eqb c 10)
  where
    go : (b : Bool) → length (cond b (end_line k) (add_byte k c)).out ≡ length k.out
    go true = length_write k.out k.printed (text (perform k.volume (command (take k.fill k.buffer))).answer)
    go false = refl

feed_room : (cs : List ℕ) (k : Buffers) → length (feed k cs).out ≡ length k.out
unfolding feed
feed_room [] k = refl
feed_room (c ∷ cs) k = feed_room cs (next_byte k c) ∙ byte_room k c

chunks_room : (chunks : List (List ℕ)) (k : Buffers) → length (feed_all k chunks).out ≡ length k.out
unfolding feed_all
chunks_room [] k = refl
chunks_room (chunk ∷ chunks) k = chunks_room chunks (into (feed k chunk) (feed k chunk).out) ∙ feed_room chunk k

cuts_roomy : (chunks : List (List ℕ)) (k : Buffers) (most : ℕ) → Short most chunks → most * 32 ≤ length k.out → Roomy (cuts k chunks)
unfolding cuts
cuts_roomy [] k most s h = tt
cuts_roomy (chunk ∷ chunks) k most s h =
    (omega (arith, s.0), cuts_roomy chunks (into (feed k chunk) (feed k chunk).out) most s.1 (omega (arith, feed_room chunk k)))

writes_outputs : (chunks : List (List ℕ)) (k : Buffers) (out : List ℕ)
    → writes (into k out) chunks ≡ outputs k (cuts (into k out) chunks) (feed_all (into k out) chunks).out
unfolding writes outputs cuts feed_all
writes_outputs [] k out = refl
writes_outputs (chunk ∷ chunks) k out =
    let n : Buffers = feed (into k out) chunk in
    ap (λ (l : List ℕ). output n ++ l) (writes_outputs chunks n n.out)

-- with room for an answer to each byte of a chunk
pub chunks_print : (line main spare ram out : List ℕ) (chunks : List (List ℕ)) (most : ℕ) → length line ≡ 64 → Short most chunks
    → most * 32 ≤ length out → 32 ≤ length out
    → writes (initial line main spare ram out) chunks ≡ prints (unformatted main spare ram) (concat chunks)
chunks_print line main spare ram out chunks most h s r l =
    let k : Buffers = initial line main spare ram out in
    writes_outputs chunks (start (unformatted main spare ram) line) out
    ∙ stream_prints (unformatted main spare ram) line (cuts k chunks) (feed_all k chunks).out h (cuts_roomy chunks k most s r)
    (omega (arith, chunks_room chunks k))
    ∙ ap (prints (unformatted main spare ram)) (cuts_input chunks k)
