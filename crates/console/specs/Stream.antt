-- Chunks do not matter, nor does the cut of long lines: what is printed for an input that comes in chunks, through a line's buffer of 64
-- bytes, is what the script's definitions print for it; and the volume is the one that they leave.
use Rattle.std.specs.Prelude.{◌≡◌, refl, ◌≢◌, Bool, true, false, cond, List, [], ◌∷◌, ◌++◌, ℕ, suc, ◌+◌, ◌*◌, ◌≤◌, min, length, take}
use Rattle.std.proofs.Common.{sym, ap, ◌∙◌, append_assoc, append-nil, arith, ne_eqb, length-append, take_all}
use Rattle.std.proofs.lemmas.List.{take-append-le}
use Rattle.memory.specs.Cases.{either, eq?, lt?}
use Rattle.memory.specs.Lists.{write, length_write}
use Rattle.layout.specs.Calls.{Volume}
use Rattle.script.specs.Lines.{command}
use Rattle.script.specs.Answers.{text}
use Rattle.script.specs.AnswerLaws.{text_length}
use Rattle.script.specs.Script.{Replay, perform, end_line, advance, feed, close, prints}
use Rattle.script.proofs.Cut.{cut}
use Rattle.console.specs.BufferLaws.{take_before, take_written}
use Rattle.console.specs.Buffers.{Buffers}
use Rattle.console.specs.Buffers as buffers

-- ---- the chain

-- a chunk of the input, and the buffer for the answers to its lines
pub record Chunk : Type 0 where
  pub bytes : List ℕ
  pub room : List ℕ

-- an answer for each byte has room
abbrev pub Roomy : List Chunk → Type 0
Roomy [] = Unit {0}
Roomy (t ∷ ts) = (length t.bytes * 32 ≤ length t.room) × Roomy ts

-- all chunks in one
unfoldable pub input : List Chunk → List ℕ
input [] = []
input (t ∷ ts) = t.bytes ++ input ts

-- before the first byte
abbrev pub start : Volume → List ℕ → Buffers
start v buffer = record { volume = v; buffer = buffer; fill = 0; out = []; printed = 0 }

-- the same with nothing printed, into another buffer
abbrev pub into : Buffers → List ℕ → Buffers
into k out = record { volume = k.volume; buffer = k.buffer; fill = k.fill; out = out; printed = 0 }

-- the bytes that were printed
abbrev pub output : Buffers → List ℕ
output k = take k.printed k.out

-- the outputs of the chunks one after the other, and at last that of the input's end
unfoldable pub outputs : Buffers → List Chunk → List ℕ → List ℕ
outputs k [] room = output (buffers.close (into k room))
outputs k (t ∷ ts) room = let n : Buffers = buffers.feed (into k t.room) t.bytes in output n ++ outputs n ts room

-- ---- a byte

-- between two bytes the buffer holds the first 64 bytes of the line that is not ended
record Holds (k : Buffers) (p : Replay) : Type 0 where
  volume_is : k.volume ≡ p.volume
  buffer_length : length k.buffer ≡ 64
  line_is : take k.fill k.buffer ≡ take 64 p.line
  fill_is : k.fill ≡ min 64 (length p.line)

-- and the output's buffer what was printed after what was printed before
abbrev Prints : List ℕ → Buffers → Replay → Type 0
Prints before k p = p.printed ≡ before ++ output k

same_reply : (k : Buffers) (p : Replay) → Holds k p
    → perform k.volume (command (take k.fill k.buffer)) ≡ perform p.volume (command p.line)
same_reply k p H = rw (H.volume_is, H.line_is, cut p.line)

end_holds : (k : Buffers) (p : Replay) → Holds k p → Holds (buffers.end_line k) (end_line p)
unfolding buffers.end_line end_line
end_holds k p H = record { volume_is = rw (same_reply k p H); buffer_length = H.buffer_length; line_is = refl; fill_is = refl }

end_prints : (before : List ℕ) (k : Buffers) (p : Replay) → Holds k p → k.printed + 32 ≤ length k.out → Prints before k p
    → Prints before (buffers.end_line k) (end_line p)
unfolding buffers.end_line end_line
end_prints before k p H h e =
    let t = text (perform p.volume (command p.line)).answer in
    let w = take_written k.out k.printed t (omega (arith, text_length (perform p.volume (command p.line)).answer)) in
    rw (same_reply k p H, w, e)
    (append_assoc before (output k) t)

-- the line with one byte more, as the script's definitions have it
abbrev longer : Replay → ℕ → Replay
longer p c = record { line = p.line ++ (c ∷ []); volume = p.volume; printed = p.printed }

add_holds : (k : Buffers) (p : Replay) (c : ℕ) → Holds k p → Holds (buffers.add_byte k c) (longer p c)
unfolding buffers.add_byte
add_holds k p c H =
    let n : length (p.line ++ (c ∷ [])) ≡ length p.line + 1 = length-append p.line (c ∷ []) in
    let w : length (write k.buffer k.fill (c ∷ [])) ≡ 64 = length_write k.buffer k.fill (c ∷ []) ∙ H.buffer_length in
    let b = H.buffer_length in
    let f = H.fill_is in
    either (lt? k.fill (length k.buffer))
    (λ h.
    let ok : take k.fill k.buffer ≡ p.line = H.line_is ∙ take_all 64 p.line (omega arith) in
    record {
      volume_is = H.volume_is;
      buffer_length = w;
      line_is = rw (h.0, take_written k.buffer k.fill (c ∷ []) (omega arith), ok)
          (sym (take_all 64 (p.line ++ (c ∷ [])) (omega arith)));
      fill_is = rw h.0 (omega arith);
    })
    (λ h.
    record {
      volume_is = H.volume_is;
      buffer_length = w;
      line_is = rw (h.0, take_before k.buffer k.fill (c ∷ []), H.line_is)
          (sym (take-append-le 64 p.line (c ∷ []) (omega arith)));
      fill_is = rw h.0 (omega arith);
    })

byte_holds : (k : Buffers) (p : Replay) (c : ℕ) → Holds k p → Holds (buffers.next_byte k c) (advance p c)
unfolding buffers.next_byte advance
byte_holds k p c H = either (eq? c 10) (λ h. rw h.0 (end_holds k p H)) (λ h. rw h.0 (add_holds k p c H))

byte_prints : (before : List ℕ) (k : Buffers) (p : Replay) (c : ℕ) → Holds k p → k.printed + 32 ≤ length k.out → Prints before k p
    → Prints before (buffers.next_byte k c) (advance p c)
unfolding buffers.next_byte advance buffers.add_byte
byte_prints before k p c H h e = either (eq? c 10) (λ x. rw x.0 (end_prints before k p H h e)) (λ x. rw x.0 e)

-- a byte takes the room of one answer at most
byte_room : (k : Buffers) (c n : ℕ) → k.printed + suc n * 32 ≤ length k.out
    → (buffers.next_byte k c).printed + n * 32 ≤ length (buffers.next_byte k c).out
unfolding buffers.next_byte buffers.end_line buffers.add_byte
byte_room k c n h =
    let a = (perform k.volume (command (take k.fill k.buffer))).answer in
    either (eq? c 10)
    (λ x. rw (x.0, length_write k.out k.printed (text a)) (omega (arith, text_length a)))
    (λ x. rw x.0 (omega arith))

-- ---- chunks

feed_holds : (cs : List ℕ) (k : Buffers) (p : Replay) → Holds k p → Holds (buffers.feed k cs) (feed p cs)
unfolding buffers.feed feed
feed_holds [] k p H = H
feed_holds (c ∷ cs) k p H = feed_holds cs (buffers.next_byte k c) (advance p c) (byte_holds k p c H)

feed_prints : (before cs : List ℕ) (k : Buffers) (p : Replay) → Holds k p → k.printed + length cs * 32 ≤ length k.out
    → Prints before k p → Prints before (buffers.feed k cs) (feed p cs)
unfolding buffers.feed feed
feed_prints before [] k p H h e = e
feed_prints before (c ∷ cs) k p H h e =
    feed_prints before cs (buffers.next_byte k c) (advance p c) (byte_holds k p c H) (byte_room k c (length cs) h)
    (byte_prints before k p c H (omega arith) e)

-- a chunk after another is one chunk
feed_append : (p : Replay) (cs ds : List ℕ) → feed p (cs ++ ds) ≡ feed (feed p cs) ds
unfolding feed
feed_append p [] ds = refl
feed_append p (c ∷ cs) ds = feed_append (advance p c) cs ds

close_prints : (before l : List ℕ) (k : Buffers) (p : Replay) → l ≡ p.line → Holds k p → k.printed + 32 ≤ length k.out
    → Prints before k p → (close p l).printed ≡ before ++ output (buffers.close k)
unfolding buffers.close
close_prints before [] k p q H h e =
    let z : k.fill ≡ 0 = omega (arith, ap length q, H.fill_is) in
    rw z e
close_prints before (c ∷ cs) k p q H h e =
    let z : k.fill ≢ 0 = λ w. omega (arith, ap length q, H.fill_is, w) in
    rw (ne_eqb k.fill 0 z) (end_prints before k p H h e)

into_holds : (k : Buffers) (p : Replay) (out : List ℕ) → Holds k p → Holds (into k out) p
into_holds k p out H = record { volume_is = H.volume_is; buffer_length = H.buffer_length; line_is = H.line_is; fill_is = H.fill_is }

into_prints : (k : Buffers) (p : Replay) (out : List ℕ) → Prints p.printed (into k out) p
into_prints k p out = sym (append-nil p.printed)

-- what the chunks print goes behind what was printed before
outputs_print : (ts : List Chunk) (room : List ℕ) (k : Buffers) (p : Replay) → Holds k p → Roomy ts → 32 ≤ length room
    → let q : Replay = feed p (input ts) in (close q q.line).printed ≡ p.printed ++ outputs k ts room
unfolding outputs input feed
outputs_print [] room k p H r h =
    close_prints p.printed p.line (into k room) p refl (into_holds k p room H) (omega arith) (into_prints k p room)
outputs_print (t ∷ ts) room k p H r h =
    let m : Buffers = into k t.room in
    let n : Buffers = buffers.feed m t.bytes in
    let q : Replay = feed p t.bytes in
    let I : Holds m p = into_holds k p t.room H in
    let e : q.printed ≡ p.printed ++ output n =
    feed_prints p.printed t.bytes m p I (omega (arith, r.0)) (into_prints k p t.room) in
    rw (feed_append p t.bytes (input ts))
    (outputs_print ts room n q (feed_holds t.bytes m p I) r.1 h ∙ rw e (append_assoc p.printed (output n) (outputs n ts room)))

-- for every volume, every buffer of 64 bytes for the line, all chunks and all buffers for answers that are long enough
pub stream_prints : (v : Volume) (buffer : List ℕ) (ts : List Chunk) (room : List ℕ) → length buffer ≡ 64 → Roomy ts → 32 ≤ length room
    → outputs (start v buffer) ts room ≡ prints v (input ts)
unfolding prints
stream_prints v buffer ts room h r l =
    sym (outputs_print ts room (start v buffer) (record { line = []; volume = v; printed = [] })
    (record { volume_is = refl; buffer_length = h; line_is = refl; fill_is = refl }) r l)

-- ---- the volume

-- the volume that the script's definitions leave for an input; where its end was not reached, an unfinished line is not answered
abbrev pub leaves : Bool → Volume → List ℕ → Volume
leaves ended v bytes =
    let p : Replay = feed (record { line = []; volume = v; printed = [] }) bytes in (cond ended (close p p.line) p).volume

close_leaves : (l : List ℕ) (k : Buffers) (p : Replay) → l ≡ p.line → Holds k p → (buffers.close k).volume ≡ (close p l).volume
unfolding buffers.close
close_leaves [] k p q H =
    let z : k.fill ≡ 0 = omega (arith, ap length q, H.fill_is) in
    rw z H.volume_is
close_leaves (c ∷ cs) k p q H =
    let z : k.fill ≢ 0 = λ w. omega (arith, ap length q, H.fill_is, w) in
    rw (ne_eqb k.fill 0 z) (end_holds k p H).volume_is

pub stream_leaves : (v : Volume) (buffer bytes : List ℕ) (ended : Bool) → length buffer ≡ 64
    → let k : Buffers = buffers.feed (start v buffer) bytes in (cond ended (buffers.close k) k).volume ≡ leaves ended v bytes
stream_leaves v buffer bytes ended h =
    go ended (feed_holds bytes (start v buffer) p₀ (record { volume_is = refl; buffer_length = h; line_is = refl; fill_is = refl }))
  where
    p₀ : Replay
    p₀ = record { line = []; volume = v; printed = [] }

    go : (b : Bool) → Holds (buffers.feed (start v buffer) bytes) (feed p₀ bytes)
        → (cond b (buffers.close (buffers.feed (start v buffer) bytes)) (buffers.feed (start v buffer) bytes)).volume
        ≡ (cond b (close (feed p₀ bytes) (feed p₀ bytes).line) (feed p₀ bytes)).volume
    go true H = close_leaves (feed p₀ bytes).line (buffers.feed (start v buffer) bytes) (feed p₀ bytes) refl H
    go false H = H.volume_is
