-- Chunks one after the other: the buffers before each of them, and after the last one.
use mathlib.Core.Path.{◌≡◌, refl, sym}
use mathlib.Core.Bool.{Bool, true, false, cond}
use mathlib.Core.List.{List, [], ◌∷◌, ◌++◌}
use Prim.Native.Nat.{ℕ, ◌≤◌}
use native.Mathlib.Omega.{arith}
use lib.Dec.{eqb}
use lib.ListN.{length, take}
use lib.Seq.{length-take-le}
use Rattle.layout.specs.Flash.{flash_of}
use Rattle.console.specs.Buffers.{Buffers, end_line, feed, close}
use Rattle.console.specs.Contract.{buffers_of}
use Rattle.console.specs.Stream.{into}
use Rattle.console.specs.declared.stream.Fill.{Fill}
use Rattle.console.specs.Chunks.{after_chunk, feed_all, close_if, Short, Leaves}

-- ---- chunks

-- before each chunk and after the last one: what the chunks so far make of k
abbrev pub SoFar : Buffers → ℕ → Buffers → Type 0
SoFar k most m = (chunks : List (List ℕ)) × Short most chunks × (m ≡ feed_all k chunks)

pub so_far_first : (k : Buffers) (most : ℕ) → SoFar k most k
unfolding feed_all
so_far_first k most = ([], tt, refl)

chunks_last : (k : Buffers) (chunks : List (List ℕ)) (chunk : List ℕ)
    → feed_all k (chunks ++ (chunk ∷ [])) ≡ (let n : Buffers = feed (feed_all k chunks) chunk in into n n.out)
unfolding feed_all
chunks_last k [] chunk = refl
chunks_last k (c ∷ cs) chunk = chunks_last (into (feed k c) (feed k c).out) cs chunk

short_last : (most : ℕ) (chunks : List (List ℕ)) (chunk : List ℕ) → Short most chunks → length chunk ≤ most
    → Short most (chunks ++ (chunk ∷ []))
short_last most [] chunk s h = (h, tt)
short_last most (c ∷ cs) chunk s h = (s.0, short_last most cs chunk s.1 h)

-- n bytes of a chunk more
pub so_far_more : (k m l : Buffers) (most : ℕ) (chunk : List ℕ) (n : ℕ) → SoFar k most m → length chunk ≡ most → n ≤ length chunk
    → l ≡ after_chunk (feed m (take n chunk)) → SoFar k most l
so_far_more k m l most chunk n h full t e =
    let bytes = take n chunk in
    let size : length bytes ≡ n = length-take-le n chunk t in
    (h.0 ++ (bytes ∷ []), short_last most h.0 bytes h.1 (omega arith), rw (chunks_last k h.0 bytes, e, h.2))

-- lent bytes that are as they were
pub so_far_same : (k : Buffers) (most : ℕ) (p : Fill) (line main spare ram out line' main' spare' ram' out' : List ℕ)
    → SoFar k most (buffers_of p line main spare ram out) → Leaves (buffers_of p line main spare ram out) line' main' spare' ram' out'
    → SoFar k most (buffers_of p line' main' spare' ram' out')
so_far_same k most p line main spare ram out line' main' spare' ram' out' h e = (h.0, h.1, rw (e.0, e.1, e.2, e.3) h.2)

-- the same where they could not be read or written
pub so_far_stops : (k m : Buffers) (most : ℕ) (chunk : List ℕ) (n : ℕ) (line main spare ram out : List ℕ) → SoFar k most m
    → length chunk ≡ most → n ≤ length chunk → Leaves (feed m (take n chunk)) line main spare ram out
    → (chunks : List (List ℕ)) × Short most chunks × Leaves (close_if false (feed_all k chunks)) line main spare ram out
so_far_stops k m most chunk n line main spare ram out h full t e =
    let bytes = take n chunk in
    let size : length bytes ≡ n = length-take-le n chunk t in
    (h.0 ++ (bytes ∷ []), short_last most h.0 bytes h.1 (omega arith), rw (chunks_last k h.0 bytes, ← h.2) e)

close_keeps : (empty : Bool) (k : Buffers) → (cond empty k (end_line k)).buffer ≡ k.buffer
unfolding end_line
close_keeps true k = refl
close_keeps false k = refl

close_buffer : (k : Buffers) → (close k).buffer ≡ k.buffer
unfolding close
close_buffer k = close_keeps (eqb k.fill 0) k

-- the end after the last chunk
pub so_far_ends : (k m : Buffers) (most : ℕ) (main spare ram out : List ℕ) → SoFar k most m
    → (flash_of main spare ≡ (close m).volume.flash) × (ram ≡ (close m).volume.ram) × (out ≡ (close m).out)
    → (chunks : List (List ℕ)) × Short most chunks × Leaves (close_if true (feed_all k chunks)) m.buffer main spare ram out
so_far_ends k m most main spare ram out h f =
    (h.0, h.1, rw (← h.2) (f.0, f.1, sym (close_buffer m), f.2))
