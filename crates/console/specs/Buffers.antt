-- What a byte of the input, a chunk and the input's end do to the buffers. Document 01, "Replay program".
use Rattle.std.specs.Prelude.{cond, List, [], ◌∷◌, ℕ, ◌+◌, ltb, eqb, length, take}
use Prim.Native.Char.{code}
use Rattle.memory.specs.Lists.{write}
use Rattle.layout.specs.Calls.{Volume}
use Rattle.script.specs.Lines.{command}
use Rattle.script.specs.Answers.{text}
use Rattle.script.specs.Script.{Performed, perform}

-- what is kept from one byte of the input to the next: the volume, the line's buffer and how much of it is in use, the output's buffer
-- and how much of it is in use
pub record Buffers : Type 0 where
  pub volume : Volume
  pub buffer : List ℕ
  pub fill : ℕ
  pub out : List ℕ
  pub printed : ℕ

-- a line's end: it is answered behind what was printed
unfoldable pub end_line : Buffers → Buffers
end_line k =
    let r : Performed = perform k.volume (command (take k.fill k.buffer)) in
    record {
      volume = r.volume;
      buffer = k.buffer;
      fill = 0;
      out = write k.out k.printed (text r.answer);
      printed = k.printed + length (text r.answer);
    }

-- any other byte is kept as long as the buffer has room
unfoldable pub add_byte : Buffers → ℕ → Buffers
add_byte k c =
    record {
      volume = k.volume;
      buffer = write k.buffer k.fill (c ∷ []);
      fill = cond (ltb k.fill (length k.buffer)) (k.fill + 1) k.fill;
      out = k.out;
      printed = k.printed;
    }

unfoldable pub next_byte : Buffers → ℕ → Buffers
next_byte k c = cond (eqb c (code "\n")) (end_line k) (add_byte k c)

unfoldable pub feed : Buffers → List ℕ → Buffers
feed k [] = k
feed k (c ∷ cs) = feed (next_byte k c) cs

-- the input's end: a line without its line feed is answered too
unfoldable pub close : Buffers → Buffers
close k = cond (eqb k.fill 0) k (end_line k)
