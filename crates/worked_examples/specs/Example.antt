-- Document 01's replay example, computed by the definitions from its text to the text it prints.
use Rattle.std.specs.Prelude.{◌≡◌, refl, List, ℕ, replicate}
use Rattle.layout.specs.Geometry.{sizes_of, state_of}
use Rattle.layout.specs.Calls.{Volume}
use Rattle.text.specs.Text.{ascii, digits_from}
use Rattle.script.specs.Lines.{number, fields, command}
use Rattle.script.specs.Answers.{digits, text}
use Rattle.script.specs.Script.{perform, end_line, advance, feed, prints}
use Rattle.worked_examples.specs.Computing.{calls}

-- "It lends 59,392 cells, 3,712 marks and a desk of 640 bytes"; "Before any format the state is all zero"
abbrev pub unformatted : ℕ → ℕ → ℕ → ℕ → Volume
unformatted byte main spare ram =
    record {
      state = state_of (sizes_of 0 0 0 0) 0 0;
      flash = record { main = replicate main byte; spare = replicate spare byte };
      ram = replicate ram byte;
    }

-- "Input `f 16 1 1`, `i 7 40`, `i 7 41`, `l 7`, `u 7 42`, `l 7`, `d 7`, `l 7`, `d 7` prints:"
abbrev input : List ℕ
input = ascii "f 16 1 1\ni 7 40\ni 7 41\nl 7\nu 7 42\nl 7\nd 7\nl 7\nd 7\n"

-- "`ok 0 0` / `ok 1 0` / `no 3` / `hit 40 0` / `ok 2 1` / `hit 42 0` / `ok 2 2` / `miss 0` / `no 4`, one a line"
abbrev output : List ℕ
output = ascii "ok 0 0\nok 1 0\nno 3\nhit 40 0\nok 2 1\nhit 42 0\nok 2 2\nmiss 0\nno 4\n"

pub replay_example : prints (unformatted 0 59392 3712 640) input ≡ output
unfolding calls digits_from number fields command digits text perform end_line advance feed prints
replay_example = refl
