use Rattle.std.proofs.Common.{◌≡◌, ◌<◌, ◌^◌, drop}
use Rattle.text.specs.Text.{digits_from}
use Rattle.script.proofs.read_digits.Given as goal

-- What is left to read, at each digit: the value so far is below 2^32.
abbrev pub invariant-loop-c : goal.invariant-loop-c
invariant-loop-c l = record {
  fits : l.value < 2 ^ 32;
  left : digits_from 0 l.word ≡ digits_from l.value (drop l.c-index l.word);
}
