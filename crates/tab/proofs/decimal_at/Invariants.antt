use Rattle.std.proofs.Common.{◌≡◌, ◌+◌, ◌<◌, ◌^◌, drop}
use Rattle.tab.specs.Reader.{digits}
use Rattle.tab.proofs.decimal_at.Given as goal

-- What is left to read, at each digit.
abbrev pub invariant-loop-c : goal.invariant-loop-c
invariant-loop-c l = record {
  place : l.next ≡ l.at + l.c-index;
  fits : l.value < 2 ^ 32;
  left : digits 0 l.c-items ≡ digits l.value (drop l.c-index l.c-items);
}
