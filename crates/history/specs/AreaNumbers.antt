-- Numbers of an area that grows at its end: items of w bytes, q of them to a page, laid one after another.
use Rattle.std.specs.Prelude.{ℕ, ◌/◌, ◌%◌}

-- byte i of the items one after another; byte b of item j is f j b
abbrev pub flat : (ℕ → ℕ → ℕ) → ℕ → ℕ → ℕ
flat f w i = f (i / w) (i % w)
