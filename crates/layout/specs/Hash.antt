-- FNV-1a, the hash family and a key's positions. Document 01, "Filters".
use Rattle.std.specs.Prelude.{List, [], ◌∷◌, ℕ, ◌+◌, ◌*◌, ◌%◌, ◌^◌}
use Rattle.std.specs.Int.Bits.{bit_xor}
use Rattle.memory.specs.Lists.{tabulate}
use Rattle.layout.specs.Geometry.{sector}

-- "exclusive-or, then multiply by 16777619, keeping 32 bits", from h over the bytes
unfoldable pub fnv_from : ℕ → List ℕ → ℕ
fnv_from h [] = h
fnv_from h (x ∷ xs) = fnv_from (bit_xor h x * 16777619 % 2 ^ 32) xs

-- "start 2166136261"
abbrev pub fnv1a : List ℕ → ℕ
fnv1a xs = fnv_from 2166136261 xs

-- a hash family: function j of some bytes. Definitions and theorems take any.
abbrev pub Family : Type 0
Family = ℕ → List ℕ → ℕ

-- "Hash j (0 to 3) is FNV-1a over five bytes: j, then the key"; §2: "h0 to hk"
abbrev pub fnv_family : Family
fnv_family j bytes = fnv1a (j ∷ bytes)

-- the k positions of some bytes: "(h0 mod 4) × S + (hj mod S) for j = 1, 2, 3"; §2: with k "wherever 01 says three"
unfoldable pub positions : Family → ℕ → ℕ → List ℕ → List ℕ
positions h k u bytes = tabulate k (λ j. h 0 bytes % 4 * sector u + h (j + 1) bytes % sector u)
