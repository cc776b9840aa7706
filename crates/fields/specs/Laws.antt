-- Bytes by their bits, and powers of two that divide one another.
use Rattle.std.specs.Prelude.{◌≡◌, Bool, ℕ, ◌+◌, ◌-◌, ◌*◌, ◌/◌, ◌^◌, ◌≤◌, ◌<◌}
use Rattle.std.proofs.Common.{sym, ap, ◌∙◌, arith, pow_pos, pow-add}
use Rattle.memory.specs.Bits.{bit, pack, pack_ext, pack_bit}
use Rattle.memory.specs.Numbers.{div_of}

-- eight bits that are those of a byte make the byte
pub pack_byte : (f : ℕ → Bool) (v : ℕ) → v < 256 → ((i : ℕ) → i < 8 → f i ≡ bit v i) → pack 8 f ≡ v
pack_byte f v l h = pack_ext 8 f (bit v) h ∙ pack_bit 8 v l

-- a power of two is a multiple of a smaller one
pub pow_whole : (a b : ℕ) → b ≤ a → 2 ^ a / 2 ^ b * 2 ^ b ≡ 2 ^ a
pow_whole a b h =
    let s : a - b + b ≡ a = omega arith in
    let p : 2 ^ a ≡ 2 ^ (a - b) * 2 ^ b = ap (λ (n : ℕ). 2 ^ n) (sym s) ∙ pow-add 2 (a - b) b in
    let d : 2 ^ a / 2 ^ b ≡ 2 ^ (a - b) = div_of (2 ^ a) (2 ^ b) (2 ^ (a - b)) 0 (omega arith) (pow_pos b) in
    rw d (sym p)
