-- Exchanges that bring together the first w bits of each byte, then the second ones.
use mathlib.Core.Path.{◌≡◌, refl}
use mathlib.Core.Bool.{true}
use Prim.Native.Nat.{ℕ, ◌+◌, ◌*◌}
use lib.Dec.{eqb}
use Rattle.memory.specs.Bits.{bit}
use Rattle.memory.specs.Ranges.{all}
use Rattle.words.specs.Exchanges.{Apart, origin, Exchanged}
use Rattle.words.specs.ExchangeLaws.{apart_by, moved, moved_on, moved_by}
use Rattle.fields.specs.Columns.{row, row_bit, Split}

pub apart_7 : Apart 7 0x00aa00aa00aa00aa
unfolding all bit
apart_7 = apart_by 7 0x00aa00aa00aa00aa refl

pub apart_14 : Apart 14 0x0000cccc0000cccc
unfolding all bit
apart_14 = apart_by 14 0x0000cccc0000cccc refl

pub apart_28 : Apart 28 0x00000000f0f0f0f0
unfolding all bit
apart_28 = apart_by 28 0x00000000f0f0f0f0 refl

pub apart_12 : Apart 12 0x0000f0f00000f0f0
unfolding all bit
apart_12 = apart_by 12 0x0000f0f00000f0f0 refl

pub apart_6 : Apart 6 0x00cc00cc00cc00cc
unfolding all bit
apart_6 = apart_by 6 0x00cc00cc00cc00cc refl

pub apart_16 : Apart 16 0x00000000ffff0000
unfolding all bit
apart_16 = apart_by 16 0x00000000ffff0000 refl

pub apart_8 : Apart 8 0x0000ff000000ff00
unfolding all bit
apart_8 = apart_by 8 0x0000ff000000ff00 refl

pub apart_4 : Apart 4 0x00f000f000f000f0
unfolding all bit
apart_4 = apart_by 4 0x00f000f000f000f0 refl

splits_1 : all (λ i. eqb (origin 7 0x00aa00aa00aa00aa (origin 14 0x0000cccc0000cccc (origin 28 0x00000000f0f0f0f0 i))) (row 1 i * 8 + row_bit 1 i)) 64 ≡ true
unfolding all origin bit
splits_1 = refl

pub split_1 : (x a b r : ℕ) → Exchanged 7 0x00aa00aa00aa00aa x a → Exchanged 14 0x0000cccc0000cccc a b → Exchanged 28 0x00000000f0f0f0f0 b r
    → Split 1 x r
split_1 x a b r X₁ X₂ X₃ =
    moved_by _ (λ i. row 1 i * 8 + row_bit 1 i) x r
    (moved_on _ 28 0x00000000f0f0f0f0 x b r apart_28 (moved_on _ 14 0x0000cccc0000cccc x a b apart_14 (moved 7 0x00aa00aa00aa00aa x a X₁) X₂) X₃) splits_1

splits_2 : all (λ i. eqb (origin 12 0x0000f0f00000f0f0 (origin 6 0x00cc00cc00cc00cc (origin 16 0x00000000ffff0000 (origin 8 0x0000ff000000ff00 i)))) (row 2 i * 8 + row_bit 2 i)) 64 ≡ true
unfolding all origin bit
splits_2 = refl

pub split_2 : (x a b c r : ℕ) → Exchanged 12 0x0000f0f00000f0f0 x a → Exchanged 6 0x00cc00cc00cc00cc a b → Exchanged 16 0x00000000ffff0000 b c → Exchanged 8 0x0000ff000000ff00 c r
    → Split 2 x r
split_2 x a b c r X₁ X₂ X₃ X₄ =
    moved_by _ (λ i. row 2 i * 8 + row_bit 2 i) x r
    (moved_on _ 8 0x0000ff000000ff00 x c r apart_8 (moved_on _ 16 0x00000000ffff0000 x b c apart_16 (moved_on _ 6 0x00cc00cc00cc00cc x a b apart_6 (moved 12 0x0000f0f00000f0f0 x a X₁) X₂) X₃) X₄) splits_2

splits_4 : all (λ i. eqb (origin 4 0x00f000f000f000f0 (origin 8 0x0000ff000000ff00 (origin 16 0x00000000ffff0000 i))) (row 4 i * 8 + row_bit 4 i)) 64 ≡ true
unfolding all origin bit
splits_4 = refl

pub split_4 : (x a b r : ℕ) → Exchanged 4 0x00f000f000f000f0 x a → Exchanged 8 0x0000ff000000ff00 a b → Exchanged 16 0x00000000ffff0000 b r
    → Split 4 x r
split_4 x a b r X₁ X₂ X₃ =
    moved_by _ (λ i. row 4 i * 8 + row_bit 4 i) x r
    (moved_on _ 16 0x00000000ffff0000 x b r apart_16 (moved_on _ 8 0x0000ff000000ff00 x a b apart_8 (moved 4 0x00f000f000f000f0 x a X₁) X₂) X₃) splits_4
