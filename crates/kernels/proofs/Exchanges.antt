-- Four exchanges: bits of four fields of 16, one of each in turn, and back.
use mathlib.Core.Path.{◌≡◌, refl, ap, ◌∙◌}
use mathlib.Core.Bool.{true}
use Prim.Native.Nat.{ℕ, ◌+◌, ◌*◌, ◌/◌, ◌%◌, ◌<◌}
use native.Mathlib.Omega.{arith}
use lib.Dec.{eqb}
use Rattle.memory.specs.Bits.{bit}
use Rattle.memory.specs.Ranges.{all}
use Rattle.words.specs.Exchanges.{Apart, origin, Exchanged}
use Rattle.words.specs.ExchangeLaws.{apart_by, moved, moved_on, moved_by}

pub apart_30 : Apart 30 3435973836
unfolding all bit
apart_30 = apart_by 30 3435973836 refl

pub apart_15 : Apart 15 187647121205930
unfolding all bit
apart_15 = apart_by 15 187647121205930 refl

pub apart_24 : Apart 24 4278255360
unfolding all bit
apart_24 = apart_by 24 4278255360 refl

pub apart_12 : Apart 12 264913582878960
unfolding all bit
apart_12 = apart_by 12 264913582878960 refl

-- whence each bit comes
interleaves : all (λ k. eqb (origin 30 3435973836 (origin 15 187647121205930 (origin 24 4278255360 (origin 12 264913582878960 k)))) (16 * (k % 4) + k / 4)) 64 ≡ true
unfolding all origin bit
interleaves = refl

pub interleaving : (x a b c r : ℕ) → Exchanged 30 3435973836 x a → Exchanged 15 187647121205930 a b → Exchanged 24 4278255360 b c → Exchanged 12 264913582878960 c r
    → (i j : ℕ) → i < 4 → j < 16 → bit r (4 * j + i) ≡ bit x (16 * i + j)
interleaving x a b c r X₁ X₂ X₃ X₄ i j h l =
    let e : 16 * ((4 * j + i) % 4) + (4 * j + i) / 4 ≡ 16 * i + j = omega arith in
    moved_by _ (λ k. 16 * (k % 4) + k / 4) x r
    (moved_on _ 12 264913582878960 x c r apart_12 (moved_on _ 24 4278255360 x b c apart_24 (moved_on _ 15 187647121205930 x a b apart_15 (moved 30 3435973836 x a X₁) X₂) X₃) X₄) interleaves
    (4 * j + i) (omega arith) ∙ ap (bit x) e

parts : all (λ k. eqb (origin 12 264913582878960 (origin 24 4278255360 (origin 15 187647121205930 (origin 30 3435973836 k)))) (4 * (k % 16) + k / 16)) 64 ≡ true
unfolding all origin bit
parts = refl

pub parting : (x a b c r : ℕ) → Exchanged 12 264913582878960 x a → Exchanged 24 4278255360 a b → Exchanged 15 187647121205930 b c → Exchanged 30 3435973836 c r
    → (i j : ℕ) → i < 16 → j < 4 → bit r (16 * j + i) ≡ bit x (4 * i + j)
parting x a b c r X₁ X₂ X₃ X₄ i j h l =
    let e : 4 * ((16 * j + i) % 16) + (16 * j + i) / 16 ≡ 4 * i + j = omega arith in
    moved_by _ (λ k. 4 * (k % 16) + k / 16) x r
    (moved_on _ 30 3435973836 x c r apart_30 (moved_on _ 15 187647121205930 x b c apart_15 (moved_on _ 24 4278255360 x a b apart_24 (moved 12 264913582878960 x a X₁) X₂) X₃) X₄) parts
    (16 * j + i) (omega arith) ∙ ap (bit x) e
