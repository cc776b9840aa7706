-- Laws of Booleans that several crates cite, beside those of mathlib.Core.Bool.
use Rattle.std.specs.Prelude.{◌≡◌, refl, ◌↔◌}
use mathlib.Core.Bool.{Bool, true, false, ◌||◌, cond, beq}

pub or_eq_false_iff : (a b : Bool) → ((a || b) ≡ false) ↔ ((a ≡ false) × (b ≡ false))
or_eq_false_iff true b = (λ e. (e, cc), λ p. p.0)
or_eq_false_iff false b = (λ e. (refl, e), λ p. p.1)

pub eq_of_beq : (a b : Bool) → beq a b ≡ true → a ≡ b
eq_of_beq true true e = refl
eq_of_beq true false e = cc
eq_of_beq false true e = e
eq_of_beq false false e = refl

pub cond_pos : {A : Type 0} (b : Bool) (x y : A) → b ≡ true → cond b x y ≡ x
cond_pos true x y e = refl
cond_pos false x y e = cc

pub cond_neg : {A : Type 0} (b : Bool) (x y : A) → b ≡ false → cond b x y ≡ y
cond_neg true x y e = cc
cond_neg false x y e = refl
