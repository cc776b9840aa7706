-- The bits of a word, looked at from the highest down; each is cleared then.
use Rattle.std.specs.Prelude.{◌≡◌, Bool, true, false, ◌&&◌, not, ℕ, suc, ◌≤◌, ◌<◌, ltb, eqb}
use Rattle.std.proofs.Common.{sym, ap, ◌∙◌, arith, lt-ltb, ne_eqb, ltb-true}
use Rattle.std.proofs.Math.Bool.{and-eq-true_iff}
use Rattle.memory.specs.Bits.{bit, bit_zero}
use Rattle.memory.specs.Candidate.{candidate, candidate_le, candidate_skip, candidate_top}
use Rattle.memory.specs.Cases.{lt?, eq?, either}

-- bit f is the highest that is set
abbrev pub Top : ℕ → ℕ → Type 0
Top bits f = (f < 64) × (bit bits f ≡ true) × ((i : ℕ) → f < i → i < 64 → bit bits i ≡ false)

-- it is cleared
abbrev pub Cleared : ℕ → ℕ → ℕ → Type 0
Cleared bits f r = (i : ℕ) → i < 64 → bit r i ≡ (not (eqb i f) && bit bits i)

module _ (bits f : ℕ) (top : Top bits f) (r : ℕ) (is : Cleared bits f r) where
  cleared : (i : ℕ) → f ≤ i → i < 64 → bit r i ≡ false
  cleared i l k =
      either (eq? i f)
      (λ t. is i k ∙ rw t.0)
      (λ t. let ne = t.1 in is i k ∙ rw t.0 (top.2 i (omega arith) k))

  -- so that the highest is a lower one
  pub cleared_less : candidate (bit r) 64 < candidate (bit bits) 64
  cleared_less =
      let a : candidate (bit bits) 64 ≡ suc f = candidate_top (bit bits) 64 f top.0 top.1 top.2 in
      let b : candidate (bit r) 64 ≡ candidate (bit r) f = candidate_skip (bit r) 64 f (omega (arith, top.0)) cleared in
      omega (arith, a, b, candidate_le (bit r) f)

-- of the bits of a word those below m are left
pub record BitsLeft (word left m : ℕ) : Type 0 where
  pub most : m ≤ 64
  pub shown : (i : ℕ) → i < 64 → bit left i ≡ (ltb i m && bit word i)

pub all_left : (word : ℕ) → BitsLeft word word 64
all_left word = record { most = omega arith; shown = λ i k. rw (lt-ltb i 64 k) }

module _ {word left m : ℕ} (L : BitsLeft word left m) where
  not_left : (i : ℕ) → i < m → bit left i ≡ false → bit word i ≡ false
  not_left i h e = (rw (lt-ltb i m h) at (sym (L.shown i (omega (arith, L.most))))) ∙ e

  pub none_left : left ≡ 0 → (i : ℕ) → i < m → bit word i ≡ false
  none_left z i h = not_left i h (rw z (bit_zero i))

  -- the highest of them
  module _ (f : ℕ) (top : Top left f) where
    pub top_both : (f < m) × (bit word f ≡ true)
    top_both =
        let e = (and-eq-true_iff (ltb f m) (bit word f)).0 (sym (L.shown f top.0) ∙ top.1) in
        (ltb-true f m e.0, e.1)

    pub top_gap : (i : ℕ) → f < i → i < m → bit word i ≡ false
    top_gap i a b = not_left i b (top.2 i a (omega (arith, L.most)))

    pub top_left : (r : ℕ) → Cleared left f r → BitsLeft word r f
    top_left r is =
        record {
          most = omega (arith, top.0);
          shown = λ i k.
              either (lt? i f)
              (λ t.
              let l = t.1 in
              is i k ∙ rw (ne_eqb i f (λ e. absurd (omega arith)), t.0) (L.shown i k ∙ rw (lt-ltb i m (omega (arith, top_both.0)))))
              (λ t.
              let l = t.1 in
              cleared left f top r is i l k ∙ sym (ap (λ (x : Bool). x && bit word i) t.0));
        }
