-- Filters of two bytes since the last round: the block out of the words of those that are shut, L1's and then those of the SKA page.
use mathlib.Core.Path.{◌≡◌, sym, ap, ◌∙◌}
use mathlib.Core.Logic.{◌⊎◌, inl, inr}
use mathlib.Core.Bool.{Bool, ◌&&◌, not}
use mathlib.Core.List.{List, [], ◌∷◌}
use Prim.Native.Nat.{ℕ, ◌+◌, ◌*◌, ◌-◌, ◌/◌, ◌%◌, ◌^◌, ◌≤◌, ◌<◌, min}
use native.Mathlib.Omega.{arith}
use borrow.Author.Tests.{lt-ltb}
use lib.ListN.{length, get_or}
use Rattle.memory.specs.Bits.{bit_zero}
use Rattle.memory.specs.Cases.{either, lt?}
use Rattle.kernels.specs.Blocks.{Open, Upto, open_none}
use Rattle.kernels.specs.Masks.{has_mask, Shut, Had, Lacked}
use Rattle.filter.specs.Groups.{row_at}
use Rattle.filter.specs.Recent.{MaskOf, OneRow, recent_has, RecentIn, RecentOf}
use Rattle.filter.specs.declared.groups.Block.{Block}
use Rattle.filter.specs.declared.groups.Recent.{Recent}
use Rattle.filter.proofs.Recent.{open_map, l1_gate, ska_gate, mask_later, upto_two}

-- ---- one word or two

-- counted from filter 64 on
open_64 : (gate : ℕ → Bool) (m r : ℕ) → Open (λ g. gate (64 + g)) 0 m r → Open gate 64 m r
open_64 gate m r O = open_map (λ g. gate (64 + g)) gate 0 64 m r (λ i h. let z : 0 + i ≡ i = omega arith in rw z) O

pub shut_two : (n a b x y : ℕ) → 64 < n → n ≤ 128 → Had a 64 x → Had b (n - 64) y
    → (gate : ℕ → Bool) → Shut gate ((min n 64 + 3) / 4) a → Shut (λ g. gate (64 + g)) ((n - 64 + 3) / 4) b
    → Upto (λ j i. gate (j * 64 + i)) n (x ∷ y ∷ 0 ∷ 0 ∷ 0 ∷ 0 ∷ 0 ∷ 0 ∷ [])
shut_two n a b x y lt le X Y gate A B =
    let e : min n 64 ≡ 64 = omega arith in
    upto_two gate n x y le (rw e (X gate (rw e at A))) (open_64 gate (n - 64) y (Y (λ g. gate (64 + g)) B))

pub shut_one : (n a b x : ℕ) → n ≤ 64 → Had a n x
    → (gate : ℕ → Bool) → Shut gate ((min n 64 + 3) / 4) a → Shut (λ g. gate (64 + g)) ((n - 64 + 3) / 4) b
    → Upto (λ j i. gate (j * 64 + i)) n (x ∷ 0 ∷ 0 ∷ 0 ∷ 0 ∷ 0 ∷ 0 ∷ 0 ∷ [])
shut_one n a b x le X gate A B =
    let e : min n 64 ≡ n = omega arith in
    upto_two gate n x 0 (omega arith) (rw e (X gate (rw e at A))) (open_none gate 64 (n - 64) (omega arith))

-- ---- words of L1, then of the SKA page

-- nothing is shut yet
shut_none : (gate : ℕ → Bool) → Shut gate 0 0
unfolding Shut
shut_none gate i j h l =
    bit_zero (16 * i + j) ∙ sym (ap (λ (t : Bool). not t && not (gate (4 * (j + 0 - 16) + i))) (lt-ltb j (16 - 0) (omega arith)))

-- n filters, L1's in so many words, then k of the SKA page: none of these, or L1's words are an even number
abbrev Parts : ℕ → ℕ → ℕ → Type 0
Parts n words k = ((k ≡ 0) × (words ≡ (n + 3) / 4)) ⊎ ((words % 2 ≡ 0) × (n ≡ 4 * words + k) × (k ≤ 8))

parts_1 : (s below top words : ℕ) → top ≡ below → words ≡ (top - s + 3) / 4 → (below - top ≡ 0) × (words ≡ (below - s + 3) / 4)
parts_1 s below top words e W = (omega arith, rw (← e) W)

even_words : (d words : ℕ) → d % 8 ≡ 0 → words ≡ (d + 3) / 4 → (words % 2 ≡ 0) × (4 * words ≡ d)
even_words d words e W =
    let k : ℕ = d / 8 in
    let f : d ≡ 8 * k = omega arith in
    let g : words ≡ 2 * k = omega arith in
    (omega (arith, g), omega (arith, f, g))

parts_2 : (s t below top words : ℕ) → top ≡ t → words ≡ (top - s + 3) / 4 → (t - s) % 8 ≡ 0 → s ≤ t → below ≤ t + 8 → t < below
    → (words % 2 ≡ 0) × (below - s ≡ 4 * words + (below - top)) × (below - top ≤ 8)
parts_2 s t below top words e W F O le lt =
    let q = even_words (t - s) words F (rw e at W) in
    (q.0, omega (arith, q.1, e), omega arith)

module _ (n words k : ℕ) (P : Parts n words k) where
  sum_few : words < 16 → words + (k + 3) / 4 ≡ (min n 64 + 3) / 4
  sum_few h = either P (λ p. omega (arith, p.0, p.1, h)) (λ p. omega (arith, p.0, p.1, p.2, h))

  room_few : words < 16 → words + (k + 3) / 4 ≤ 16
  room_few h = either P (λ p. omega (arith, p.0, p.1, h)) (λ p. omega (arith, p.0, p.1, p.2, h))

  rest_few : words < 16 → 0 ≡ (n - 64 + 3) / 4
  rest_few h = either P (λ p. omega (arith, p.0, p.1, h)) (λ p. omega (arith, p.0, p.1, p.2, h))

  sum_many : 16 ≤ words → 16 ≡ (min n 64 + 3) / 4
  sum_many h = either P (λ p. omega (arith, p.0, p.1, h)) (λ p. omega (arith, p.0, p.1, p.2, h))

  rest_many : 16 ≤ words → words - 16 + (k + 3) / 4 ≡ (n - 64 + 3) / 4
  rest_many h = either P (λ p. omega (arith, p.0, p.1, h)) (λ p. omega (arith, p.0, p.1, p.2, h))

  room_many : 16 ≤ words → words ≤ 31 → words - 16 + (k + 3) / 4 ≤ 16
  room_many h l = either P (λ p. omega (arith, p.0, p.1, h, l)) (λ p. omega (arith, p.0, p.1, p.2, h, l))

all_few : (words less : ℕ) → less ≡ min words 16 → words < 16 → (less ≡ words) × (words - less ≡ 0)
all_few words less L h = (omega arith, omega arith)

some_many : (words less : ℕ) → less ≡ min words 16 → 16 ≤ words → less ≡ 16
some_many words less L h = omega arith

past_64 : (words g d : ℕ) → 16 ≤ words → 4 * words ≡ d → 64 + (4 * (words - 16) + g) ≡ d + g
past_64 words g d h e = omega arith

module _ (rs : Recent) (ps : List ℕ) (main ram : ℕ) (R : RecentIn rs ps main ram) where
  abbrev s : ℕ
  s = rs.l1.start

  abbrev t : ℕ
  t = rs.ska.start

  module _ (top words : ℕ) (T : top ≡ min rs.below rs.ska.start) (W : words ≡ (top - rs.l1.start + 3) / 4) where
    whole : 4 * words ≤ t - s
    whole = omega (arith, R.flushes, R.order)

    -- where filters of the SKA page are asked for, L1 has whole words
    behind : (g : ℕ) → g < 4 * ((rs.below - top + 3) / 4) → 4 * words ≡ t - s
    behind g h = omega (arith, R.flushes, R.order)

    parts : Parts (rs.below - rs.l1.start) words (rs.below - top)
    parts =
        either (lt? rs.ska.start rs.below)
        (λ h. inr (parts_2 s t rs.below top words (omega (arith, h.1)) W R.flushes R.order R.below_le h.1))
        (λ h. inl (parts_1 s rs.below top words (omega (arith, h.1)) W))

    pub few_words : words ≤ 31
    few_words = omega (arith, whole, R.round)

  pub size : (0 < rs.below - rs.l1.start) × (rs.below - rs.l1.start ≤ 128)
  size = (omega (arith, R.start_lt), omega (arith, R.below_le, R.round, R.flushes, R.order))

module _ (rs : Recent) (ps main ram : List ℕ) (R : RecentIn rs ps (length main) (length ram)) (four : rs.l1.exponent ≡ 4)
    (m : ℕ) (M : MaskOf ps (length ps) 16 m) (one : OneRow ps (length ps) 4) where
  -- filter g from L1's first on
  abbrev pub gate : ℕ → Bool
  gate g = recent_has rs main ram ps (rs.l1.start + g)

  width : 2 ^ rs.l1.exponent ≡ 16
  width = ap (λ (e : ℕ). 2 ^ e) four

  of_l1 : (g : ℕ) → g < rs.ska.start - rs.l1.start → gate g ≡ has_mask main (row_at rs.l1 (get_or ps 0 0)) 16 m g
  of_l1 g h = sym (l1_gate rs ps main ram m 16 R width (omega arith) M (rw four one) g h)

  of_ska : (g : ℕ) → gate (rs.ska.start - rs.l1.start + g) ≡ has_mask ram (row_at rs.ska (get_or ps 0 0)) 16 m g
  of_ska g = sym (ska_gate rs ps main ram m 16 R width (omega arith) M (rw four one) g)

  module _ (top words less row at a b : ℕ) (T : top ≡ min rs.below rs.ska.start) (W : words ≡ (top - rs.l1.start + 3) / 4) (L : less ≡ min words 16)
      (E : row ≡ row_at rs.l1 (get_or ps 0 0)) (F : at ≡ row_at rs.ska (get_or ps 0 0))
      (A : Lacked 0 m row less main a) (B : Lacked 0 m (row + 128) (words - less) main b) where
    abbrev n : ℕ
    n = rs.below - rs.l1.start

    abbrev more : ℕ
    more = (rs.below - top + 3) / 4

    whole_words : 4 * words ≤ rs.ska.start - rs.l1.start
    whole_words = whole rs ps (length main) (length ram) R top words T W

    behind_words : (g : ℕ) → g < 4 * more → 4 * words ≡ rs.ska.start - rs.l1.start
    behind_words = behind rs ps (length main) (length ram) R top words T W

    in_parts : Parts n words (rs.below - top)
    in_parts = parts rs ps (length main) (length ram) R top words T W

    first : Shut gate less a
    first =
        let e : 0 + less ≡ less = omega arith in
        rw e at (A gate 0 (omega (arith, L)) (shut_none gate)
        (λ g h. let z : 4 * 0 + g ≡ g = omega arith in rw (z, E) (of_l1 g (omega (arith, whole_words, L, h)))))

    second : Shut (λ g. gate (64 + g)) (words - less) b
    second =
        let e : 0 + (words - less) ≡ words - less = omega arith in
        rw e at (B (λ g. gate (64 + g)) 0 (omega (arith, whole_words, R.round, L)) (shut_none (λ g. gate (64 + g)))
        (λ g h.
        let z : 4 * 0 + g ≡ g = omega arith in
        rw z (of_l1 (64 + g) (omega (arith, whole_words, L, h)) ∙ (rw (← E) (sym (mask_later main row 16 m g))))))

    module _ (c : ℕ) where
      pub shut_few : words < 16 → Lacked a m at more ram c
          → Shut gate ((min n 64 + 3) / 4) c × Shut (λ g. gate (64 + g)) ((n - 64 + 3) / 4) b
      shut_few lt C =
          let e = all_few words less L lt in
          let q : words - less ≡ (n - 64 + 3) / 4 = e.1 ∙ rest_few n words (rs.below - top) in_parts lt in (
            rw (sum_few n words (rs.below - top) in_parts lt) at
                (C gate words (room_few n words (rs.below - top) in_parts lt) (rw e.0 at first) (λ g h. rw (behind_words g h, F) (of_ska g))),
            rw q at second,
          )

      pub shut_many : 16 ≤ words → Lacked b m at more ram c
          → Shut gate ((min n 64 + 3) / 4) a × Shut (λ g. gate (64 + g)) ((n - 64 + 3) / 4) c
      shut_many le C =
          let e = some_many words less L le in
          let q : less ≡ (min n 64 + 3) / 4 = e ∙ sum_many n words (rs.below - top) in_parts le in
          let k : words ≤ 31 = few_words rs ps (length main) (length ram) R top words T W in (
            rw q at first,
            rw (rest_many n words (rs.below - top) in_parts le) at
                (C (λ g. gate (64 + g)) (words - 16) (room_many n words (rs.below - top) in_parts le k) (rw e at second)
                (λ g h. rw (past_64 words g (rs.ska.start - rs.l1.start) le (behind_words g h), F) (of_ska g))),
          )

  -- the block
  pub recent_shown : (b : Block) → b.start ≡ rs.l1.start → Upto (λ j i. gate (j * 64 + i)) (rs.below - rs.l1.start) b.words
      → RecentOf rs main ram ps b
  recent_shown b e U =
      record {
        start_le = omega (arith, e);
        start_lt = omega (arith, e, R.start_lt);
        few = omega (arith, e, R.below_le, R.round);
        pairs = omega (arith, e);
        shown = rw e U;
      }
