-- Bytes of a page: a sector of the set, and the parts that it is made of.
use mathlib.Core.Path.{◌≡◌, sym, ap, ◌∙◌}
use mathlib.Core.List.{List, ◌++◌}
use Prim.Native.Nat.{ℕ, zero, suc, ◌+◌, ◌-◌, ◌*◌, ◌/◌, ◌%◌, ◌^◌, ◌≤◌, ◌<◌, min}
use native.Mathlib.Nat.{mul-le-mul_right}
use native.Mathlib.Omega.{arith}
use lib.ListN.{length, take, drop, replicate, length-take, length-drop}
use Rattle.memory.specs.Cases.{lt?, either}
use borrow.Author.Tests.{lt-ltb, le-ltb}
use Rattle.memory.specs.Lists.{Done, tabulate, tabulate_ext}
use Rattle.memory.specs.Numbers.{euclid, div_lt}
use Rattle.layout.specs.Index.{Index}
use Rattle.laws.specs.SetLaws.{unit_pos}
use Rattle.fields.specs.Lists.{done_all, table_length, table_more, zeros}
use Rattle.fields.specs.Sources.{field_byte, Whole, Reaches}
use Rattle.partition.specs.declared.PageSource.{PageSource}
use Rattle.partition.specs.Sources.{page_byte, page_source, set_byte_is}
use Rattle.partition.specs.Shared.{set_bytes}
use Rattle.partition.specs.Reach.{SourceFits}

-- sectors of a page, one after another, are its bytes from the first sector on
pub sectors_are : (u e : ℕ) (pow : u ≡ 2 ^ e) (ix : Index) (main : List ℕ) (z c : ℕ) (hc : c < 4 * u) (j n : ℕ) (r : PageSource) → r ≡ page_source u ix c (j / 4)
    → j % 4 * (16 * u) + n ≤ 4 * (16 * u)
    → tabulate n (λ i. page_byte main r (j % 4 * (16 * u) + i)) ≡ tabulate n (set_bytes u ix main z c j)
sectors_are u e pow ix main z c hc j n r b room =
    rw b (tabulate_ext n _ _ (λ i h.
    let p = unit_pos u e pow in
    let E = euclid i (16 * u) (omega arith) in
    let l : i / (16 * u) < 4 - j % 4 = div_lt i (16 * u) (4 - j % 4) (omega arith) (less (j % 4) (16 * u) i (omega arith) (omega arith)) in
    let d : (j + i / (16 * u)) / 4 ≡ j / 4 = omega arith in
    let m : (j + i / (16 * u)) % 4 ≡ j % 4 + i / (16 * u) = omega arith in
    let a : (j % 4 + i / (16 * u)) * (16 * u) + i % (16 * u) ≡ j % 4 * (16 * u) + i = omega arith in
    sym (set_byte_is u e pow ix main z c hc (j + i / (16 * u)) (i % (16 * u)) ∙ rw (d, m, a))))
  where
    less : (k s i : ℕ) → k < 4 → k * s + i < 4 * s → i < (4 - k) * s
    less zero s i h l = omega arith
    less (suc zero) s i h l = omega arith
    less (suc (suc zero)) s i h l = omega arith
    less (suc (suc (suc zero))) s i h l = omega arith
    less (suc (suc (suc (suc k)))) s i h l = absurd (omega arith)

-- ---- whole fields

pub whole_min : (w x y : ℕ) → Whole w x → Whole w y → Whole w (min x y)
whole_min w x y X Y =
    either (lt? x y)
    (λ a. let e : min x y ≡ x = omega (arith, a.1) in rw e X)
    (λ a. let e : min x y ≡ y = omega (arith, a.1) in rw e Y)

pub whole_less : (w x y : ℕ) → Whole w x → Whole w y → Whole w (x - y)
whole_less w x y X Y =
    either (lt? X.0 Y.0)
    (λ a. (0, omega (arith, mul-le-mul_right w a.1, X.1, Y.1)))
    (λ a. (X.0 - Y.0, go X.0 Y.0 a.1 X.1 Y.1))
  where
    go : (m n : ℕ) → n ≤ m → x ≡ m * w → y ≡ n * w → x - y ≡ (m - n) * w
    go m n h e d =
        let q : m ≡ m - n + n = omega arith in
        omega (arith, e, d, ap (λ (k : ℕ). k * w) q)

pub whole_eight : (w x : ℕ) → Whole w x → Whole w (8 * x)
whole_eight w x X = (8 * X.0, omega (arith, X.1))

pub whole_lane : (w x : ℕ) → Whole w x → Whole (8 * w) (8 * x)
whole_lane w x X = (X.0, omega (arith, X.1))

-- ---- the parts of a page

part_size : (l : List ℕ) (i e : ℕ) → i ≤ e → e ≤ length l → length (take (e - i) (drop i l)) ≡ e - i
part_size l i e h k = simp (length-take, length-drop) (omega arith)

sub-zero : (a : ℕ) → a - 0 ≡ a
sub-zero a = omega arith

-- bytes behind byte s, counted from it
shift : (y s i : ℕ) → y + (s - y + i) - s ≡ y - s + i
shift y s i = omega arith

-- L1's part has not more bytes than a round
room : (x s e k z : ℕ) → e ≡ s + k → x < e → s ≤ x → x - s ≡ z → z < k
room x s e k z q l h d = omega arith

-- n bytes from byte y on: those below byte a are the old set's, then those below byte b are L1's, from its byte `from` on
pub record Cuts (r : PageSource) (y n a b from : ℕ) : Type 0 where
  pub a_is : a ≡ min n (r.split - y)
  pub b_is : b ≡ min n (r.end - y)
  pub from_is : from ≡ y - r.split

module _ (main : List ℕ) (r : PageSource) (y n a b from : ℕ) (F : SourceFits (length main) r) (C : Cuts r y n a b from) where
  abbrev f : ℕ → ℕ
  f i = page_byte main r (y + i)

  pub order : (a ≤ b) × (b ≤ n)
  order = (omega (arith, F.order, C.a_is, C.b_is), omega (arith, C.b_is))

  pub old_run : (i : ℕ) → i < a → Reaches (length main) r.old r.w (y + i)
  old_run i h = F.old_reaches (y + i) (omega arith)

  old_byte : (i : ℕ) → i < a → field_byte main r.old r.w (y + i) ≡ f i
  unfolding page_byte
  old_byte i h = rw (lt-ltb (y + i) r.split (omega arith))

  module _ (i : ℕ) (h : i < b - a) where
    cut : a ≡ r.split - y
    cut = omega arith

    l1_is : y + (a + i) - r.split ≡ from + i
    l1_is = rw (cut, C.from_is) (shift y r.split i)

    l1_room : from + i < 16 * r.w
    l1_room =
        let d : y + (a + i) < r.end = omega arith in
        let s : r.split ≤ y + (a + i) = omega (arith, cut) in
        room (y + (a + i)) r.split r.end (16 * r.w) (from + i) F.end_is d s l1_is

    l1_byte_lem : field_byte main r.l1 r.w (from + i) ≡ f (a + i)
    unfolding page_byte
    l1_byte_lem = rw (le-ltb (y + (a + i)) r.split (omega (arith, cut)), lt-ltb (y + (a + i)) r.end (omega arith), l1_is)

  no_byte : (i : ℕ) → i < n - b → 0 ≡ f (b + i)
  unfolding page_byte
  no_byte i h =
      let e : r.end ≤ y + (b + i) = omega arith in
      rw (le-ltb (y + (b + i)) r.split (omega (arith, F.order)), le-ltb (y + (b + i)) r.end e)

  -- the three parts, lent one after another
  module _ (l p q z : List ℕ) (size : length l ≡ n) where
    abbrev l₁ : List ℕ
    l₁ = take 0 l ++ (p ++ drop (a - 0) (drop 0 l))

    abbrev l₂ : List ℕ
    l₂ = take a l₁ ++ (q ++ drop (b - a) (drop a l₁))

    abbrev l₃ : List ℕ
    l₃ = take b l₂ ++ (z ++ drop (n - b) (drop b l₂))

    pub made : p ≡ tabulate (length (take (a - 0) (drop 0 l))) (λ i. field_byte main r.old r.w (y + i))
        → q ≡ tabulate (length (take (b - a) (drop a l₁))) (λ i. field_byte main r.l1 r.w (from + i))
        → z ≡ replicate (length (take (n - b) (drop b l₂))) 0
        → l₃ ≡ tabulate n f
    made old l1 none =
        let o = order in
        let n₁ : length l₁ ≡ n = table_length l p 0 a (λ i. field_byte main r.old r.w (y + i)) (omega arith) (omega arith) old ∙ size in
        let d₁ : Done f l₁ a = table_more l p 0 a (λ i. field_byte main r.old r.w (y + i)) (omega arith) (omega arith) old f (λ k h. absurd (omega arith)) (λ j h. let e : 0 + j ≡ j = omega arith in rw e (old_byte j (omega arith))) in
        let n₂ : length l₂ ≡ n = table_length l₁ q a b (λ i. field_byte main r.l1 r.w (from + i)) o.0 (omega arith) l1 ∙ n₁ in
        let d₂ : Done f l₂ b = table_more l₁ q a b (λ i. field_byte main r.l1 r.w (from + i)) o.0 (omega arith) l1 f d₁ (λ j h. l1_byte_lem j h) in
        let t : z ≡ tabulate (length (take (n - b) (drop b l₂))) (λ i. 0) = none ∙ zeros (length (take (n - b) (drop b l₂))) in
        let n₃ : length l₃ ≡ n = table_length l₂ z b n (λ i. 0) o.1 (omega arith) t ∙ n₂ in
        done_all f l₃ n n n₃ (omega arith) (table_more l₂ z b n (λ i. 0) o.1 (omega arith) t f d₂ (λ j h. no_byte j h))

  -- the parts are whole fields, and L1's are not more than a round has
  module _ (Y : Whole r.w y) (N : Whole r.w n) (l : List ℕ) (size : length l ≡ n) where
    a_whole : Whole r.w a
    a_whole = rw C.a_is (whole_min r.w n (r.split - y) N (whole_less r.w r.split y F.split_whole Y))

    b_whole : Whole r.w b
    b_whole =
        let e : Whole r.w r.end = (F.split_whole.0 + 16, omega (arith, F.split_whole.1, F.end_is)) in
        rw C.b_is (whole_min r.w n (r.end - y) N (whole_less r.w r.end y e Y))

    pub old_part : Whole r.w (8 * y) × Whole r.w (8 * length (take (a - 0) (drop 0 l)))
    old_part =
        let o = order in
        let e = part_size l 0 a (omega arith) (omega (arith, o.0, o.1, size)) in
        let z : a - 0 ≡ a = sub-zero a in
        (whole_eight r.w y Y, rw (e, z) (whole_eight r.w a a_whole))

    module _ (p : List ℕ) (old : p ≡ tabulate (length (take (a - 0) (drop 0 l))) (λ i. field_byte main r.old r.w (y + i))) where
      abbrev left : List ℕ
      left = take 0 l ++ (p ++ drop (a - 0) (drop 0 l))

      l1_size : length (take (b - a) (drop a left)) ≡ b - a
      l1_size =
          let o = order in
          let e = table_length l p 0 a (λ i. field_byte main r.old r.w (y + i)) (omega arith) (omega (arith, o.0, o.1, size)) old in
          part_size left a b o.0 (omega (arith, o.1, e, size))

      pub l1_part : (Whole r.w from × Whole r.w (length (take (b - a) (drop a left))))
          × ((i : ℕ) → i < length (take (b - a) (drop a left)) → from + i < 16 * r.w)
      l1_part =
          rw l1_size (
            (rw C.from_is (whole_less r.w y r.split Y F.split_whole), whole_less r.w b a b_whole a_whole),
            λ i h. l1_room i h,
          )
