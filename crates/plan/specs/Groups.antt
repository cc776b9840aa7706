-- Sectors of the next set that are made at once: the flash before them gives what the flash before each gives.
use Rattle.std.specs.Prelude.{◌≡◌, refl, ◌⊎◌, List, [], ◌∷◌, ◌++◌, ℕ, zero, suc, ◌+◌, ◌-◌, ◌*◌, ◌/◌, ◌%◌, ◌^◌, ◌≤◌, ◌<◌, min, length, get_or, replicate, take, drop}
use Rattle.std.proofs.Common.{sym, ap, ◌∙◌, inl, inr, mul-le-mul_right, arith, length-take, length-drop}
use Rattle.std.proofs.Math.Nat.{div-div-eq-div-mul}
use Rattle.memory.specs.Cases.{either}
use Rattle.memory.specs.Lists.{tabulate, is_tabulate, tabulate_ext, length_tabulate, write, get_d_write_before, get_d_write_after}
use Rattle.memory.specs.Numbers.{euclid, div_of, mod_of}
use Rattle.layout.specs.Geometry.{sectors_per_page, sector, block}
use Rattle.layout.specs.Flash.{Flash, Planned, flash_of, program, apply, planned_from}
use Rattle.layout.specs.Index.{Index, set_pages, set_width, set_byte}
use Rattle.laws.specs.Apart.{next_after, set_byte_same}
use Rattle.laws.specs.SetLaws.{blocks_fit}
use Rattle.laws.specs.Units.{UnitSound}
use Rattle.flash.specs.Sectors.{programmed_row, row_more}
use Rattle.geometry.specs.Indexes.{index_of}
use Rattle.geometry.specs.declared.sets.Set.{Set}
use Rattle.partition.specs.Sources.{page_source}
use Rattle.partition.specs.Shared.{together, Shares, set_bytes, InPage}
use Rattle.partition.specs.Sharing.{shares_kept}
use Rattle.plan.specs.declared.Span.{Span}
use Rattle.plan.specs.Runs.{done, done_one, done_append, done_more}
use Rattle.plan.specs.Spans.{run_of}
use Rattle.plan.specs.Segments.{next_set}
use Rattle.plan.specs.Fits.{NextFits, fewer}

-- bytes made at once
abbrev pub buffer_size : ℕ
buffer_size = 512

-- sectors of a page made at once
abbrev pub at_once : ℕ → ℕ
at_once u = min sectors_per_page (buffer_size / sector u)

-- a page has whole steps of n sectors
abbrev pub Steps : ℕ → Type 0
Steps n = (n ≡ 1) ⊎ ((n ≡ 2) ⊎ (n ≡ 4))

-- of sectors j to end - 1 those before the next multiple of n
abbrev pub up_to : ℕ → ℕ → ℕ → Span
up_to j n end = record { from = j; to = min (j / n * n + n) end }

-- sectors of one page that the buffer holds
pub record OfPage (u : ℕ) (s : Span) : Type 0 where
  pub room : s.from % 4 + (s.to - s.from) ≤ 4
  pub small : (s.to - s.from) * sector u ≤ buffer_size

-- sectors of pages that are beside one another, n to a group
abbrev pub Beside : ℕ → Span → Type 0
Beside n s = (j : ℕ) → s.from ≤ j → j < s.to → s.from / sectors_per_page / n ≡ j / sectors_per_page / n

-- ---- spans that follow one another

planned_add : (f : ℕ → Planned) (i a b : ℕ) → planned_from f i (a + b) ≡ planned_from f i a ++ planned_from f (i + a) b
planned_add f i zero b =
    let e : 0 + b ≡ b = omega arith in
    let d : i + 0 ≡ i = omega arith in
    rw (e, d)
planned_add f i (suc a) b =
    let e : suc a + b ≡ suc (a + b) = omega arith in
    let d : i + suc a ≡ suc i + a = omega arith in
    rw (e, d) (ap (λ (l : List Planned). f i ∷ l) (planned_add f (suc i) a b))

-- one more turn of a loop over spans of a segment
pub turn_span : (u : ℕ) (f : ℕ → Planned) (from j : ℕ) (s : Span) (c : Flash) {x y : Flash} → s.from ≡ j → from ≤ j → j ≤ s.to
    → x ≡ done u (planned_from f from (j - from)) c → y ≡ run_of u f s x → y ≡ done u (planned_from f from (s.to - from)) c
turn_span u f from j s c e h k p q =
    let a : s.to - from ≡ j - from + (s.to - j) = omega arith in
    let b : from + (j - from) ≡ j = omega arith in
    rw (a, planned_add f from (j - from) (s.to - j), b)
    ((rw e at q) ∙ (ap (done u (planned_from f j (s.to - j))) p ∙ sym (done_append u (planned_from f from (j - from)) (planned_from f j (s.to - j)) c)))

-- ---- sectors in a row

write_none : (l : List ℕ) (at : ℕ) → write l at [] ≡ l
unfolding write
write_none [] at = refl
write_none (x ∷ l) zero = refl
write_none (x ∷ l) (suc at) = ap (λ (t : List ℕ). x ∷ t) (write_none l at)

module _ (u : ℕ) (set : Set) (s n main spare : ℕ) (F : NextFits u set s n main spare) where
  abbrev ix : Index
  ix = index_of set.index

  -- byte i of the sectors from sector j on
  abbrev bytes : List ℕ → ℕ → ℕ → ℕ
  bytes m j = set_bytes u ix m set.full_sets set.rounds j

  -- bytes outside the sectors stay
  row_out : (m : List ℕ) (j k x : ℕ) (f : ℕ → ℕ) → (x < (s + j) * sector u) ⊎ ((s + (j + k)) * sector u ≤ x)
      → get_or m x 0 ≡ get_or (write m ((s + j) * sector u) (tabulate (k * sector u) f)) x 0
  row_out m j k x f o =
      sym (either o
      (λ a. get_d_write_before m ((s + j) * sector u) (tabulate (k * sector u) f) x 0 a)
      (λ a. get_d_write_after m ((s + j) * sector u) (tabulate (k * sector u) f) x 0 (rw (length_tabulate (k * sector u) f) (omega arith))))

  -- the set's next sector is made of the same bytes
  row_same : (m : List ℕ) (j k : ℕ) (f : ℕ → ℕ) → j + k < n → (y : ℕ) → y < sector u
      → set_byte u ix (write m ((s + j) * sector u) (tabulate (k * sector u) f)) set.full_sets set.rounds (j + k) y
      ≡ set_byte u ix m set.full_sets set.rounds (j + k) y
  row_same m j k f h y l =
      let p = ap (λ (m : ℕ). m * sector u) (F.place (omega arith)) in
      let U = F.unit in
      sym (set_byte_same u U.0 U.1.power ix set.full_sets set.rounds F.rounds m (write m ((s + j) * sector u) (tabulate (k * sector u) f))
      (λ x o. row_out m j k x f (either o
      (λ a. inl (omega (arith, p, a, mul-le-mul_right (sector u) (let t : s ≤ s + j = omega arith in t))))
      (λ a. inr (omega (arith, p, a, mul-le-mul_right (sector u) (let t : s + (j + k) ≤ s + set_pages (set.rounds + 1) * 4 = omega (arith, h, F.sectors) in t))))))
      (j + k) y (omega (arith, h, F.sectors)) l)

  -- the flash after k sectors from sector j on
  abbrev left : Flash → ℕ → ℕ → Flash
  left c j k = programmed_row u (s + j) k (tabulate (k * sector u) (bytes c.main j)) c

  own : (c : Flash) (j k : ℕ) → j + k < n → (y : ℕ) → y < sector u
      → set_byte u ix (left c j k).main set.full_sets set.rounds (j + k) y ≡ bytes c.main j (k * sector u + y)
  own c j k h y l =
      row_same c.main j k (bytes c.main j) h y l
      ∙ sym (rw (div_of (k * sector u + y) (sector u) k y refl l, mod_of (k * sector u + y) (sector u) k y refl l) refl)

  one : (c : Flash) (j k : ℕ) → j + k < n
      → done_one u (next_set u set s (j + k)) (left c j k)
      ≡ apply u (program (s + j + k) (tabulate (sector u) (λ y. bytes c.main j (k * sector u + y)))) (left c j k)
  one c j k h =
      let e : s + (j + k) ≡ s + j + k = omega arith in
      rw e (ap (λ (v : List ℕ). apply u (program (s + j + k) v) (left c j k)) (tabulate_ext (sector u) _ _ (own c j k h)))

  -- k sectors from sector j on, one after another, are a row
  pub row_done : (c : Flash) (j k : ℕ) → j + k ≤ n
      → done u (planned_from (next_set u set s) j k) c ≡ programmed_row u (s + j) k (tabulate (k * sector u) (bytes c.main j)) c
  row_done c j zero h = λ i. flash_of (none_main i) (none_spare i)
    where
      none_main : c.main ≡ write c.main ((s + j) * sector u) (tabulate (0 * sector u) (bytes c.main j))
      none_main =
          let e : 0 * sector u ≡ 0 = omega arith in
          let t : [] ≡ tabulate 0 (bytes c.main j) = is_tabulate [] 0 (bytes c.main j) refl (λ i l. absurd (omega arith)) in
          rw (e, ← t) (sym (write_none c.main ((s + j) * sector u)))

      none_spare : c.spare ≡ write c.spare (s + j) (replicate 0 0)
      none_spare = sym (write_none c.spare (s + j))
  row_done c j (suc k) h =
      done_more u (next_set u set s) j k c
      ∙ (ap (done_one u (next_set u set s (j + k))) (row_done c j k (omega arith)) ∙ (one c j k (omega arith) ∙ row_more u (s + j) k (bytes c.main j) c))

  -- bytes of L1 stay where a span of the set is programmed
  pub l1_kept : (c : Flash) (j k : ℕ) → j + k ≤ n → 0 < n → (x : ℕ) → x < (ix.first + 1) * block u
      → get_or c.main x 0 ≡ get_or (done u (planned_from (next_set u set s) j k) c).main x 0
  l1_kept c j k h l x o =
      let p = ap (λ (m : ℕ). m * sector u) (F.place l) in
      let a = mul-le-mul_right (block u) (next_after u ix set.full_sets set.rounds) in
      rw (row_done c j k h)
      (row_out c.main j k x (bytes c.main j) (inl (omega (arith, p, a, mul-le-mul_right (sector u) (let t : s ≤ s + j = omega arith in t)))))

-- ---- spans of a loop

-- a span up to the next multiple of n
module _ (j n end : ℕ) (pos : 0 < n) (h : j < end) where
  pub up_to_more : (j < (up_to j n end).to) × ((up_to j n end).to ≤ end)
  up_to_more = let E = euclid j n pos in (omega (arith, E.whole, E.small), omega arith)

  -- its sectors are of one group
  pub same_group : (i : ℕ) → j ≤ i → i < (up_to j n end).to → j / n ≡ i / n
  same_group i a b =
      let E = euclid j n pos in
      sym (div_of i n (j / n) (i - j / n * n) (omega (arith, E.whole, a)) (omega (arith, b, E.whole)))

pub beside : (j k end : ℕ) → 0 < k → j < end → Beside k (up_to j (k * 4) end)
beside j k end pos h i a b =
    let g = same_group j (k * 4) end (omega arith) h i a b in
    let e : 4 * k ≡ k * 4 = omega arith in
    rw (div-div-eq-div-mul j 4 k, div-div-eq-div-mul i 4 k, e) g

-- a step of sectors is of one page, and fits in the buffer
pub of_page : (u j n end : ℕ) → Steps n → n * sector u ≤ buffer_size → j < end → OfPage u (up_to j n end)
of_page u j n end S small h = record { room = go S; small = less }
  where
    less : ((up_to j n end).to - j) * sector u ≤ buffer_size
    less =
        let pos : 0 < n = either S (λ e. omega arith) (λ t. either t (λ e. omega arith) (λ e. omega arith)) in
        let E = euclid j n pos in
        let l : (up_to j n end).to - j ≤ n = omega (arith, E.whole) in
        omega (arith, mul-le-mul_right (sector u) l)

    go : Steps n → j % 4 + ((up_to j n end).to - j) ≤ 4
    go (inl e) = rw e (omega arith)
    go (inr (inl e)) = rw e (omega arith)
    go (inr (inr e)) = rw e (omega arith)

-- ---- how many at once

pub at_once_fits : (u : ℕ) → UnitSound u → Steps (at_once u) × (at_once u * sector u ≤ buffer_size)
at_once_fits u U = go U.0 U.1.small U.1.power
  where
    go : (e : ℕ) → e < 6 → u ≡ 2 ^ e → Steps (at_once u) × (at_once u * sector u ≤ buffer_size)
    go zero h p = rw p (inr (inr refl), omega arith)
    go (suc zero) h p = rw p (inr (inr refl), omega arith)
    go (suc (suc zero)) h p = rw p (inr (inr refl), omega arith)
    go (suc (suc (suc zero))) h p = rw p (inr (inr refl), omega arith)
    go (suc (suc (suc (suc zero)))) h p = rw p (inr (inl refl), omega arith)
    go (suc (suc (suc (suc (suc zero))))) h p = rw p (inl refl, omega arith)
    go (suc (suc (suc (suc (suc (suc e)))))) h p = absurd (omega arith)

pub at_once_is : (u r : ℕ) → UnitSound u → r ≡ at_once u → (r ≡ at_once u) × Steps r × (r * sector u ≤ buffer_size)
at_once_is u r U e = let F = at_once_fits u U in rw e (refl, F.0, F.1)

-- ---- the buffer

-- its first n bytes, once they are made
pub made_size : (l : List ℕ) (n : ℕ) → n ≤ length l → length (take (n - 0) (drop 0 l)) ≡ n
made_size l n h = simp (length-take, length-drop) (omega arith)

pub made_are : (ys rest : List ℕ) (n : ℕ) → length ys ≡ n → take (n - 0) (drop 0 (ys ++ rest)) ≡ ys
made_are ys rest n e =
    let z : n - 0 ≡ length ys = omega arith in
    rw z (take_all ys rest)
  where
    take_all : (a b : List ℕ) → take (length a) (a ++ b) ≡ a
    take_all [] b = take_nought b
      where
        take_nought : (b : List ℕ) → take 0 b ≡ []
        take_nought [] = refl
        take_nought (x ∷ b) = refl
    take_all (x ∷ a) b = ap (λ (t : List ℕ). x ∷ t) (take_all a b)

-- sectors of a page, so many bytes
pub in_page : (u n k : ℕ) (s : Span) → OfPage u s → n ≡ (s.to - s.from) * sector u → k ≡ n → InPage (sector u) s.from k
in_page u n k s O e d = record {
  whole = (s.to - s.from, d ∙ e);
  room = omega (arith, d, e, mul-le-mul_right (sector u) O.room);
}

-- ---- a span of a page: what was made and programmed is the run

module _ (u : ℕ) (set : Set) (s n main spare : ℕ) (F : NextFits u set s n main spare) where
  pub page_is : (p : Span) → p.to ≡ n → p.from < p.to → (m sp ys rest : List ℕ) (k size : ℕ) {x : Flash} → length ys ≡ size
      → size ≡ (p.to - p.from) * sector u
      → ys ≡ tabulate k (set_bytes u (index_of set.index) m set.full_sets set.rounds p.from)
      → x ≡ programmed_row u (s + p.from) (p.to - p.from) (take (size - 0) (drop 0 (ys ++ rest))) (flash_of m sp)
      → x ≡ run_of u (next_set u set s) p (flash_of m sp)
  page_is p e h m sp ys rest k size l z t q =
      let d : k ≡ (p.to - p.from) * sector u = sym (length_tabulate k _) ∙ (sym (ap length t) ∙ (l ∙ z)) in
      q
      ∙ (ap (λ (v : List ℕ). programmed_row u (s + p.from) (p.to - p.from) v (flash_of m sp))
      (made_are ys rest size l
      ∙ (t ∙ ap (λ (i : ℕ). tabulate i (set_bytes u (index_of set.index) m set.full_sets set.rounds p.from)) d))
      ∙ sym (row_done u set s n main spare F (flash_of m sp) p.from (p.to - p.from) (omega arith)))

-- ---- a turn of a loop over such spans

pub record Turn (j end : ℕ) (r : Span) : Type 0 where
  pub first : r.from ≡ j
  pub more : j < r.to
  pub most : r.to ≤ end

pub turn_of : (j n end : ℕ) (r : Span) → 0 < n → j < end → r ≡ up_to j n end → Turn j end r
turn_of j n end r pos h e = let m = up_to_more j n end pos h in rw e (record { first = refl; more = m.0; most = m.1 })

pub steps_few : (n : ℕ) → Steps n → (0 < n) × (n ≤ 32)
steps_few n (inl e) = (omega arith, omega arith)
steps_few n (inr (inl e)) = (omega arith, omega arith)
steps_few n (inr (inr e)) = (omega arith, omega arith)

-- not many sectors
pub few_sectors : (u : ℕ) (set : Set) (s n main spare : ℕ) → NextFits u set s n main spare → n ≤ 8192
few_sectors u set s n main spare F =
    let b = blocks_fit u F.unit.0 F.unit.1.power (set.rounds + 1) (omega (arith, F.rounds)) in
    omega (arith, b, F.sectors, F.unit.1.most)

-- what a turn hands on: fewer sectors of areas that kept their lengths
pub next_part : (u : ℕ) (set : Set) (s n k main spare main' spare' : ℕ) → NextFits u set s n main spare → k ≤ n → main' ≡ main → spare' ≡ spare
    → NextFits u set s k main' spare'
next_part u set s n k main spare main' spare' F h e d = rw (e, d) (fewer u set s n main spare F k h)

-- the bytes that pages share are there while the set's sectors are programmed
pub shared_at : (u : ℕ) (set : Set) (s n : ℕ) (m₀ sp₀ m sp : List ℕ) (F : NextFits u set s n (length m₀) (length sp₀)) (from j : ℕ) (bytes : List ℕ)
    → from ≤ j → j < n → from / 4 / together (set_width u (set.rounds + 1)) ≡ j / 4 / together (set_width u (set.rounds + 1))
    → flash_of m sp ≡ done u (planned_from (next_set u set s) from (j - from)) (flash_of m₀ sp₀)
    → Shares m₀ (page_source u (index_of set.index) set.rounds (from / 4)) bytes
    → Shares m (page_source u (index_of set.index) set.rounds (j / 4)) bytes
shared_at u set s n m₀ sp₀ m sp F from j bytes h l beside e S =
    shares_kept u F.unit.0 F.unit.1 (index_of set.index) set.rounds F.rounds (from / 4) (j / 4) (omega (arith, l, F.sectors)) beside m₀ m
    (λ x o.
    l1_kept u set s n (length m₀) (length sp₀) F (flash_of m₀ sp₀) from (j - from) (omega arith) (omega arith) x o
    ∙ ap (λ (c : Flash). get_or c.main x 0) (sym e))
    bytes S
