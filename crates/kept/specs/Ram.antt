-- What is kept is the layout's RAM, where the new bytes and the fourths of the new filters are those of the change.
use Rattle.std.specs.Prelude.{◌≡◌, Bool, length, get_or, replicate, eqb}
use Rattle.std.proofs.Math.Path.{refl, ap}
use Rattle.std.proofs.Common.{sym, ◌∙◌, inl, arith}
use Rattle.std.proofs.Math.Bool.{true, false, cond}
use mathlib.Core.List.{List}
use Prim.Native.Nat.{ℕ, ◌+◌, ◌-◌, ◌*◌, ◌/◌, ◌%◌, ◌≤◌, ◌<◌}
use Rattle.memory.specs.Bits.{pack_ext}
use Rattle.memory.specs.Booleans.{cond_neg}
use Rattle.memory.specs.Cases.{either, bool?}
use Rattle.memory.specs.Lists.{write, length_write, get_d_write_before, write_same, length_pieces, pieces_out}
use Rattle.memory.specs.Ranges.{memb, any_ext}
use Rattle.memory.specs.Words.{word}
use Rattle.layout.specs.Keys.{Key, key_in, key_at}
use Rattle.layout.specs.Geometry.{Geometry, page, sector, fourth_size, deletions_per_page, ka_ram, ram_size}
use Rattle.layout.specs.Hash.{Family}
use Rattle.layout.specs.Items.{Ra, KA, DA, fills, put, item_ram, zero_page, deletion_bytes, entry_bytes}
use Rattle.layout.specs.Index.{Index, in_ska, filters_per_flush, with_filter, filter_ram}
use Rattle.layout.specs.Calls.{key_index, key_filters, key_positions, page_filter, new_filter, summarized, insertion_ram}
use Rattle.layout.specs.Calls.{deletion_index, deletion_filters, new_half, first_half, second_half, deletion_ram}
use Rattle.laws.specs.SetLaws.{first_of_pair}
use Rattle.filter.specs.Fourths.{with_fourths, one_filter, two_filters}
use Rattle.plan.specs.Plans.{deletion_in, entry_in, deletion_fourths, entry_fourths}
use Rattle.planning.specs.declared.Slots.{Slots}
use Rattle.planning.specs.declared.Slots.TheVariants.{Delete, Insert, Update}
use Rattle.planning.specs.Edits.{DeletionGiven, RecordGiven, Given, ram_of}
use Rattle.kept.specs.Kept.{filters_kept, deletion_kept, entered, record_kept, kept}

-- ---- a record, its entry and its filter

module _ (h : Family) (g : Geometry) (n : ℕ) (key : Key) (bytes new filters ram : List ℕ)
    (G : RecordGiven h g n key bytes new filters ram) where
  abbrev F : ℕ
  F = key_filters g n

  entered_is : entered g n new ram ≡ item_ram g.u (KA g) n (entry_bytes key n) (item_ram g.u (Ra g) n bytes ram)
  entered_is =
      ap (λ (l : List ℕ). item_ram g.u (KA g) n (entry_in new) (item_ram g.u (Ra g) n l ram)) G.record_is_lem
      ∙ ap (λ (l : List ℕ). item_ram g.u (KA g) n l (item_ram g.u (Ra g) n bytes ram)) G.entry_is

  abbrev after : List ℕ
  after = item_ram g.u (KA g) n (entry_bytes key n) (item_ram g.u (Ra g) n bytes ram)

  -- one filter is put as the layout puts it
  filter_kept : fills (KA g) n ≡ true → filters_kept g.u (key_index g) F 1 (entry_fourths filters) after
      ≡ filter_ram g.u (key_index g) F (summarized h g n key ram after)
  filter_kept f =
      let at : ℕ = (key_index g).ska + in_ska F * fourth_size g.u in
      let z : F + (1 - 1) ≡ F = omega arith in
      ap (λ (k : ℕ). filter_ram g.u (key_index g) k (with_fourths g.u (1 * fourth_size g.u) at (entry_fourths filters) after)) z
      ∙ ap (filter_ram g.u (key_index g) F)
      (one_filter g.u (1 * fourth_size g.u) (key_index g) (in_ska F) (λ i. new_filter h g n key ram) (entry_fourths filters) after
      (omega arith) (G.filter_is f))

  pub record_kept_lem : record_kept g n new filters ram ≡ insertion_ram h g n key bytes ram
  unfolding insertion_ram
  record_kept_lem = by_fill (fills (KA g) n) refl
    where
      by_fill : (b : Bool) → fills (KA g) n ≡ b
          → cond b (filters_kept g.u (key_index g) F 1 (entry_fourths filters) (entered g n new ram)) (entered g n new ram)
          ≡ cond b (filter_ram g.u (key_index g) F (summarized h g n key ram after)) after
      by_fill false q = entered_is
      by_fill true q = ap (filters_kept g.u (key_index g) F 1 (entry_fourths filters)) entered_is ∙ filter_kept q

-- ---- a deletion and its two filters

module _ (g : Geometry) (d : ℕ) (item ram : List ℕ) where
  put_before : (y : ℕ) → y < 2 * page g.u → get_or (put (DA g) d item ram) y 0 ≡ get_or ram y 0
  unfolding put
  put_before y l = get_d_write_before ram ((DA g).ram + d % (DA g).per_page * (DA g).size) item y 0 (omega (arith, l))

  put_length : length (put (DA g) d item ram) ≡ length ram
  unfolding put
  put_length = length_write ram ((DA g).ram + d % (DA g).per_page * (DA g).size) item

  item_before : (y : ℕ) → y < 2 * page g.u → get_or (item_ram g.u (DA g) d item ram) y 0 ≡ get_or ram y 0
  item_before y l =
      either (bool? (fills (DA g) d))
      (λ f. rw f (get_d_write_before (put (DA g) d item ram) (DA g).ram (replicate (page g.u) 0) y 0 l ∙ put_before y l))
      (λ f. rw f (put_before y l))

  item_length : length (item_ram g.u (DA g) d item ram) ≡ length ram
  item_length =
      either (bool? (fills (DA g) d))
      (λ f. rw f (length_write (put (DA g) d item ram) (DA g).ram (replicate (page g.u) 0) ∙ put_length))
      (λ f. rw f put_length)

module _ (h : Family) (g : Geometry) (pos : 0 < g.u) (d j : ℕ) (new filters ram : List ℕ) (long : ram_size g ≤ length ram)
    (G : DeletionGiven h g d j new filters ram) where
  abbrev E : ℕ
  E = deletion_filters g d

  abbrev I : Index
  I = deletion_index g

  abbrev deleted : List ℕ
  deleted = item_ram g.u (DA g) d (deletion_bytes j) ram

  -- the first filter does not fill the SKA page, the second goes behind it
  filters_kept_lem : fills (DA g) d ≡ true
      → filters_kept g.u I E 2 (deletion_fourths filters) deleted ≡ filter_ram g.u I (E + 1) (second_half h g d j ram deleted)
  filters_kept_lem f =
      let s : in_ska E + 1 ≡ in_ska (E + 1) = omega arith in
      let first : filter_ram g.u I E (first_half h g d j ram deleted) ≡ first_half h g d j ram deleted
      = cond_neg (eqb (in_ska E + 1) filters_per_flush) (zero_page g.u I.ska (first_half h g d j ram deleted)) _
      (first_of_pair (d / deletions_per_page g.u)) in
      ap (filter_ram g.u I (E + 1))
      (two_filters g.u (2 * fourth_size g.u) I (in_ska E) (λ i. new_half h g d j i ram) (deletion_fourths filters) deleted
      refl pos (omega arith) (omega (arith, long, item_length g d (deletion_bytes j) ram)) (G.filters_are f)
      ∙ ap (λ (k : ℕ). with_filter g.u I k (new_half h g d j 1 ram) (first_half h g d j ram deleted)) s
      ∙ ap (with_filter g.u I (in_ska (E + 1)) (new_half h g d j 1 ram)) (sym first))

  pub deletion_kept_lem : deletion_kept g d new filters ram ≡ deletion_ram h g d j ram
  unfolding deletion_ram
  deletion_kept_lem = by_fill (fills (DA g) d) refl
    where
      by_fill : (b : Bool) → fills (DA g) d ≡ b
          → cond b (filters_kept g.u I E 2 (deletion_fourths filters) (item_ram g.u (DA g) d (deletion_in new) ram))
          (item_ram g.u (DA g) d (deletion_in new) ram)
          ≡ cond b (filter_ram g.u I (E + 1) (second_half h g d j ram deleted)) deleted
      by_fill false q = ap (λ (l : List ℕ). item_ram g.u (DA g) d l ram) G.number_is
      by_fill true q =
          ap (λ (l : List ℕ). filters_kept g.u I E 2 (deletion_fourths filters) (item_ram g.u (DA g) d l ram)) G.number_is
          ∙ filters_kept_lem q

-- ---- the filter of a page of entries is that of the RAM handed in, also after a deletion is kept

word_same : (l l' : List ℕ) (x : ℕ) → ((y : ℕ) → y < 4 → get_or l (x + y) 0 ≡ get_or l' (x + y) 0) → word l x ≡ word l' x
word_same l l' x e =
    let z : x + 0 ≡ x = omega arith in
    let e₀ : get_or l x 0 ≡ get_or l' x 0 = rw z at (e 0 (omega arith)) in
    rw (e₀, e 1 (omega arith), e 2 (omega arith), e 3 (omega arith))

module _ (h : Family) (g : Geometry) (n : ℕ) (key : Key) (ram ram' : List ℕ) where
  -- RAMs that agree up to the page of deletions
  filter_same : length ram ≡ length ram' → ((y : ℕ) → y < 2 * page g.u → get_or ram y 0 ≡ get_or ram' y 0)
      → (x : ℕ) → new_filter h g n key ram x ≡ new_filter h g n key ram' x
  unfolding page_filter put
  filter_same size same x =
      let at : ℕ = (KA g).ram + n % (KA g).per_page * (KA g).size in
      let item : List ℕ = entry_bytes key n in
      let words : (z : ℕ) → z + 4 ≤ 2 * page g.u → word (write ram at item) z ≡ word (write ram' at item) z
      = λ z m. word_same (write ram at item) (write ram' at item) z
      (λ y k. write_same ram ram' at item (z + y) 0 size (same (z + y) (omega (arith, m, k)))) in
      any_ext (λ i. memb x (key_positions h g (key_at (write ram at item) (ka_ram g.u + i * 8))))
      (λ i. memb x (key_positions h g (key_at (write ram' at item) (ka_ram g.u + i * 8)))) (8 * g.u)
      (λ i l. ap (λ (k : Key). memb x (key_positions h g k))
      (ap (λ (w : ℕ). key_in w (word (write ram at item) (ka_ram g.u + i * 8 + 4))) (words (ka_ram g.u + i * 8) (omega (arith, l)))
      ∙ ap (λ (w : ℕ). key_in (word (write ram' at item) (ka_ram g.u + i * 8)) w) (words (ka_ram g.u + i * 8 + 4) (omega (arith, l)))))

-- a deletion and its filters are kept behind them
module _ (u : ℕ) (ix : Index) (F n : ℕ) (fourths ram : List ℕ) (behind : 2 * page u ≤ ix.ska) where
  abbrev piece : ℕ
  piece = n * fourth_size u

  abbrev at : ℕ
  at = ix.ska + in_ska F * fourth_size u

  filters_before : (y : ℕ) → y < 2 * page u → get_or (filters_kept u ix F n fourths ram) y 0 ≡ get_or ram y 0
  filters_before y l =
      let out = pieces_out piece (sector u) at 4 (λ i y. get_or fourths (i * piece + y) 0) ram y 0
      (λ j k. inl (omega (arith, l, behind))) in
      either (bool? (eqb (in_ska (F + (n - 1)) + 1) filters_per_flush))
      (λ f. rw f
      (get_d_write_before (with_fourths u piece at fourths ram) ix.ska (replicate (page u) 0) y 0 (omega (arith, l, behind)) ∙ out))
      (λ f. rw f out)

  filters_length_lem : length (filters_kept u ix F n fourths ram) ≡ length ram
  filters_length_lem =
      let same = length_pieces piece (sector u) at 4 (λ i y. get_or fourths (i * piece + y) 0) ram in
      either (bool? (eqb (in_ska (F + (n - 1)) + 1) filters_per_flush))
      (λ f. rw f (length_write (with_fourths u piece at fourths ram) ix.ska (replicate (page u) 0) ∙ same))
      (λ f. rw f same)

module _ (g : Geometry) (d : ℕ) (new filters ram : List ℕ) where
  abbrev appended : List ℕ
  appended = item_ram g.u (DA g) d (deletion_in new) ram

  abbrev summed : List ℕ
  summed = filters_kept g.u (deletion_index g) (deletion_filters g d) 2 (deletion_fourths filters) appended

  deletion_before : (y : ℕ) → y < 2 * page g.u → get_or (deletion_kept g d new filters ram) y 0 ≡ get_or ram y 0
  deletion_before y l = by_fill (fills (DA g) d)
    where
      by_fill : (b : Bool) → get_or (cond b summed appended) y 0 ≡ get_or ram y 0
      by_fill false = item_before g d (deletion_in new) ram y l
      by_fill true =
          filters_before g.u (deletion_index g) (deletion_filters g d) 2 (deletion_fourths filters) appended (omega arith) y l
          ∙ item_before g d (deletion_in new) ram y l

  deletion_length : length (deletion_kept g d new filters ram) ≡ length ram
  deletion_length = by_fill (fills (DA g) d)
    where
      by_fill : (b : Bool) → length (cond b summed appended) ≡ length ram
      by_fill false = item_length g d (deletion_in new) ram
      by_fill true =
          filters_length_lem g.u (deletion_index g) (deletion_filters g d) 2 (deletion_fourths filters) appended (omega arith)
          ∙ item_length g d (deletion_in new) ram

-- ---- the RAM of a change

pub kept_is : (h : Family) (g : Geometry) (j : ℕ) (key : Key) (bytes new filters ram : List ℕ) → 0 < g.u → ram_size g ≤ length ram
    → (e : Slots) → Given h g j key bytes new filters ram e → kept g new filters ram e ≡ ram_of g h j key bytes ram e
kept_is h g j key bytes new filters ram pos long (Delete d) G = deletion_kept_lem h g pos d j new filters ram long G
kept_is h g j key bytes new filters ram pos long (Insert n) G = record_kept_lem h g n key bytes new filters ram G
kept_is h g j key bytes new filters ram pos long (Update d n) G =
    let D : List ℕ = deletion_kept g d new filters ram in
    record_kept_lem h g n key bytes new filters D
    (record {
      size = G.1.size;
      record_is_lem = G.1.record_is_lem;
      entry_is = G.1.entry_is;
      filter_is = λ f i k y a b c.
          G.1.filter_is f i k y a b c
          ∙ pack_ext 8 (λ b. new_filter h g n key ram (i * sector g.u + (y * 8 + b)))
          (λ b. new_filter h g n key D (i * sector g.u + (y * 8 + b)))
          (λ b l. filter_same h g n key ram D (sym (deletion_length g d new filters ram))
          (λ y l. sym (deletion_before g d new filters ram y l)) (i * sector g.u + (y * 8 + b)));
    })
    ∙ ap (insertion_ram h g n key bytes) (deletion_kept_lem h g pos d j new filters ram long G.0)
