-- RAMs that agree on a page: they plan the same out of it. An item and a filter leave the other pages as they are.
use Rattle.std.specs.Prelude.{◌≡◌, refl, ◌⊎◌, Bool, ℕ, zero, suc, ◌+◌, ◌*◌, ◌/◌, ◌%◌, ◌≤◌, ◌<◌, length, replicate, eqb}
use Rattle.std.proofs.Math.Path.{sym, ap}
use Rattle.std.proofs.Common.{ap₂, ◌∙◌, inl, inr, mod-lt, arith}
use Rattle.std.proofs.Math.Bool.{cond}
use mathlib.Core.List.{List, [], ◌++◌}
use Rattle.std.proofs.Math.Nat.{mul-le-mul_right}
use Rattle.std.proofs.Math.ListN.{get_or}
use Rattle.std.proofs.lemmas.List.{length-replicate}
use Rattle.memory.specs.Cases.{either, bool?}
use Rattle.memory.specs.Lists.{tabulate, tabulate_ext, length_write, write_same, get_d_write_before, get_d_write_after, length_pieces, pieces_same}
use Rattle.memory.specs.Ranges.{any_ext, memb}
use Rattle.memory.specs.Words.{word}
use Rattle.layout.specs.Geometry.{Geometry, sector, page, ka_ram}
use Rattle.layout.specs.Flash.{Planned, known, planned_from}
use Rattle.layout.specs.Hash.{Family}
use Rattle.layout.specs.Items.{Area, put, fills, item_plan, item_ram, zero_page}
use Rattle.layout.specs.Index.{Index, in_ska, in_l1, in_set, in_full, with_filter, build_plan, flush_and_build, filter_plan, filter_ram}
use Rattle.layout.specs.Keys.{Key, key_in, key_at}
use Rattle.layout.specs.Calls.{key_positions, page_filter}
use Rattle.history.proofs.SkaLaws.{filter_out, filter_length, zero_out}
use Rattle.history.specs.RamPages.{SamePage}

-- sectors with equal bytes
sectors_ext : (u i k : ℕ) (at : ℕ → ℕ) (f g : ℕ → ℕ → ℕ) → ((j y : ℕ) → j < i + k → y < sector u → f j y ≡ g j y)
    → planned_from (λ j. known (at j) (tabulate (sector u) (f j))) i k ≡ planned_from (λ j. known (at j) (tabulate (sector u) (g j))) i k
sectors_ext u i zero at f g e = refl
sectors_ext u i (suc k) at f g e =
    rw (tabulate_ext (sector u) (f i) (g i) (λ y l. e i y (omega arith) l), sectors_ext u (suc i) k at f g (λ j y l m. e j y (omega arith) m))

module _ (u : ℕ) where
  pub same_then : (at : ℕ) (r s t : List ℕ) → SamePage u at r s → SamePage u at s t → SamePage u at r t
  same_then at r s t p q = record { bytes = λ x lo hi. p.bytes x lo hi ∙ q.bytes x lo hi; long = p.long ∙ q.long }

  -- ---- an item

  pub put_same : (a : Area) (n at : ℕ) (item r r' : List ℕ) → SamePage u at r r' → SamePage u at (put a n item r) (put a n item r')
  unfolding put
  put_same a n at item r r' p = record {
    bytes = λ x lo hi. write_same r r' (a.ram + n % a.per_page * a.size) item x 0 p.long (p.bytes x lo hi);
    long = length_write r (a.ram + n % a.per_page * a.size) item ∙ p.long
        ∙ sym (length_write r' (a.ram + n % a.per_page * a.size) item);
  }

  pub item_plan_same : (a : Area) (n : ℕ) (item r r' : List ℕ) → SamePage u a.ram r r' → item_plan u a n item r ≡ item_plan u a n item r'
  item_plan_same a n item r r' p =
      either (bool? (fills a n))
      (λ q. rw q (sectors_ext u 0 4 (λ j. a.first * 64 + n / a.per_page * 4 + j) _ _
      (λ j y l m. (put_same a n a.ram item r r' p).bytes (a.ram + (j * (16 * u) + y)) (omega arith)
      (omega (arith, m, mul-le-mul_right (16 * u) l)))))
      (λ q. rw q)

  -- a page that is not that of the area
  module _ (a : Area) (n at : ℕ) (item ram : List ℕ) (some : 0 < a.per_page) (whole : a.per_page * a.size ≡ page u)
      (size : length item ≡ a.size)
      (apart : (at + page u ≤ a.ram) ⊎ (a.ram + page u ≤ at)) where
    put_apart : SamePage u at ram (put a n item ram)
    unfolding put
    put_apart =
        let m = mul-le-mul_right a.size (mod-lt n {m = a.per_page} some) in
        record {
          bytes = λ x lo hi. sym (either apart
              (λ o. get_d_write_before ram (a.ram + n % a.per_page * a.size) item x 0 (omega arith))
              (λ o. get_d_write_after ram (a.ram + n % a.per_page * a.size) item x 0 (omega (arith, m, size, whole))));
          long = sym (length_write ram (a.ram + n % a.per_page * a.size) item);
        }

    zero_apart : (r : List ℕ) → SamePage u at r (zero_page u a.ram r)
    zero_apart r =
        let l : length (replicate {A = ℕ} (page u) 0) ≡ page u = length-replicate {A = ℕ} (page u) 0 in
        record {
          bytes = λ x lo hi. sym (either apart
              (λ o. get_d_write_before r a.ram (replicate (page u) 0) x 0 (omega arith))
              (λ o. get_d_write_after r a.ram (replicate (page u) 0) x 0 (omega arith)));
          long = sym (length_write r a.ram (replicate (page u) 0));
        }

    pub item_apart : SamePage u at ram (item_ram u a n item ram)
    item_apart =
        either (bool? (fills a n))
        (λ q. rw q (same_then at ram (put a n item ram) _ put_apart (zero_apart (put a n item ram))))
        (λ q. rw q put_apart)

  -- ---- a filter

  pub with_filter_same : (ix : Index) (s at : ℕ) (new : ℕ → Bool) (r r' : List ℕ) → SamePage u at r r'
      → SamePage u at (with_filter u ix s new r) (with_filter u ix s new r')
  with_filter_same ix s at new r r' p = record {
    bytes = λ x lo hi. pieces_same (2 * u) (16 * u) (ix.ska + s * (2 * u)) 4 _ r r' x 0 p.long (p.bytes x lo hi);
    long = length_pieces (2 * u) (16 * u) (ix.ska + s * (2 * u)) 4 _ r ∙ p.long
        ∙ sym (length_pieces (2 * u) (16 * u) (ix.ska + s * (2 * u)) 4 _ r');
  }

  flush_same : (ix : Index) (F : ℕ) (r r' : List ℕ) → SamePage u ix.ska r r' → flush_and_build u ix F r ≡ flush_and_build u ix F r'
  unfolding flush_and_build
  flush_same ix F r r' p =
      ap (λ (ps : List Planned). ps ++ cond (eqb (in_l1 F + 1) 16) (build_plan u ix (in_full u F) (in_set u F)) [])
      (sectors_ext u 0 4 (λ i. ix.first * 64 + in_l1 F + i * 16) (λ i y. get_or r (ix.ska + (i * (16 * u) + y)) 0)
      (λ i y. get_or r' (ix.ska + (i * (16 * u) + y)) 0)
      (λ i y l m. p.bytes (ix.ska + (i * (16 * u) + y)) (omega arith) (omega (arith, m, mul-le-mul_right (16 * u) l))))

  pub filter_plan_same : (ix : Index) (F : ℕ) (r r' : List ℕ) → SamePage u ix.ska r r' → filter_plan u ix F r ≡ filter_plan u ix F r'
  filter_plan_same ix F r r' p = either (bool? (eqb (in_ska F + 1) 8)) (λ q. rw q (flush_same ix F r r' p)) (λ q. rw q)

  -- a page that is not the index's
  module _ (pu : 0 < u) (ix : Index) (at : ℕ) (apart : (at + page u ≤ ix.ska) ⊎ (ix.ska + page u ≤ at)) where
    out : (x : ℕ) → at ≤ x → x < at + page u → (x < ix.ska) ⊎ (ix.ska + page u ≤ x)
    out x lo hi = either apart (λ o. inl (omega arith)) (λ o. inr (omega arith))

    pub filter_apart : (s : ℕ) (new : ℕ → Bool) (r : List ℕ) → s < 8 → SamePage u at r (with_filter u ix s new r)
    filter_apart s new r l = record {
      bytes = λ x lo hi. sym (filter_out u pu ix new s r x l (out x lo hi));
      long = sym (filter_length u pu ix new s r);
    }

    pub filter_ram_apart : (F : ℕ) (r : List ℕ) → SamePage u at r (filter_ram u ix F r)
    filter_ram_apart F r =
        either (bool? (eqb (in_ska F + 1) 8))
        (λ q. rw q (record {
          bytes = λ x lo hi. sym (zero_out u pu ix r x (out x lo hi));
          long = sym (length_write r ix.ska (replicate (page u) 0));
        }))
        (λ q. rw q (record { bytes = λ x lo hi. refl; long = refl }))

-- the filter of a page of entries
pub page_filter_same : (h : Family) (g : Geometry) (r r' : List ℕ) → SamePage g.u (ka_ram g.u) r r'
    → page_filter h g r ≡ page_filter h g r'
unfolding page_filter
page_filter_same h g r r' p = λ q x. bit x q
  where
    -- a word of the page
    word_same : (at : ℕ) → ka_ram g.u ≤ at → at + 4 ≤ ka_ram g.u + page g.u → word r at ≡ word r' at
    word_same at lo hi =
        rw (
          p.bytes at (omega arith) (omega arith),
          p.bytes (at + 1) (omega arith) (omega arith),
          p.bytes (at + 2) (omega arith) (omega arith),
          p.bytes (at + 3) (omega arith) (omega arith),
        )

    key : (i : ℕ) → i < 8 * g.u → key_at r (ka_ram g.u + i * 8) ≡ key_at r' (ka_ram g.u + i * 8)
    key i l =
        ap₂ key_in (word_same (ka_ram g.u + i * 8) (omega arith) (omega arith))
        (word_same (ka_ram g.u + i * 8 + 4) (omega arith) (omega arith))

    bit : (x : ℕ) → page_filter h g r x ≡ page_filter h g r' x
    bit x = any_ext _ _ (8 * g.u) (λ i l. ap (λ (k : Key). memb x (key_positions h g k)) (key i l))
