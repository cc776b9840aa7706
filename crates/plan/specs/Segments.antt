-- The segments of a plan by their first sector, and where the bytes of a sector lie: a part of the RAM, then new bytes.
use Rattle.std.specs.Prelude.{◌≡◌, List, ◌++◌, ℕ, ◌+◌, ◌-◌, ◌*◌, ◌≤◌, ◌<◌, length, get_or, take, drop}
use Rattle.std.proofs.Common.{sym, ap, ◌∙◌, inl, inr, mul-le-mul_right, arith, length-take, length-drop, length-append, get_or-take, get_or-drop, get_or-append-add}
use Rattle.std.proofs.Math.ListN.{get_or-append}
use Rattle.memory.specs.Cases.{either, lt?}
use Rattle.memory.specs.Lists.{tabulate, is_tabulate, tabulate_ext, write, get_d_write_before, get_d_write_in, pieces_in, pieces_out}
use Rattle.layout.specs.Geometry.{sector, page}
use Rattle.layout.specs.Flash.{Planned, known, made, wipe}
use Rattle.layout.specs.Index.{Index, flushes_per_round, set_byte}
use Rattle.memory.specs.Lists.{tabulate_part}
use Rattle.geometry.specs.Indexes.{index_of}
use Rattle.filter.specs.Fourths.{with_fourths}
use Rattle.plan.specs.declared.Page.{Page}
use Rattle.plan.specs.declared.Flush.{Flush}
use Rattle.geometry.specs.declared.sets.Set.{Set}

module _ (u : ℕ) where
  -- sector j of a page from sector s on, and of a flush, with the bytes of the RAM page at `at`; sector j of a set
  abbrev pub page_from : ℕ → ℕ → List ℕ → ℕ → Planned
  page_from s at ram j = known (s + j) (tabulate (sector u) (λ y. get_or ram (at + (j * sector u + y)) 0))

  abbrev pub flush_from : ℕ → ℕ → List ℕ → ℕ → Planned
  flush_from s at ram j = known (s + j * flushes_per_round) (tabulate (sector u) (λ y. get_or ram (at + (j * sector u + y)) 0))

  abbrev pub set_from : ℕ → Index → ℕ → ℕ → ℕ → Planned
  set_from s ix z c j = made (s + j) (λ main. tabulate (sector u) (set_byte u ix main z c j))

  -- the RAM with an item over the end of its page at `at`, and with new fourths over the ends of the sectors of a SKA page
  abbrev pub with_item : ℕ → List ℕ → List ℕ → List ℕ
  with_item at item ram = write ram (at + (page u - length item)) item

  abbrev pub with_ends : Flush → List ℕ → List ℕ → List ℕ
  with_ends f fourths ram = with_fourths u f.piece (f.at + (sector u - f.piece)) fourths ram

  -- a page that an item fills, a flush, the next set, blocks to erase
  abbrev pub filled_page : Page → List ℕ → List ℕ → ℕ → Planned
  filled_page p item ram = page_from p.sector p.at (with_item p.at item ram)

  abbrev pub flushed : Flush → List ℕ → List ℕ → ℕ → Planned
  flushed f fourths ram = flush_from f.sector f.at (with_ends f fourths ram)

  abbrev pub next_set : Set → ℕ → ℕ → Planned
  next_set set s = set_from s (index_of set.index) set.full_sets set.rounds

abbrev pub wiped : ℕ → ℕ → Planned
wiped b j = wipe (b + j)

-- ---- a body and a tail, by their bytes

joined_tabulate : (body tail : List ℕ) (k n : ℕ) (f : ℕ → ℕ) → length body ≡ k → k + length tail ≡ n → ((y : ℕ) → y < k → get_or body y 0 ≡ f y)
    → ((y : ℕ) → y < length tail → get_or tail y 0 ≡ f (k + y)) → body ++ tail ≡ tabulate n f
joined_tabulate body tail k n f size whole low high =
    is_tabulate (body ++ tail) n f (length-append body tail ∙ omega (arith, size, whole))
    (λ y l. either (lt? y k)
    (λ q. get_or-append body tail 0 y (omega (arith, size, q.1)) ∙ low y q.1)
    (λ q.
    let a : length body + (y - k) ≡ y = omega (arith, size, q.1) in
    let b : k + (y - k) ≡ y = omega (arith, q.1) in
    ap (λ (x : ℕ). get_or (body ++ tail) x 0) (sym a) ∙ get_or-append-add body tail (y - k) 0
    ∙ high (y - k) (omega (arith, whole, l, q.1)) ∙ ap f b))

-- ---- the bytes of a page's sectors are parts of the RAM; those of the last one end with the item

module _ (u at : ℕ) (item ram : List ℕ) (short : length item ≤ sector u) (fits : at + page u ≤ length ram) where
  -- byte y of sector j
  abbrev byte : ℕ → ℕ → ℕ
  byte j y = get_or (with_item u at item ram) (at + (j * sector u + y)) 0

  old_byte : (j y : ℕ) → j * sector u + y + length item < page u → get_or ram (at + j * sector u + y) 0 ≡ byte j y
  old_byte j y h =
      let a : at + j * sector u + y ≡ at + (j * sector u + y) = omega arith in
      ap (λ (x : ℕ). get_or ram x 0) a
      ∙ sym (get_d_write_before ram (at + (page u - length item)) item (at + (j * sector u + y)) 0 (omega (arith, h)))

  -- `size` and `off` are what code computes
  module _ (size : ℕ) (size_is : size ≡ sector u) (j off : ℕ) (off_is : off ≡ j * sector u) where
    pub page_low : j + 1 < 4 → take (at + off + size - (at + off)) (drop (at + off) ram) ≡ tabulate (sector u) (byte j)
    page_low h =
        let m = mul-le-mul_right (sector u) h in
        let e : at + j * sector u + sector u - (at + j * sector u) ≡ sector u = omega arith in
        rw (size_is, off_is, e)
        (sym (tabulate_part ram (at + j * sector u) (sector u) (omega (arith, m, fits)))
        ∙ tabulate_ext (sector u) (λ y. get_or ram (at + j * sector u + y) 0) (byte j) (λ y l. old_byte j y (omega (arith, m, l, short))))

    pub page_last : j < 4 → 4 ≤ j + 1
        → take (at + off + (size - length item) - (at + off)) (drop (at + off) ram) ++ item ≡ tabulate (sector u) (byte j)
    page_last h k =
        let j3 : j ≡ 3 = omega arith in
        let m : j * sector u ≡ 3 * sector u = ap (λ (x : ℕ). x * sector u) j3 in
        let e : at + j * sector u + (sector u - length item) - (at + j * sector u) ≡ sector u - length item = omega arith in
        rw (size_is, off_is, e)
        (joined_tabulate (take (sector u - length item) (drop (at + j * sector u) ram)) item (sector u - length item) (sector u) (byte j)
        (simp (length-take, length-drop) (omega (arith, m, fits)))
        (omega (arith, short))
        (λ y l.
        get_or-take (sector u - length item) (drop (at + j * sector u) ram) y 0 l ∙ get_or-drop (at + j * sector u) ram y 0
        ∙ old_byte j y (omega (arith, m, l, short)))
        (λ y l.
        let b : at + (j * sector u + (sector u - length item + y)) - (at + (page u - length item)) ≡ y = omega (arith, m, short) in
        ap (λ (x : ℕ). get_or item x 0) (sym b)
        ∙ sym (get_d_write_in ram (at + (page u - length item)) item (at + (j * sector u + (sector u - length item + y))) 0
        (omega (arith, m, short)) (omega (arith, m, l, short)) (omega (arith, m, l, short, fits)))))

-- ---- those of a flush: a part of the RAM's, then `piece` bytes of the fourths

module _ (u : ℕ) (f : Flush) (fourths ram : List ℕ) (short : f.piece ≤ sector u) (given : 4 * f.piece ≤ length fourths)
    (fits : f.at + page u ≤ length ram) where
  -- byte y of sector j, and that of its piece of the fourths
  abbrev flush_byte : ℕ → ℕ → ℕ
  flush_byte j y = get_or (with_ends u f fourths ram) (f.at + (j * sector u + y)) 0

  abbrev fourth_byte_lem : ℕ → ℕ → ℕ
  fourth_byte_lem j y = get_or fourths (j * f.piece + y) 0

  flush_old : (j y : ℕ) → y < sector u - f.piece → flush_byte j y ≡ get_or ram (f.at + (j * sector u + y)) 0
  flush_old j y h =
      pieces_out f.piece (sector u) (f.at + (sector u - f.piece)) 4 fourth_byte_lem ram (f.at + (j * sector u + y)) 0
      (λ i l. either (lt? i j)
      (λ q. inr (omega (arith, short, mul-le-mul_right (sector u) q.1)))
      (λ q. inl (omega (arith, h, mul-le-mul_right (sector u) q.1))))

  flush_new : (j y : ℕ) → j < 4 → y < f.piece → flush_byte j (sector u - f.piece + y) ≡ fourth_byte_lem j y
  flush_new j y h l =
      let e : f.at + (j * sector u + (sector u - f.piece + y)) ≡ f.at + (sector u - f.piece) + j * sector u + y = omega arith in
      rw e (pieces_in f.piece (sector u) (f.at + (sector u - f.piece)) 4 fourth_byte_lem ram j y 0 short
      (omega (arith, short, fits, mul-le-mul_right (sector u) h)) h l)

  -- `size` and `off` are what code computes
  pub flush_sector_lem : (size off j : ℕ) → size ≡ sector u → off ≡ j * sector u → j < 4
      → take (f.at + off + (size - f.piece) - (f.at + off)) (drop (f.at + off) ram)
      ++ take (j * f.piece + f.piece - j * f.piece) (drop (j * f.piece) fourths) ≡ tabulate (sector u) (flush_byte j)
  flush_sector_lem size off j size_is off_is h =
      let m = mul-le-mul_right (sector u) h in
      let n : length (take f.piece (drop (j * f.piece) fourths)) ≡ f.piece
      = simp (length-take, length-drop) (omega (arith, mul-le-mul_right f.piece h, given)) in
      let a : f.at + j * sector u + (sector u - f.piece) - (f.at + j * sector u) ≡ sector u - f.piece = omega arith in
      let d : j * f.piece + f.piece - j * f.piece ≡ f.piece = omega arith in
      rw (size_is, off_is, a, d)
      (joined_tabulate (take (sector u - f.piece) (drop (f.at + j * sector u) ram)) (take f.piece (drop (j * f.piece) fourths))
      (sector u - f.piece) (sector u) (flush_byte j)
      (simp (length-take, length-drop) (omega (arith, m, fits)))
      (omega (arith, n, short))
      (λ y l.
      let b : f.at + j * sector u + y ≡ f.at + (j * sector u + y) = omega arith in
      get_or-take (sector u - f.piece) (drop (f.at + j * sector u) ram) y 0 l ∙ get_or-drop (f.at + j * sector u) ram y 0
      ∙ ap (λ (x : ℕ). get_or ram x 0) b ∙ sym (flush_old j y l))
      (λ y l.
      let b : y < f.piece = omega (arith, n, l) in
      get_or-take f.piece (drop (j * f.piece) fourths) y 0 b ∙ get_or-drop (j * f.piece) fourths y 0 ∙ sym (flush_new j y h b)))
