-- An area that grows at its end (records, entries, deletions): its image is kept, read and extended by one item.
use Rattle.std.specs.Prelude.{◌≡◌, ◌⊎◌, false, cond, List, ℕ, ◌+◌, ◌-◌, ◌*◌, ◌/◌, ◌%◌, ◌^◌, ◌≤◌, ◌<◌, length, replicate}
use Rattle.std.proofs.Math.Path.{sym}
use Rattle.std.proofs.Common.{ap, ◌∙◌, inl, inr, mul-le-mul_right}
use Rattle.std.proofs.Math.Bool.{true}
use native.Mathlib.Omega.{arith}
use Rattle.std.proofs.Math.ListN.{get_or}
use Rattle.std.proofs.lemmas.List.{length-replicate, get_or-replicate}
use Rattle.std.proofs.Math.Dec.{ltb}
use borrow.Author.Tests.{lt-ltb, le-ltb, eq-eqb, ne_eqb}
use Rattle.memory.specs.Cases.{bool?, lt?, either}
use Rattle.memory.specs.Lists.{write, length_write, get_d_write_before, get_d_write_in, get_d_write_after, tabulate, length_tabulate, get_d_tabulate, tabulate_ext}
use Rattle.memory.specs.Lists.{part}
use Rattle.memory.specs.Numbers.{euclid, div_of, mod_of, carry}
use Rattle.memory.specs.Words.{word, byte_of, bytes_word}
use Rattle.layout.specs.Geometry.{sector, page, block}
use Rattle.layout.specs.Flash.{Flash, Op, apply_all, all_fresh}
use Rattle.layout.specs.Items.{Area, item_place, source, bytes_at, item_word, put, fills, item_ram}
use Rattle.history.specs.Operations.{page_ops, item_ops}
use Rattle.history.specs.FlashLaws.{AllAllowed}
use Rattle.history.proofs.FlashLaws.{fresh_programs, programs_spare_out, programs_spare_in, programs_allowed, range_out}
use Rattle.history.proofs.FlashLaws.{row_main, apply_main_length, apply_spare_length}
use Rattle.history.specs.Image.{AreaIs, area_byte, area_ram_byte, area_spare_byte}
use Rattle.history.specs.Frames.{AreaGrown}
use Rattle.history.specs.AreaNumbers.{flat}
use Rattle.history.proofs.AreaNumbers.{start, room_left, in_page, flat_at, flat_ext, flat_new}

-- an area whose pages are full of items
module _ (u : ℕ) (pu : 0 < u) (a : Area) (blocks : ℕ) (whole : a.per_page * a.size ≡ page u) (pq : 0 < a.per_page) (ps : 0 < a.size) where
  -- only the items that are there decide
  pub area_ext : (f g : ℕ → ℕ → ℕ) (n : ℕ) (main spare ram : List ℕ) → ((j b : ℕ) → j < n → b < a.size → f j b ≡ g j b)
      → AreaIs u a blocks f n main spare ram → AreaIs u a blocks g n main spare ram
  area_ext f g n main spare ram same A =
      record {
        on_main_lem = λ i h. A.on_main_lem i h ∙ on_main i;
        on_spare = A.on_spare;
        on_ram_lem = λ i h. A.on_ram_lem i h ∙ on_ram i;
      }
    where
      on_main : (i : ℕ) → area_byte a f n i ≡ area_byte a g n i
      on_main i =
          either (lt? i (n / a.per_page * (a.per_page * a.size)))
          (λ c. rw c.0 (flat_ext f g n a.size ps same i (omega (arith, start n a.per_page a.size pq))))
          (λ c. rw c.0)

      on_ram : (i : ℕ) → area_ram_byte a f n i ≡ area_ram_byte a g n i
      on_ram i =
          either (lt? i (n % a.per_page * a.size))
          (λ c. rw c.0 (flat_ext f g n a.size ps same (n / a.per_page * (a.per_page * a.size) + i)
          (omega (arith, start n a.per_page a.size pq))))
          (λ c. rw c.0)

  -- an area whose bytes are kept is kept
  pub area_kept : (f : ℕ → ℕ → ℕ) (n : ℕ) (main spare ram main' spare' ram' : List ℕ) → AreaIs u a blocks f n main spare ram
      → ((x : ℕ) → a.first * block u ≤ x → x < (a.first + blocks) * block u → get_or main' x 0 ≡ get_or main x 0)
      → ((x : ℕ) → a.first * 64 ≤ x → x < (a.first + blocks) * 64 → get_or spare' x 0 ≡ get_or spare x 0)
      → ((x : ℕ) → a.ram ≤ x → x < a.ram + page u → get_or ram' x 0 ≡ get_or ram x 0)
      → AreaIs u a blocks f n main' spare' ram'
  area_kept f n main spare ram main' spare' ram' A m s r =
      record {
        on_main_lem = λ i h. m (a.first * block u + i) (omega arith) (omega arith) ∙ A.on_main_lem i h;
        on_spare = λ x h. s (a.first * 64 + x) (omega arith) (omega arith) ∙ A.on_spare x h;
        on_ram_lem = λ i h. r (a.ram + i) (omega arith) (omega arith) ∙ A.on_ram_lem i h;
      }

  -- an erased area with a zeroed RAM page has no item
  pub area_start : (f : ℕ → ℕ → ℕ) (main spare ram : List ℕ)
      → ((x : ℕ) → a.first * block u ≤ x → x < (a.first + blocks) * block u → get_or main x 0 ≡ 255)
      → ((x : ℕ) → a.first * 64 ≤ x → x < (a.first + blocks) * 64 → get_or spare x 0 ≡ 255)
      → ((x : ℕ) → a.ram ≤ x → x < a.ram + page u → get_or ram x 0 ≡ 0)
      → AreaIs u a blocks f 0 main spare ram
  area_start f main spare ram m s r =
      record {
        on_main_lem = λ i h. m (a.first * block u + i) (omega arith) (omega arith)
            ∙ rw (le-ltb i (0 / a.per_page * (a.per_page * a.size)) (omega (arith, ap (λ (x : ℕ). x * (a.per_page * a.size)) none)));
        on_spare = λ x h. s (a.first * 64 + x) (omega arith) (omega arith)
            ∙ rw (le-ltb x (0 / a.per_page * 4) (omega (arith, none)));
        on_ram_lem = λ i h. r (a.ram + i) (omega arith) (omega arith)
            ∙ rw (le-ltb i (0 % a.per_page * a.size) (omega (arith, ap (λ (x : ℕ). x * a.size) rest)));
      }
    where
      none : 0 / a.per_page ≡ 0
      none = div_of 0 a.per_page 0 0 (omega arith) pq

      rest : 0 % a.per_page ≡ 0
      rest = mod_of 0 a.per_page 0 0 (omega arith) pq

  -- byte b of item j reads as it was put
  pub read_byte : (f : ℕ → ℕ → ℕ) (n : ℕ) (main spare ram : List ℕ) → AreaIs u a blocks f n main spare ram → n * a.size ≤ blocks * block u
      → (j b : ℕ) → j < n → b < a.size → get_or (source main ram (item_place u a n j)) ((item_place u a n j).at + b) 0 ≡ f j b
  read_byte f n main spare ram A room j b hj hb =
      let E = euclid n a.per_page pq in
      let jw : j * a.size + a.size ≤ n * a.size = omega (arith, mul-le-mul_right a.size hj) in
      either (lt? j (n / a.per_page * a.per_page))
      (λ c.
      let k : j * a.size + a.size ≤ n / a.per_page * (a.per_page * a.size) = omega (arith, mul-le-mul_right a.size c.1) in
      let t : ltb (j * a.size + b) (n / a.per_page * (a.per_page * a.size)) ≡ true = lt-ltb (j * a.size + b) _ (omega arith) in
      let s : a.first * block u + j * a.size + b ≡ a.first * block u + (j * a.size + b) = omega arith in
      rw (c.0, s) (A.on_main_lem (j * a.size + b) (omega arith) ∙ rw t (flat_at f a.size j b hb)))
      (λ c.
      let P = in_page n a.per_page j pq c.1 hj in
      let k : (j - n / a.per_page * a.per_page) * a.size + a.size ≤ n % a.per_page * a.size
      = omega (arith, mul-le-mul_right a.size P.1) in
      let k2 : n % a.per_page * a.size + a.size ≤ a.per_page * a.size = room_left n a.per_page a.size pq in
      let t : ltb ((j - n / a.per_page * a.per_page) * a.size + b) (n % a.per_page * a.size) ≡ true
      = lt-ltb ((j - n / a.per_page * a.per_page) * a.size + b) _ (omega arith) in
      let whole_j : n / a.per_page * a.per_page + (j - n / a.per_page * a.per_page) ≡ j = omega arith in
      let e : n / a.per_page * (a.per_page * a.size) + ((j - n / a.per_page * a.per_page) * a.size + b) ≡ j * a.size + b
      = omega (arith, ap (λ (x : ℕ). x * a.size) whole_j) in
      let s : a.ram + (j - n / a.per_page * a.per_page) * a.size + b ≡ a.ram + ((j - n / a.per_page * a.per_page) * a.size + b)
      = omega arith in
      rw (c.0, P.0, s) (A.on_ram_lem ((j - n / a.per_page * a.per_page) * a.size + b) (omega (arith, whole))
      ∙ rw (t, e) (flat_at f a.size j b hb)))

  -- word i of item j reads as it was put
  pub read_word : (f : ℕ → ℕ → ℕ) (n : ℕ) (main spare ram : List ℕ) → AreaIs u a blocks f n main spare ram → n * a.size ≤ blocks * block u
      → (j i k : ℕ) → j < n → i * 4 + 4 ≤ a.size → k < 2 ^ 32 → ((b : ℕ) → b < 4 → f j (i * 4 + b) ≡ byte_of k b)
      → item_word u a n main ram j i ≡ k
  unfolding item_word
  read_word f n main spare ram A room j i k hj hi small is =
      bytes_word k _ _ _ _ small (byte 0 _ (omega arith) (omega arith)) (byte 1 _ (omega arith) (omega arith))
      (byte 2 _ (omega arith) (omega arith)) (byte 3 _ (omega arith) (omega arith))
    where
      byte : (b x : ℕ) → b < 4 → x ≡ (item_place u a n j).at + (i * 4 + b) → get_or (source main ram (item_place u a n j)) x 0 ≡ byte_of k b
      byte b x hb e = rw e (read_byte f n main spare ram A room j (i * 4 + b) hj (omega arith) ∙ is b hb)

  -- the bytes of item j where it lies
  pub read_bytes : (f : ℕ → ℕ → ℕ) (n : ℕ) (main spare ram : List ℕ) → AreaIs u a blocks f n main spare ram → n * a.size ≤ blocks * block u
      → (j : ℕ) → j < n → bytes_at main ram (item_place u a n j) a.size ≡ tabulate a.size (f j)
  read_bytes f n main spare ram A room j hj = tabulate_ext a.size _ (f j) (λ b hb. read_byte f n main spare ram A room j b hj hb)

  -- one more item; g is f with item n in it
  module _ (f : ℕ → ℕ → ℕ) (n : ℕ) (item : List ℕ) (C : Flash) (ram : List ℕ) (A : AreaIs u a blocks f n C.main C.spare ram)
      (size_is : length item ≡ a.size) (new : (b : ℕ) → b < a.size → get_or item b 0 ≡ f n b) (room : n / a.per_page < blocks * 16)
      (main_fits : (a.first + blocks) * block u ≤ length C.main) (spare_fits : (a.first + blocks) * 64 ≤ length C.spare)
      (ram_fits : a.ram + page u ≤ length ram) where
    abbrev ops : List Op
    ops = item_ops u a n item ram

    -- bytes of the full pages, the first sector of the page to fill, byte y of its sector j
    abbrev done : ℕ
    done = n / a.per_page * (a.per_page * a.size)

    abbrev first_sector : ℕ
    first_sector = a.first * 64 + n / a.per_page * 4

    abbrev bytes : ℕ → ℕ → ℕ
    bytes j y = get_or (put a n item ram) (a.ram + (j * sector u + y)) 0

    done_is : done ≡ n / a.per_page * (64 * u)
    done_is = ap (λ (x : ℕ). n / a.per_page * x) whole

    -- the area has room for the page
    page_room : done + a.per_page * a.size ≤ blocks * block u
    page_room = omega (arith, mul-le-mul_right (64 * u) room, done_is, whole)

    length_put : length (put a n item ram) ≡ length ram
    unfolding put
    length_put = length_write ram _ item

    -- the RAM page with the new item in it
    put_ram : (i : ℕ) → i < page u
        → get_or (put a n item ram) (a.ram + i) 0 ≡ cond (ltb i (n % a.per_page * a.size + a.size)) (flat f a.size (done + i)) 0
    unfolding put
    put_ram i h =
        let st = start n a.per_page a.size pq in
        either (lt? i (n % a.per_page * a.size))
        (λ c.
        let t : ltb i (n % a.per_page * a.size + a.size) ≡ true = lt-ltb i _ (omega arith) in
        get_d_write_before ram (a.ram + n % a.per_page * a.size) item (a.ram + i) 0 (omega arith)
        ∙ A.on_ram_lem i h ∙ rw (c.0, t))
        (λ c. either (lt? i (n % a.per_page * a.size + a.size))
        (λ d.
        let s : a.ram + i - (a.ram + n % a.per_page * a.size) ≡ done + i - n * a.size = omega arith in
        get_d_write_in ram (a.ram + n % a.per_page * a.size) item (a.ram + i) 0 (omega arith) (omega arith) (omega arith)
        ∙ rw (d.0, s) (new (done + i - n * a.size) (omega arith) ∙ sym (flat_new f n a.size (done + i) (omega arith) (omega arith))))
        (λ d. get_d_write_after ram (a.ram + n % a.per_page * a.size) item (a.ram + i) 0 (omega arith) ∙ A.on_ram_lem i h ∙ rw (c.0, d.0)))

    -- the page programmed is one write
    page_main : (apply_all u (page_ops u a n (put a n item ram)) C).main
        ≡ write C.main (a.first * block u + done) (part (put a n item ram) a.ram (a.per_page * a.size))
    page_main =
        let from : first_sector * (16 * u) ≡ a.first * block u + done = omega (arith, done_is) in
        let long : 4 * (16 * u) ≡ a.per_page * a.size = omega (arith, whole) in
        let same : tabulate (a.per_page * a.size) (λ i. bytes (i / (16 * u)) (i % (16 * u)))
        ≡ part (put a n item ram) a.ram (a.per_page * a.size)
        = tabulate_ext (a.per_page * a.size) _ _ (λ i l. rw (euclid i (16 * u) (omega arith)).whole) in
        row_main u first_sector 4 bytes C (omega arith) (omega (arith, done_is, page_room, main_fits, whole)) ∙ rw (from, long, same)

    -- the main area after the item that fills its page
    main_full : n % a.per_page + 1 ≡ a.per_page → (i : ℕ) → i < blocks * block u
        → get_or (apply_all u (page_ops u a n (put a n item ram)) C).main (a.first * block u + i) 0
        ≡ cond (ltb i (done + a.per_page * a.size)) (flat f a.size i) 255
    main_full full i h =
        let st = start n a.per_page a.size pq in
        let last : n % a.per_page * a.size + a.size ≡ a.per_page * a.size = omega (arith, ap (λ (x : ℕ). x * a.size) full) in
        let long = length_tabulate (a.per_page * a.size) (λ k. get_or (put a n item ram) (a.ram + k) 0) in
        rw page_main
        (either (lt? i done)
        (λ c.
        let t : ltb i (done + a.per_page * a.size) ≡ true = lt-ltb i _ (omega arith) in
        get_d_write_before C.main _ _ (a.first * block u + i) 0 (omega arith)
        ∙ A.on_main_lem i h ∙ rw (c.0, t))
        (λ c. either (lt? i (done + a.per_page * a.size))
        (λ d.
        let k : i - done < a.per_page * a.size = omega arith in
        let s : a.first * block u + i - (a.first * block u + done) ≡ i - done = omega arith in
        let e : done + (i - done) ≡ i = omega arith in
        get_d_write_in C.main _ _ (a.first * block u + i) 0 (omega arith) (omega arith) (omega (arith, main_fits))
        ∙ rw s (get_d_tabulate (a.per_page * a.size) _ (i - done) 0 k)
        ∙ put_ram (i - done) (omega (arith, whole))
        ∙ rw (lt-ltb (i - done) (n % a.per_page * a.size + a.size) (omega arith), d.0, e))
        (λ d. get_d_write_after C.main _ _ (a.first * block u + i) 0 (omega arith) ∙ A.on_main_lem i h ∙ rw (c.0, d.0))))

    main_add : (i : ℕ) → i < blocks * block u → get_or (apply_all u ops C).main (a.first * block u + i) 0 ≡ area_byte a f (n + 1) i
    main_add i h =
        either (carry n a.per_page pq)
        (λ k.
        let c : fills a n ≡ true = eq-eqb (n % a.per_page + 1) a.per_page k.0 in
        let more : (n / a.per_page + 1) * (a.per_page * a.size) ≡ done + a.per_page * a.size = omega arith in
        rw (c, k.1, more) (main_full k.0 i h))
        (λ k.
        let c : fills a n ≡ false = ne_eqb (n % a.per_page + 1) a.per_page k.0 in
        rw (c, k.1) (A.on_main_lem i h))

    spare_full : (x : ℕ) → x < blocks * 64
        → get_or (apply_all u (page_ops u a n (put a n item ram)) C).spare (a.first * 64 + x) 0 ≡ cond (ltb x (n / a.per_page * 4 + 4)) 0 255
    spare_full x h =
        either (lt? x (n / a.per_page * 4))
        (λ c.
        programs_spare_out u 1 first_sector 4 bytes C (a.first * 64 + x) (λ j l. omega arith)
        ∙ A.on_spare x h ∙ rw (c.0, lt-ltb x (n / a.per_page * 4 + 4) (omega arith)))
        (λ c. either (lt? x (n / a.per_page * 4 + 4))
        (λ d.
        let s : a.first * 64 + x ≡ first_sector + (x - n / a.per_page * 4) * 1 = omega arith in
        rw (s, d.0) (programs_spare_in u 1 first_sector 4 bytes C (x - n / a.per_page * 4) (omega arith) (omega arith) (omega arith)))
        (λ d. programs_spare_out u 1 first_sector 4 bytes C (a.first * 64 + x) (λ j l. omega arith) ∙ A.on_spare x h ∙ rw (c.0, d.0)))

    spare_add : (x : ℕ) → x < blocks * 64 → get_or (apply_all u ops C).spare (a.first * 64 + x) 0 ≡ area_spare_byte a (n + 1) x
    spare_add x h =
        either (carry n a.per_page pq)
        (λ k.
        let c : fills a n ≡ true = eq-eqb (n % a.per_page + 1) a.per_page k.0 in
        let more : (n / a.per_page + 1) * 4 ≡ n / a.per_page * 4 + 4 = omega arith in
        rw (c, k.1, more) (spare_full x h))
        (λ k.
        let c : fills a n ≡ false = ne_eqb (n % a.per_page + 1) a.per_page k.0 in
        rw (c, k.1) (A.on_spare x h))

    ram_add : (i : ℕ) → i < page u → get_or (item_ram u a n item ram) (a.ram + i) 0 ≡ area_ram_byte a f (n + 1) i
    ram_add i h =
        either (carry n a.per_page pq)
        (λ k.
        let c : fills a n ≡ true = eq-eqb (n % a.per_page + 1) a.per_page k.0 in
        let z : 0 * a.size ≡ 0 = omega arith in
        let no : ltb i 0 ≡ false = le-ltb i 0 (omega arith) in
        let s : a.ram + i - a.ram ≡ i = omega arith in
        rw (c, k.2, z, no)
        (get_d_write_in (put a n item ram) a.ram _ (a.ram + i) 0 (omega arith) (omega (arith, length-replicate {A = ℕ} (page u) 0))
        (omega (arith, ram_fits, length_put))
        ∙ rw s (get_or-replicate (page u) i 0 0 h)))
        (λ k.
        let c : fills a n ≡ false = ne_eqb (n % a.per_page + 1) a.per_page k.0 in
        let more : (n % a.per_page + 1) * a.size ≡ n % a.per_page * a.size + a.size = omega arith in
        rw (c, k.1, k.2, more) (put_ram i h))

    -- the sectors of the page to fill are fresh
    page_fresh : (j : ℕ) → j < 4 → get_or C.spare (first_sector + j * 1) 0 ≡ 255
    page_fresh j l =
        let s : first_sector + j * 1 ≡ a.first * 64 + (n / a.per_page * 4 + j) = omega arith in
        rw s (A.on_spare (n / a.per_page * 4 + j) (omega arith) ∙ rw (le-ltb (n / a.per_page * 4 + j) (n / a.per_page * 4) (omega arith)))

    area_allowed : AllAllowed u ops C
    area_allowed =
        either (bool? (fills a n))
        (λ c. rw c (programs_allowed u 1 first_sector 4 bytes C (omega arith) (λ j l. omega arith) page_fresh
        (λ j x l lt same. inr (x - first_sector, omega arith, omega arith))))
        (λ c. rw c tt)

    -- any spare that agrees with C's on the area's sectors finds them fresh
    area_fresh : (spare : List ℕ) → ((x : ℕ) → a.first * 64 ≤ x → x < (a.first + blocks) * 64 → get_or spare x 0 ≡ get_or C.spare x 0)
        → all_fresh spare ops ≡ true
    unfolding all_fresh
    area_fresh spare same =
        either (bool? (fills a n))
        (λ c. rw c (fresh_programs u 1 first_sector 4 bytes spare
        (λ j l. same (first_sector + j * 1) (omega arith) (omega arith) ∙ page_fresh j l)))
        (λ c. rw c)

    -- what lies outside the area is kept
    area_main_out : (x : ℕ) → (x < a.first * block u) ⊎ ((a.first + blocks) * block u ≤ x)
        → get_or (apply_all u ops C).main x 0 ≡ get_or C.main x 0
    area_main_out x o =
        either (bool? (fills a n))
        (λ c. rw c (range_out u 1 first_sector 4 (a.first * 64) ((a.first + blocks) * 64) bytes C x (omega arith)
        (λ j l. (omega arith, omega arith))
        (either o (λ b. inl (omega arith)) (λ b. inr (omega arith)))))
        (λ c. rw c)

    area_spare_out : (x : ℕ) → (x < a.first * 64) ⊎ ((a.first + blocks) * 64 ≤ x)
        → get_or (apply_all u ops C).spare x 0 ≡ get_or C.spare x 0
    area_spare_out x o =
        either (bool? (fills a n))
        (λ c. rw c (programs_spare_out u 1 first_sector 4 bytes C x (λ j l. either o (λ b. omega arith) (λ b. omega arith))))
        (λ c. rw c)

    put_out : (x : ℕ) → (x < a.ram) ⊎ (a.ram + page u ≤ x) → get_or (put a n item ram) x 0 ≡ get_or ram x 0
    unfolding put
    put_out x o =
        let left = room_left n a.per_page a.size pq in
        either o (λ b. get_d_write_before ram _ item x 0 (omega arith)) (λ b. get_d_write_after ram _ item x 0 (omega arith))

    area_ram_out : (x : ℕ) → (x < a.ram) ⊎ (a.ram + page u ≤ x) → get_or (item_ram u a n item ram) x 0 ≡ get_or ram x 0
    area_ram_out x o =
        let long : length (replicate {A = ℕ} (page u) 0) ≡ page u = length-replicate {A = ℕ} (page u) 0 in
        either (bool? (fills a n))
        (λ c. rw c (either o (λ b. get_d_write_before (put a n item ram) a.ram _ x 0 b)
        (λ b. get_d_write_after (put a n item ram) a.ram _ x 0 (omega arith)) ∙ put_out x o))
        (λ c. rw c (put_out x o))

    area_ram_length : length (item_ram u a n item ram) ≡ length ram
    area_ram_length =
        either (bool? (fills a n)) (λ c. rw c (length_write (put a n item ram) a.ram _ ∙ length_put)) (λ c. rw c length_put)

    pub area_grown : AreaGrown u a blocks f n item C ram
    area_grown = record {
      did = record {
        allowed = area_allowed;
        fresh = area_fresh;
        frame = record {
          main = area_main_out;
          spare = area_spare_out;
          ram = area_ram_out;
          main_length = apply_main_length u ops C;
          spare_length = apply_spare_length u ops C;
          ram_length = area_ram_length;
        };
      };
      more = record { on_main_lem = main_add; on_spare = spare_add; on_ram_lem = ram_add };
    }

    -- byte b of item i of the RAM page with the new item in it
    put_byte : (i b : ℕ) → i ≤ n % a.per_page → b < a.size
        → get_or (put a n item ram) (a.ram + (i * a.size + b)) 0 ≡ f (n / a.per_page * a.per_page + i) b
    put_byte i b hi hb =
        let left = room_left n a.per_page a.size pq in
        let iw : i * a.size ≤ n % a.per_page * a.size = mul-le-mul_right a.size hi in
        let t : ltb (i * a.size + b) (n % a.per_page * a.size + a.size) ≡ true = lt-ltb (i * a.size + b) _ (omega arith) in
        let e : done + (i * a.size + b) ≡ (n / a.per_page * a.per_page + i) * a.size + b = omega arith in
        put_ram (i * a.size + b) (omega (arith, whole)) ∙ rw (t, e) (flat_at f a.size (n / a.per_page * a.per_page + i) b hb)

    -- word w of item i of the RAM page with the new item in it (before it is programmed and zeroed)
    pub put_word : (i w k : ℕ) → i ≤ n % a.per_page → w * 4 + 4 ≤ a.size → k < 2 ^ 32
        → ((b : ℕ) → b < 4 → f (n / a.per_page * a.per_page + i) (w * 4 + b) ≡ byte_of k b)
        → word (put a n item ram) (a.ram + i * a.size + w * 4) ≡ k
    put_word i w k hi hw small is =
        bytes_word k _ _ _ _ small (byte 0 _ (omega arith) (omega arith)) (byte 1 _ (omega arith) (omega arith))
        (byte 2 _ (omega arith) (omega arith)) (byte 3 _ (omega arith) (omega arith))
      where
        byte : (b x : ℕ) → b < 4 → x ≡ a.ram + (i * a.size + (w * 4 + b)) → get_or (put a n item ram) x 0 ≡ byte_of k b
        byte b x hb e = rw e (put_byte i (w * 4 + b) hi (omega arith) ∙ is b hb)
