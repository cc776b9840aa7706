-- The filter of the RAM's entries and of one more key is that of the page which the key's entry fills; so are both filters of the RAM's
-- deletions and of one more number.
use Rattle.std.specs.Prelude.{◌≡◌, true, ◌||◌, get_or}
use Rattle.std.proofs.Common.{sym, ◌∙◌, mul-le-mul_right}
use Rattle.std.proofs.Math.Path.{ap}
use Rattle.std.proofs.Math.Bool.{Bool}
use mathlib.Core.List.{List}
use Prim.Native.Nat.{ℕ, zero, suc, ◌+◌, ◌-◌, ◌*◌, ◌%◌, ◌^◌, ◌≤◌, ◌<◌}
use native.Mathlib.Omega.{arith}
use Rattle.std.proofs.Math.ListN.{length}
use borrow.Author.Tests.{eqb-true}
use Rattle.memory.specs.Lists.{write, get_d_write_before, get_d_write_in}
use Rattle.memory.specs.Ranges.{any, any_ext}
use Rattle.memory.specs.Words.{bytes4, byte_of, word, bytes_word}
use Rattle.layout.specs.Keys.{Key, KeyOk, key_bytes, key_at}
use Rattle.layout.specs.Geometry.{Geometry, page, ka_ram, da_ram}
use Rattle.layout.specs.Hash.{fnv_family}
use Rattle.layout.specs.Items.{KA, DA, fills, put, entry_bytes, deletion_bytes, entry_size}
use Rattle.layout.specs.Calls.{page_filter, new_filter, half_filter, new_half}
use Rattle.laws.specs.ItemLaws.{length_entry, entry_key, length_deletion, deletion_number}
use Rattle.filter.specs.Filter.{array_bit, key_bit, item_bytes, with_key, half_bits}
use Rattle.filter.specs.Fourths.{FourthsOf, fourths_ext, array_fourths}

-- an item of `size` bytes that begins with a number, put at the end of what is there
module _ (key size at : ℕ) (item ram : List ℕ) (small : key < 2 ^ 32) (whole : length item ≡ size) (some : 4 ≤ size)
    (fits : at + size ≤ length ram) (starts : (b : ℕ) → b < 4 → get_or item (0 * 4 + b) 0 ≡ byte_of key b) where
  abbrev after : List ℕ
  after = write ram at item

  -- byte b of the number
  key_byte : (b : ℕ) → b < 4 → get_or after (at + b) 0 ≡ byte_of key b
  key_byte b h =
      let s : at + b - at ≡ 0 * 4 + b = omega arith in
      get_d_write_in ram at item (at + b) 0 (omega arith) (omega (arith, whole, some, h)) (omega (arith, h, some, fits))
      ∙ ap (λ (y : ℕ). get_or item y 0) s ∙ starts b h

  -- the number, and those before it
  new_word : word after at ≡ key
  new_word =
      let z : at + 0 ≡ at = omega arith in
      let k : get_or after at 0 ≡ byte_of key 0 = rw z at (key_byte 0 (omega arith)) in
      bytes_word key _ _ _ _ small k (key_byte 1 (omega arith)) (key_byte 2 (omega arith)) (key_byte 3 (omega arith))

  old_word : (x : ℕ) → x + 4 ≤ at → word after x ≡ word ram x
  old_word x h =
      let b : (y : ℕ) → y < at → get_or after y 0 ≡ get_or ram y 0 = λ y l. get_d_write_before ram at item y 0 l in
      rw (b x (omega arith), b (x + 1) (omega arith), b (x + 2) (omega arith), b (x + 3) (omega arith))

-- ---- a filter of n items, of which the last comes apart

module _ (u k x n step from : ℕ) (bytes ram after : List ℕ) (some : 0 < n) (last : bytes ≡ item_bytes after (from + (n - 1) * step))
    (old : (i : ℕ) → i < n - 1 → item_bytes ram (from + i * step) ≡ item_bytes after (from + i * step)) where
  all_items : (key_bit u k bytes x || any (λ i. key_bit u k (item_bytes ram (from + i * step)) x) (n - 1))
      ≡ any (λ i. key_bit u k (item_bytes after (from + i * step)) x) n
  unfolding any
  all_items =
      let f : ℕ → Bool = λ i. key_bit u k (item_bytes after (from + i * step)) x in
      let more : n ≡ suc (n - 1) = omega (arith, some) in
      let a : key_bit u k bytes x ≡ f (n - 1) = ap (λ (w : List ℕ). key_bit u k w x) last in
      let b : any (λ i. key_bit u k (item_bytes ram (from + i * step)) x) (n - 1) ≡ any f (n - 1)
      = any_ext (λ i. key_bit u k (item_bytes ram (from + i * step)) x) f (n - 1) (λ i l. ap (λ (w : List ℕ). key_bit u k w x) (old i l)) in
      (λ q. a q || b q) ∙ ap (any f) (sym more)

-- ---- entry n fills its page: it is the last of 8 u

module _ (g : Geometry) (n : ℕ) (key : Key) (ram : List ℕ) (pos : 0 < g.u) (full : fills (KA g) n ≡ true) (small : KeyOk key)
    (fits : ka_ram g.u + page g.u ≤ length ram) where
  pub new_filter_is : (x : ℕ) → with_key g.u g.k (ka_ram g.u) entry_size (key_bytes key) ram x ≡ new_filter fnv_family g n key ram x
  unfolding page_filter put
  new_filter_is x =
      let e : n % (8 * g.u) ≡ 8 * g.u - 1 = omega (arith, eqb-true (n % (8 * g.u) + 1) (8 * g.u) full) in
      let at : ℕ = ka_ram g.u + (8 * g.u - 1) * 8 in
      let item : List ℕ = entry_bytes key n in
      let room : ka_ram g.u + (8 * g.u - 1) * 8 + 8 ≤ length ram = omega (arith, fits, pos) in
      let size = length_entry key n in
      all_items g.u g.k x (8 * g.u) 8 (ka_ram g.u) (key_bytes key) ram (write ram at item) (omega (arith, pos))
      (ap key_bytes (sym (new_word key 8 at item ram small.level_lt size (omega arith) room (entry_key key n))))
      (λ i l. ap key_bytes
      (sym (old_word key 8 at item ram small.level_lt size (omega arith) room (entry_key key n) (ka_ram g.u + i * 8) (omega (arith, l)))))
      ∙ ap (λ (m : ℕ).
      any (λ i. key_bit g.u g.k (key_bytes (key_at (write ram (ka_ram g.u + m * 8) item) (ka_ram g.u + i * 8))) x)
      (8 * g.u)) (sym e)

  -- the filter as an array, byte after byte, has its own fourths
  pub entry_fourths_lem : (bits : List ℕ) → g.u ≤ 32 → length bits ≡ 256 → ((y : ℕ) → get_or bits y 0 < 256)
      → ((x : ℕ) → x < 2048 → array_bit bits x ≡ with_key g.u g.k (ka_ram g.u) entry_size (key_bytes key) ram x)
      → FourthsOf g.u 1 (λ i. new_filter fnv_family g n key ram) bits
  entry_fourths_lem bits most size bytes B =
      fourths_ext g.u 1 (λ i. array_bit bits) (λ i. new_filter fnv_family g n key ram) bits
      (λ f x h l. B x (omega (arith, l, most)) ∙ new_filter_is x) (array_fourths g.u bits most size bytes)

-- ---- deletion d fills its page: it is the last of 16 u

module _ (g : Geometry) (d j : ℕ) (ram : List ℕ) (pos : 0 < g.u) (full : fills (DA g) d ≡ true) (small : j < 2 ^ 32)
    (fits : da_ram g.u + page g.u ≤ length ram) where
  abbrev filled : List ℕ
  filled = write ram (da_ram g.u + (16 * g.u - 1) * 4) (deletion_bytes j)

  room : da_ram g.u + (16 * g.u - 1) * 4 + 4 ≤ length ram
  room = omega (arith, fits, pos)

  -- number i of the page
  number_of : (i : ℕ) → i < 16 * g.u - 1 → word filled (da_ram g.u + i * 4) ≡ word ram (da_ram g.u + i * 4)
  number_of i l =
      old_word j 4 (da_ram g.u + (16 * g.u - 1) * 4) (deletion_bytes j) ram small (length_deletion j) (omega arith) room
      (deletion_number j) (da_ram g.u + i * 4) (omega (arith, l))

  last_number : word filled (da_ram g.u + (16 * g.u - 1) * 4) ≡ j
  last_number =
      new_word j 4 (da_ram g.u + (16 * g.u - 1) * 4) (deletion_bytes j) ram small (length_deletion j) (omega arith) room
      (deletion_number j)

  -- half f, from byte `from` on, by its last number
  half_is : (f x key from : ℕ) → f < 2 → from ≡ da_ram g.u + f * (8 * g.u) * 4
      → key ≡ word filled (da_ram g.u + (f * (8 * g.u) + (8 * g.u - 1)) * 4)
      → with_key g.u g.k from 4 (bytes4 key) ram x
      ≡ any (λ y. key_bit g.u g.k (item_bytes filled (da_ram g.u + (f * (8 * g.u) + y) * 4)) x) (8 * g.u)
  half_is f x key from h s e =
      let place : (i : ℕ) → from + i * 4 ≡ da_ram g.u + (f * (8 * g.u) + i) * 4 = λ i. omega (arith, s) in
      let t : f * (8 * g.u) ≤ 1 * (8 * g.u) = mul-le-mul_right (8 * g.u) (omega arith) in
      all_items g.u g.k x (8 * g.u) 4 from (bytes4 key) ram filled (omega (arith, pos))
      (ap bytes4 (e ∙ ap (word filled) (sym (place (8 * g.u - 1)))))
      (λ i l. ap bytes4 (rw (place i) (sym (number_of (f * (8 * g.u) + i) (omega (arith, t, l, pos))))))
      ∙ any_ext (λ i. key_bit g.u g.k (item_bytes filled (from + i * 4)) x)
      (λ i. key_bit g.u g.k (item_bytes filled (da_ram g.u + (f * (8 * g.u) + i) * 4)) x) (8 * g.u)
      (λ i l. ap (λ (y : ℕ). key_bit g.u g.k (item_bytes filled y) x) (place i))

  put_is : put (DA g) d (deletion_bytes j) ram ≡ filled
  unfolding put
  put_is =
      let e : d % (16 * g.u) ≡ 16 * g.u - 1 = omega (arith, eqb-true (d % (16 * g.u) + 1) (16 * g.u) full) in
      ap (λ (m : ℕ). write ram (da_ram g.u + m * 4) (deletion_bytes j)) e

  pub new_half_is : (f x : ℕ) → f < 2 → half_bits g.u g.k (da_ram g.u) j ram f x ≡ new_half fnv_family g d j f ram x
  unfolding half_filter
  new_half_is f x h = parts f h ∙ ap (λ (r : List ℕ). half_filter fnv_family g f r x) (sym put_is)
    where
      parts : (f : ℕ) → f < 2 → half_bits g.u g.k (da_ram g.u) j ram f x
          ≡ any (λ y. key_bit g.u g.k (item_bytes filled (da_ram g.u + (f * (8 * g.u) + y) * 4)) x) (8 * g.u)
      parts zero h =
          let s : da_ram g.u + (8 * g.u - 1) * 4 ≡ da_ram g.u + (0 * (8 * g.u) + (8 * g.u - 1)) * 4 = omega arith in
          half_is 0 x (word ram (da_ram g.u + (8 * g.u - 1) * 4)) (da_ram g.u) h (omega arith)
          (sym (number_of (8 * g.u - 1) (omega (arith, pos))) ∙ ap (word filled) s)
      parts (suc zero) h =
          let s : da_ram g.u + (16 * g.u - 1) * 4 ≡ da_ram g.u + (1 * (8 * g.u) + (8 * g.u - 1)) * 4 = omega (arith, pos) in
          half_is 1 x j (da_ram g.u + 8 * g.u * 4) h (omega arith) (sym last_number ∙ ap (word filled) s)
      parts (suc (suc f)) h = absurd (omega arith)

  -- so the fourths of the one are those of the other
  pub half_fourths : (fourths : List ℕ) → FourthsOf g.u 2 (half_bits g.u g.k (da_ram g.u) j ram) fourths
      → FourthsOf g.u 2 (λ i. new_half fnv_family g d j i ram) fourths
  half_fourths fourths F =
      fourths_ext g.u 2 (half_bits g.u g.k (da_ram g.u) j ram) (λ i. new_half fnv_family g d j i ram) fourths
      (λ f x h l. new_half_is f x h) F
