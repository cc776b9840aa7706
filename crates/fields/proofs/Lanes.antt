-- Columns: a turn that takes eight rows; and the fields of one page in them.
use mathlib.Core.Path.{◌≡◌, sym, ap, ◌∙◌}
use mathlib.Core.Logic.{◌≢◌, inl, inr}
use mathlib.Core.List.{List}
use Prim.Native.Nat.{ℕ, ◌+◌, ◌-◌, ◌*◌, ◌/◌, ◌%◌, ◌≤◌, ◌<◌}
use native.Mathlib.Omega.{arith}
use lib.ListN.{length, get_or}
use Rattle.memory.specs.Bits.{bit}
use Rattle.memory.specs.Cases.{lt?, either}
use Rattle.memory.specs.Lists.{Done, write, get_d_write_before, get_d_write_in}
use Rattle.memory.specs.Words.{bytes8, eight_bits}
use Rattle.fields.specs.Laws.{pack_byte}
use Rattle.fields.specs.Halves.{Narrow}
use Rattle.fields.specs.Columns.{Column, Split, row, row_bit, column_byte}

pub not_others : (w : ℕ) → Narrow w → w ≢ 1 → w ≢ 2 → w ≡ 4
not_others w (inl e) a b = absurd (a e)
not_others w (inr (inl e)) a b = absurd (b e)
not_others w (inr (inr e)) a b = e

-- one of eight rows, and a bit of its byte
rows_in : (w j : ℕ) → Narrow w → j < 64 → (row w j < 8) × (row_bit w j < 8)
rows_in w j (inl e) h = rw e (omega arith, omega arith)
rows_in w j (inr (inl e)) h = rw e (omega arith, omega arith)
rows_in w j (inr (inr e)) h = rw e (omega arith, omega arith)

-- a turn's bytes
module _ (bytes : List ℕ) (at stride w i a x z : ℕ) (N : Narrow w) (eight : i % 8 ≡ 0) (a_is : a ≡ at + i * stride)
    (C : Column bytes a stride x) (S : Split w x z) where
  pub turn_byte : (q : ℕ) → q < 8 → get_or (bytes8 z) q 0 ≡ column_byte bytes at stride w (i + q)
  unfolding column_byte
  turn_byte q h = sym (pack_byte _ (get_or (bytes8 z) q 0) (eight_bits z q h).0 one)
    where
      one : (b : ℕ) → b < 8
          → bit (get_or bytes (at + ((i + q) / 8 * 8 + row w ((i + q) % 8 * 8 + b)) * stride) 0) (row_bit w ((i + q) % 8 * 8 + b)) ≡ bit (get_or (bytes8 z) q 0) b
      one b l =
          let d : (i + q) / 8 * 8 ≡ i = omega arith in
          let m : (i + q) % 8 ≡ q = omega arith in
          let j : q * 8 + b < 64 = omega arith in
          let r = rows_in w (q * 8 + b) N j in
          let k : row w (q * 8 + b) * 8 + row_bit w (q * 8 + b) < 64 = omega (arith, r.0, r.1) in
          let u : (row w (q * 8 + b) * 8 + row_bit w (q * 8 + b)) / 8 ≡ row w (q * 8 + b) = omega (arith, r.1) in
          let v : (row w (q * 8 + b) * 8 + row_bit w (q * 8 + b)) % 8 ≡ row_bit w (q * 8 + b) = omega (arith, r.1) in
          let p : at + (i + row w (q * 8 + b)) * stride ≡ a + row w (q * 8 + b) * stride = omega (arith, a_is) in
          let c : bit x (row w (q * 8 + b) * 8 + row_bit w (q * 8 + b)) ≡ bit (get_or bytes (a + row w (q * 8 + b) * stride) 0) (row_bit w (q * 8 + b))
          = rw (u, v) at (C (row w (q * 8 + b) * 8 + row_bit w (q * 8 + b)) k) in
          rw (d, m, p) (sym ((eight_bits z q h).1 b l ∙ (S (q * 8 + b) j ∙ c)))

  pub turn_more : (out : List ℕ) → i + 8 ≤ length out → Done (column_byte bytes at stride w) out i
      → Done (column_byte bytes at stride w) (write out i (bytes8 z)) (i + 8)
  turn_more out fit D k h =
      either (lt? k i)
      (λ l. get_d_write_before out i (bytes8 z) k 0 l.1 ∙ D k l.1)
      (λ l.
      let e : i + (k - i) ≡ k = omega arith in
      get_d_write_in out i (bytes8 z) k 0 l.1 (omega arith) (omega arith) ∙ (turn_byte (k - i) (omega arith) ∙ ap (column_byte bytes at stride w) e))
