-- Which of some filters are open, as the bits of one word or of eight.
use Rattle.std.specs.Prelude.{◌≡◌, Bool, ◌&&◌, List, ℕ, ◌+◌, ◌*◌, ◌/◌, ◌^◌, ◌≤◌, ◌<◌, ltb, length, get_or}
use Rattle.std.proofs.Common.{sym, ap, ◌∙◌, arith, le-ltb}
use Rattle.memory.specs.Bits.{bit, bit_zero}
use Rattle.memory.specs.Cases.{either, lt?}
use Rattle.kernels.specs.Rows.{row_of}
use Rattle.kernels.specs.declared.Row.{Row}

-- bit i of r, i below m: is filter `from` + i open
unfoldable pub Shows : (ℕ → Bool) → ℕ → ℕ → ℕ → Type 0
Shows gate from m r = (i : ℕ) → i < m → bit r i ≡ gate (from + i)

-- and no bit from m on
unfoldable pub Open : (ℕ → Bool) → ℕ → ℕ → ℕ → Type 0
Open gate from m r = (i : ℕ) → i < 64 → bit r i ≡ (ltb i m && gate (from + i))

-- the first n bits of eight words: bit i of word j is G j i
unfoldable pub Upto : (ℕ → ℕ → Bool) → ℕ → List ℕ → Type 0
Upto G n l = (j : ℕ) → j < 8 → (i : ℕ) → i < 64 → bit (get_or l j 0) i ≡ (ltb (j * 64 + i) n && G j i)

-- n filters from `first` on, in eight words
abbrev pub OpenBlock : (ℕ → Bool) → ℕ → ℕ → List ℕ → Type 0
OpenBlock gate first n l = Upto (λ j i. gate (first + (j * 64 + i))) n l

-- every w-th bit of x, side by side
unfoldable pub Squeezed : ℕ → ℕ → ℕ → Type 0
Squeezed w x r = (i : ℕ) → i < 64 → bit r i ≡ (ltb (i * w) 64 && bit x (i * w))

-- the rows' words q to q + 7 lie within `len` bytes
pub record BlockIn (rows : List Row) (q len : ℕ) : Type 0 where
  pub row_in : (k : ℕ) → k < length rows → (row_of rows k).at + q * 8 + 64 ≤ len
  pub low_lt : (k : ℕ) → k < length rows → (row_of rows k).low < 64

-- rows of n filters with w bits each, up to 64, lie within `len` bytes in whole blocks of 64
pub record GroupIn (rows : List Row) (w n len : ℕ) : Type 0 where
  pub some : 0 < length rows
  pub power : (e : ℕ) × (e < 7) × (w ≡ 2 ^ e)
  pub low_lt : (k : ℕ) → k < length rows → (row_of rows k).low < w
  pub blocks_in : (k : ℕ) → k < length rows → (row_of rows k).at + (n * w + 511) / 512 * 64 ≤ len
  pub small : n * w < 2 ^ 60

-- ---- words of which filters are open

-- none of none
pub open_none : (gate : ℕ → Bool) (from m : ℕ) → m ≡ 0 → Open gate from m 0
unfolding Open
open_none gate from m e i h = bit_zero i ∙ sym (ap (λ (t : Bool). t && gate (from + i)) (le-ltb i m (omega arith)))

-- the lowest m of the bits that are shown, and no others
pub open_lowest : (gate : ℕ → Bool) (from k m n r y : ℕ) → k ≡ m → m ≤ n → Shows gate from n r
    → ((i : ℕ) → i < 64 → bit y i ≡ (ltb i m && bit r i)) → Open gate from k y
unfolding Shows Open
open_lowest gate from k m n r y e le R Y i h =
    rw e
    (Y i h
    ∙ either (lt? i m)
    (λ t. ap (λ (b : Bool). ltb i m && b) (R i (omega (arith, t.1))))
    (λ t. rw t.0))
