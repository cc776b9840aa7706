-- Scans of a slice from a byte on: a number among words of four bytes, and the newest entry of eight bytes with a key. Assumes nothing.
use Rattle.std.specs.Prelude.{◌≡◌, refl, Bool, true, false, ◌||◌, List, ℕ, zero, suc, ◌+◌, ◌-◌, ◌*◌, ◌≤◌, ◌<◌, eqb, Option, Some, None}
use Rattle.std.proofs.Common.{sym, ap, ◌∙◌, add-one, arith, eq-eqb, ne_eqb}
use Rattle.std.proofs.Math.Bool.{or_comm}
use Rattle.memory.specs.Words.{word}
use Rattle.memory.specs.Cases.{bool?, either}
use Rattle.memory.specs.Ranges.{any}
use Rattle.memory.specs.Candidate.{candidate, candidate_open, candidate_shut, candidate_le, candidate_high, candidate_low, candidate_ext}
use Rattle.layout.specs.Keys.{word_size, Key, same_key, key_at}
use Rattle.layout.specs.Geometry.{deletions_per_page}
use Rattle.layout.specs.Items.{entry_size}

-- words of a page: a deletion is one
abbrev pub words_per_page : ℕ → ℕ
words_per_page u = deletions_per_page u

-- is word i from byte `at` on the number j
unfoldable pub is_word : List ℕ → ℕ → ℕ → ℕ → Bool
is_word s at j i = eqb (word s (at + i * word_size)) j

-- is it one of n words
abbrev pub has_word : List ℕ → ℕ → ℕ → ℕ → Bool
has_word s at n j = any (is_word s at j) n

-- has entry i from byte `at` on the key
unfoldable pub has_key : List ℕ → ℕ → Key → ℕ → Bool
has_key s at key i = same_key (key_at s (at + i * entry_size)) key

-- the newest of n entries with the key, plus one
abbrev pub last_entry : List ℕ → ℕ → ℕ → Key → ℕ
last_entry s at n key = candidate (has_key s at key) n

-- one more than a place as an option: 0 is none
abbrev pub place_of : ℕ → Option ℕ
place_of zero = None
place_of (suc k) = Some k

-- ---- places as options

pub place_is : (k : ℕ) → 0 < k → Some (k - 1) ≡ place_of k
place_is zero p = absurd (omega arith)
place_is (suc k) p = let e : suc k - 1 ≡ k = omega arith in rw e

pub place_some : (n e : ℕ) → Some e ≡ place_of n → n ≡ suc e
place_some zero e t = cc
place_some (suc n) e t = cc

pub place_none : (n : ℕ) → None ≡ place_of n → n ≡ 0
place_none zero t = refl
place_none (suc n) t = cc

-- it is below n
pub place_lt : (s : List ℕ) (at n : ℕ) (key : Key) (e : ℕ) → Some e ≡ place_of (last_entry s at n key) → e < n
place_lt s at n key e t = omega (arith, place_some (last_entry s at n key) e t, candidate_le (has_key s at key) n)

-- ---- some number passes: none of none, one more each time, and two ranges, one after the other

pub any_end : (f : ℕ → Bool) → any f 0 ≡ false
unfolding any
any_end f = refl

pub any_yes : (f : ℕ → Bool) (i : ℕ) → f i ≡ true → any f (i + 1) ≡ true
unfolding any
any_yes f i e = rw (add-one, e)

pub any_skips : (f : ℕ → Bool) (i : ℕ) → f i ≡ false → any f (i + 1) ≡ any f i
unfolding any
any_skips f i e = rw (add-one, e)

pub any_sum : (f : ℕ → Bool) (m k : ℕ) → any f (m + k) ≡ (any (λ i. f (m + i)) k || any f m)
unfolding any
any_sum f m zero =
    let e : m + zero ≡ m = omega arith in
    rw e
any_sum f m (suc k) =
    let e : m + suc k ≡ suc (m + k) = omega arith in
    either (bool? (f (m + k))) (λ t. rw (e, t)) (λ t. rw (e, t) (any_sum f m k))

-- ---- the newest that passes

pub newest_end : (f : ℕ → Bool) → candidate f 0 ≡ 0
unfolding candidate
newest_end f = refl

pub newest_yes : (f : ℕ → Bool) (k : ℕ) → 0 < k → f (k - 1) ≡ true → candidate f k ≡ k
newest_yes f zero p t = absurd (omega arith)
newest_yes f (suc k) p t =
    let e : suc k - 1 ≡ k = omega arith in
    candidate_open f k (rw e at t)

pub newest_no : (f : ℕ → Bool) (k : ℕ) → 0 < k → f (k - 1) ≡ false → candidate f k ≡ candidate f (k - 1)
newest_no f zero p t = absurd (omega arith)
newest_no f (suc k) p t =
    let e : suc k - 1 ≡ k = omega arith in
    rw e (candidate_shut f k (rw e at t))

pub newest_none : (f : ℕ → Bool) (n : ℕ) → any f n ≡ false → candidate f n ≡ 0
unfolding any candidate
newest_none f zero t = refl
newest_none f (suc n) t =
    either (bool? (f n))
    (λ h. let z : true ≡ false = rw h at t in cc)
    (λ h. let z : any f n ≡ false = rw h at t in rw h (newest_none f n z))

-- ---- what a read gave

pub word_yes : (s : List ℕ) (at j i r : ℕ) → r ≡ word s (at + i * 4) → r ≡ j → is_word s at j i ≡ true
unfolding is_word
word_yes s at j i r e h = eq-eqb _ _ (sym e ∙ h)

pub word_no : (s : List ℕ) (at j i r : ℕ) → r ≡ word s (at + i * 4) → (r ≡ j → ⊥) → is_word s at j i ≡ false
unfolding is_word
word_no s at j i r e h = ne_eqb _ _ (λ q. h (e ∙ q))

-- a word more
pub word_more : (s : List ℕ) (at j i r : ℕ) → r ≡ word s (at + i * 4) → (has_word s at i j || eqb r j) ≡ has_word s at (i + 1) j
unfolding any is_word
word_more s at j i r e = rw (add-one, e) (or_comm (has_word s at i j) (eqb (word s (at + i * 4)) j))

pub key_is_lem : (s : List ℕ) (at i : ℕ) (key : Key) (r : Bool) → r ≡ same_key (key_at s (at + i * 8)) key → r ≡ has_key s at key i
unfolding has_key
key_is_lem s at i key r e = e

-- an entry's key is the first of its two words
other_word : (s : List ℕ) (at : ℕ) (key : Key) (i : ℕ) → is_word s at key (i * 2) ≡ false → has_key s at key i ≡ false
unfolding has_key is_word same_key
other_word s at key i t =
    let e : at + i * 8 ≡ at + i * 2 * 4 = omega arith in
    rw (e, t)

-- no word of n entries is the number, so none has it as its key
pub no_word : (s : List ℕ) (at : ℕ) (key : Key) (n : ℕ) → has_word s at (n * 2) key ≡ false → any (has_key s at key) n ≡ false
unfolding any
no_word s at key zero t = refl
no_word s at key (suc n) t =
    let e : suc n * 2 ≡ suc (suc (n * 2)) = omega arith in
    let u : (is_word s at key (suc (n * 2)) || (is_word s at key (n * 2) || has_word s at (n * 2) key)) ≡ false = rw e at t in
    either (bool? (is_word s at key (suc (n * 2))))
    (λ h. let z : true ≡ false = rw h at u in cc)
    (λ h. let v : (is_word s at key (n * 2) || has_word s at (n * 2) key) ≡ false = rw h at u in
    either (bool? (is_word s at key (n * 2)))
    (λ g. let z : true ≡ false = rw g at v in cc)
    (λ g. let w : has_word s at (n * 2) key ≡ false = rw g at v in rw (other_word s at key n g) (no_word s at key n w)))

-- entries counted from a later one
pub key_later : (s : List ℕ) (at : ℕ) (key : Key) (m i : ℕ) → has_key s at key (m + i) ≡ has_key s (at + m * 8) key i
unfolding has_key
key_later s at key m i =
    let e : at + (m + i) * 8 ≡ at + m * 8 + i * 8 = omega arith in
    rw e

-- ---- words in blocks

shifted : (s : List ℕ) (at j m k : ℕ) → any (λ i. is_word s at j (m + i)) k ≡ has_word s (at + m * 4) k j
unfolding any is_word
shifted s at j m zero = refl
shifted s at j m (suc k) =
    let e : at + (m + k) * 4 ≡ at + m * 4 + k * 4 = omega arith in
    rw (e, shifted s at j m k)

-- m words, and k behind them
pub words_sum : (s : List ℕ) (at j m k : ℕ) → has_word s at (m + k) j ≡ (has_word s (at + m * 4) k j || has_word s at m j)
words_sum s at j m k = any_sum (is_word s at j) m k ∙ ap (λ (t : Bool). t || has_word s at m j) (shifted s at j m k)

or-true : (t : Bool) → (t || true) ≡ true
or-true true = refl
or-true false = refl

-- a block that has the number, n words in all
pub block_yes : (s : List ℕ) (at j m k n : ℕ) → has_word s (at + m * 4) k j ≡ true → m + k ≤ n → has_word s at n j ≡ true
block_yes s at j m k n e h =
    let z : m + k + (n - (m + k)) ≡ n = omega arith in
    let f : has_word s at (m + k) j ≡ true = words_sum s at j m k ∙ rw e in
    ap (λ (t : ℕ). has_word s at t j) (sym z)
    ∙ (words_sum s at j (m + k) (n - (m + k)) ∙ rw f (or-true (has_word s (at + (m + k) * 4) (n - (m + k)) j)))

-- a block that has not, behind words that have not
pub block_no : (s : List ℕ) (at j m k : ℕ) → has_word s (at + m * 4) k j ≡ false → has_word s at m j ≡ false
    → has_word s at (m + k) j ≡ false
block_no s at j m k e f = words_sum s at j m k ∙ rw (e, f)

-- ---- entries in blocks

-- k entries from entry m on
entries_later : (s : List ℕ) (at : ℕ) (key : Key) (m k : ℕ)
    → candidate (λ g. has_key s at key (m + g)) k ≡ last_entry s (at + m * 8) k key
entries_later s at key m k =
    candidate_ext (λ g. has_key s at key (m + g)) (has_key s (at + m * 8) key) k (λ g l. key_later s at key m g)

-- m entries, and k behind them of which entry e is the newest with the key, or none
pub entries_hit : (s : List ℕ) (at : ℕ) (key : Key) (m k e : ℕ) → Some e ≡ place_of (last_entry s (at + m * 8) k key)
    → last_entry s at (m + k) key ≡ m + suc e
entries_hit s at key m k e t =
    candidate_high (has_key s at key) m k e (entries_later s at key m k ∙ place_some (last_entry s (at + m * 8) k key) e t)

pub entries_miss : (s : List ℕ) (at : ℕ) (key : Key) (m k : ℕ) → None ≡ place_of (last_entry s (at + m * 8) k key)
    → last_entry s at (m + k) key ≡ last_entry s at m key
entries_miss s at key m k t =
    candidate_low (has_key s at key) m k (entries_later s at key m k ∙ place_none (last_entry s (at + m * 8) k key) t)

-- the same where the key is not among their words
pub entries_no : (s : List ℕ) (at : ℕ) (key : Key) (m k : ℕ) → has_word s (at + m * 8) (k * 2) key ≡ false
    → last_entry s at (m + k) key ≡ last_entry s at m key
entries_no s at key m k t =
    candidate_low (has_key s at key) m k
    (entries_later s at key m k ∙ newest_none (has_key s (at + m * 8) key) k (no_word s (at + m * 8) key k t))
