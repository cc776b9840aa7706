-- A RAM that was stored reads back: its pages, its state and its pending call.
use Rattle.std.specs.Prelude.{◌≡◌, false, ℕ, ◌+◌, ◌-◌, ◌*◌, ◌^◌, ◌≤◌, ◌<◌, length, get_or, eqb}
use Rattle.std.proofs.Math.Path.{refl, ap}
use Rattle.std.proofs.Common.{◌∙◌, arith}
use mathlib.Core.List.{List, ◌++◌}
use Rattle.std.proofs.Math.ListN.{length-append}
use Rattle.std.proofs.Math.Seq.{take-append_seam, drop-append_seam}
use Rattle.memory.specs.Words.{word, words_bytes, bytes_word, length_words, words_byte}
use Rattle.layout.specs.Geometry.{State}
use Rattle.layout.specs.Calls.{Call, insert, update, delete, lookup}
use Rattle.layout.specs.Header.{pages, header, state_words, intent_words, no_intent, header_bytes, header_word, state_in, nothing}
use Rattle.layout.specs.Header.{changing, pending_in}
use Rattle.cuts.specs.Headers.{StateFits, Words}

module _ (p b : List ℕ) (size : length b ≡ 64) where
  cut_at : length (p ++ b) - 64 ≡ length p
  cut_at = let e = length-append p b in omega (arith, e, size)

  pub pages_of : pages (p ++ b) ≡ p
  unfolding pages
  pages_of = rw cut_at (take-append_seam p b)

  pub header_of : header (p ++ b) ≡ b
  unfolding header
  header_of = rw cut_at (drop-append_seam p b)

  pub long_ram : 64 ≤ length (p ++ b)
  long_ram = let e = length-append p b in omega (arith, e, size)

-- a word among words
pub word_of : (ws : List ℕ) (i : ℕ) → i < length ws → get_or ws i 0 < 2 ^ 32 → word (words_bytes ws) (i * 4) ≡ get_or ws i 0
word_of ws i l fits =
    let z : i * 4 ≡ i * 4 + 0 = omega arith in
    bytes_word (get_or ws i 0) (get_or (words_bytes ws) (i * 4) 0) (get_or (words_bytes ws) (i * 4 + 1) 0) (get_or (words_bytes ws) (i * 4 + 2) 0)
    (get_or (words_bytes ws) (i * 4 + 3) 0) fits
    (ap (λ (a : ℕ). get_or (words_bytes ws) a 0) z ∙ words_byte ws i 0 l (omega arith)) (words_byte ws i 1 l (omega arith))
    (words_byte ws i 2 l (omega arith)) (words_byte ws i 3 l (omega arith))

module _ (p : List ℕ) (s : State) (intent : List ℕ) (ten : length intent ≡ 10) where
  pub header_size_lem : length (header_bytes s intent) ≡ 64
  unfolding header_bytes
  header_size_lem =
      let e = length-append (state_words s) intent in
      let m = length_words (state_words s ++ intent) in
      omega (arith, e, m, ten)

  pub pages_stored : pages (p ++ header_bytes s intent) ≡ p
  pages_stored = pages_of p (header_bytes s intent) header_size_lem

  -- word i of the header
  pub word_stored : (i : ℕ) → i < 16 → get_or (state_words s ++ intent) i 0 < 2 ^ 32 → header_word (p ++ header_bytes s intent) i
      ≡ get_or (state_words s ++ intent) i 0
  unfolding header_word header_bytes
  word_stored i l fits =
      let e = length-append (state_words s) intent in
      ap (λ (b : List ℕ). word b (i * 4)) (header_of p (header_bytes s intent) header_size_lem)
      ∙ word_of (state_words s ++ intent) i (omega (arith, e, ten, l)) fits

  -- the sizes, whatever the counts
  pub sizes_stored : s.sizes.sector_size < 2 ^ 32 → s.sizes.ra_blocks < 2 ^ 32 → s.sizes.da_blocks < 2 ^ 32
      → s.sizes.hash_count < 2 ^ 32 → (state_in (p ++ header_bytes s intent)).sizes ≡ s.sizes
  sizes_stored S R D K =
      let e0 : header_word (p ++ header_bytes s intent) 0 ≡ s.sizes.sector_size = word_stored 0 (omega arith) S in
      let e1 : header_word (p ++ header_bytes s intent) 1 ≡ s.sizes.ra_blocks = word_stored 1 (omega arith) R in
      let e2 : header_word (p ++ header_bytes s intent) 2 ≡ s.sizes.da_blocks = word_stored 2 (omega arith) D in
      let e3 : header_word (p ++ header_bytes s intent) 3 ≡ s.sizes.hash_count = word_stored 3 (omega arith) K in
      rw (e0, e1, e2, e3)

  pub state_stored : StateFits s → state_in (p ++ header_bytes s intent) ≡ s
  state_stored f =
      let e : (state_in (p ++ header_bytes s intent)).sizes ≡ s.sizes = sizes_stored f.S-fits f.R-fits f.D-fits f.K-fits in
      let e4 : header_word (p ++ header_bytes s intent) 4 ≡ s.records = word_stored 4 (omega arith) f.n_fits in
      let e5 : header_word (p ++ header_bytes s intent) 5 ≡ s.deletions = word_stored 5 (omega arith) f.d_fits in
      rw (e, e4, e5)

module _ (p : List ℕ) (s : State) where
  pub idle_kind : header_word (p ++ header_bytes s no_intent) 6 ≡ 0
  idle_kind = word_stored p s no_intent refl 6 (omega arith) (omega arith)

  pub idle_stored : pending_in (p ++ header_bytes s no_intent) ≡ nothing
  unfolding pending_in
  idle_stored = rw idle_kind

  pub intent_length : (c : Call) → length (intent_words c) ≡ 10
  intent_length (insert r) = refl
  intent_length (update r) = refl
  intent_length (delete key) = refl
  intent_length (lookup key) = refl

  pub intent_stored : (c : Call) → Words c → pending_in (p ++ header_bytes s (intent_words c)) ≡ changing c
  unfolding pending_in
  intent_stored (insert r) w =
      rw (
        word_stored p s (intent_words (insert r)) refl 6 (omega arith) (omega arith),
        word_stored p s (intent_words (insert r)) refl 7 (omega arith) w.0.level_lt,
        word_stored p s (intent_words (insert r)) refl 8 (omega arith) w.1,
        word_stored p s (intent_words (insert r)) refl 9 (omega arith) w.2,
        word_stored p s (intent_words (insert r)) refl 10 (omega arith) w.3,
      )
  intent_stored (update r) w =
      rw (
        word_stored p s (intent_words (update r)) refl 6 (omega arith) (omega arith),
        word_stored p s (intent_words (update r)) refl 7 (omega arith) w.0.level_lt,
        word_stored p s (intent_words (update r)) refl 8 (omega arith) w.1,
        word_stored p s (intent_words (update r)) refl 9 (omega arith) w.2,
        word_stored p s (intent_words (update r)) refl 10 (omega arith) w.3,
      )
  intent_stored (delete key) w =
      rw (
        word_stored p s (intent_words (delete key)) refl 6 (omega arith) (omega arith),
        word_stored p s (intent_words (delete key)) refl 7 (omega arith) w.level_lt,
      )
  intent_stored (lookup key) w = absurd w

  -- a pending call shows by its kind
  pub kind_stored : (c : Call) → Words c → eqb (header_word (p ++ header_bytes s (intent_words c)) 6) 0 ≡ false
  kind_stored (insert r) w = rw (word_stored p s (intent_words (insert r)) refl 6 (omega arith) (omega arith))
  kind_stored (update r) w = rw (word_stored p s (intent_words (update r)) refl 6 (omega arith) (omega arith))
  kind_stored (delete key) w = rw (word_stored p s (intent_words (delete key)) refl 6 (omega arith) (omega arith))
  kind_stored (lookup key) w = absurd w
