-- The pages of a word of bits, opened from the newest on until one has an entry with the key.
use Rattle.std.specs.Prelude.{◌≡◌, Bool, true, ◌&&◌, cond, List, ℕ, zero, suc, ◌+◌, ◌*◌, ◌-◌, ◌≤◌, ◌<◌, ltb, length, Option, Some, None}
use Rattle.memory.specs.Bits.{bit}
use Rattle.memory.specs.Candidate.{candidate}
use Rattle.layout.specs.Keys.{Key}
use Rattle.layout.specs.Geometry as layout
use Rattle.geometry.specs.declared.volume.Geometry.{Geometry}
use Rattle.geometry.specs.Shape.{shape}
use Rattle.items.specs.Scans.{last_entry}
use Rattle.search.specs.declared.Hit.{Hit}
use Rattle.search.specs.declared.Opened.{Opened}

-- the first byte of page p of the entries on flash
abbrev pub page_start : Geometry → ℕ → ℕ
page_start g p = layout.ka_block (shape g) * layout.block g.chip.unit + p * layout.page g.chip.unit

-- the newest entry of page p with the key, plus one; 0 if it has none
abbrev pub entry_in : Geometry → Key → List ℕ → ℕ → ℕ
entry_in g key main p = last_entry main (page_start g p) (layout.entries_per_page g.chip.unit) key

-- the pages from `from` on whose bits are set lie within the flash
pub record PagesIn (g : Geometry) (from bits : ℕ) (main : List ℕ) : Type 0 where
  pub page_in : (i : ℕ) → i < 64 → bit bits i ≡ true → page_start g (from + i) + layout.page g.chip.unit ≤ length main

-- ---- of pages, some of which are to be opened, and their newest entries, plus one

-- the newest of n pages that is to be opened and has an entry, plus one; 0 if there is none
abbrev pub newest_of : (ℕ → Bool) → (ℕ → ℕ) → ℕ → ℕ
newest_of set entry n = candidate (λ i. set i && ltb 0 (entry i)) n

-- the pages opened up to it, itself among them
unfoldable pub opened_of : (ℕ → Bool) → (ℕ → ℕ) → ℕ → ℕ
opened_of set entry zero = 0
opened_of set entry (suc n) = cond (set n) (suc (cond (ltb 0 (entry n)) 0 (opened_of set entry n))) (opened_of set entry n)

-- the newest entries of the pages from `from` on
abbrev pub entry_of : Geometry → Key → ℕ → List ℕ → ℕ → ℕ
entry_of g key from main i = entry_in g key main (from + i)

-- the newest with an entry, of 64 pages from `from` on
abbrev pub newest_in : Geometry → Key → ℕ → ℕ → List ℕ → ℕ
newest_in g key from bits main = newest_of (bit bits) (entry_of g key from main) 64

-- the bits left of a word are those below the newest's, and so many pages were opened
pub record NewestAt (g : Geometry) (key : Key) (from bits : ℕ) (main : List ℕ) (rest count : ℕ) : Type 0 where
  pub left : (i : ℕ) → i < 64 → bit rest i ≡ (ltb i (newest_in g key from bits main - 1) && bit bits i)
  pub opened : count ≡ opened_of (bit bits) (entry_of g key from main) 64

-- the newest entry of the newest page, the page as it is told
abbrev pub hit_of : (ℕ → ℕ) → (ℕ → ℕ) → ℕ → Option Hit
hit_of place entry zero = None
hit_of place entry (suc i) = Some (record { page = place i; entry = entry i - 1 })

-- what came of them, with the page's number i told as `place i`
pub record HitAt (place : ℕ → ℕ) (g : Geometry) (key : Key) (from bits : ℕ) (main : List ℕ) (r : Opened) : Type 0 where
  pub pages : NewestAt g key from bits main r.bits r.opened
  pub none : newest_in g key from bits main ≡ 0 → r.bits ≡ 0
  pub hit : r.hit ≡ hit_of place (entry_of g key from main) (newest_in g key from bits main)

-- by its number
abbrev pub OpenedAt : Geometry → Key → ℕ → ℕ → List ℕ → Opened → Type 0
OpenedAt g key from bits main r = HitAt (λ i. i) g key from bits main r

-- by its first byte
abbrev pub TriedAt : Geometry → Key → ℕ → ℕ → List ℕ → Opened → Type 0
TriedAt g key from bits main r = HitAt (λ i. page_start g (from + i)) g key from bits main r
