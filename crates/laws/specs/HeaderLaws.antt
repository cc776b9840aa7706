-- The RAM in two: all bytes before the header, and the header.
use Rattle.std.specs.Prelude.{◌≡◌, Bool, ◌||◌, List, ◌++◌, ℕ, ◌+◌, ◌-◌, ◌≤◌, ◌<◌, min, length, take, drop, ltb}
use Rattle.std.proofs.Common.{ap, ◌∙◌, arith, length-take, length-drop, length-append, take-append-drop, lt-ltb, le-ltb}
use Rattle.std.proofs.Math.Seq.{take-append_seam, drop-append_seam}
use Rattle.memory.specs.Cases.{either, lt?}
use Rattle.layout.specs.Geometry.{Geometry, main_size, spare_size, ram_size}
use Rattle.layout.specs.Flash.{Flash}
use Rattle.layout.specs.Calls.{too_short}
use Rattle.layout.specs.Header.{header_size, pages, header}

pub length_pages : (ram : List ℕ) → length (pages ram) ≡ length ram - header_size
unfolding pages
length_pages ram = let e = length-take (length ram - 64) ram in omega (arith, e)

pub length_header : (ram : List ℕ) → header_size ≤ length ram → length (header ram) ≡ header_size
unfolding header
length_header ram h = let e = length-drop (length ram - 64) ram in omega (arith, e, h)

-- both, one after the other
pub whole_ram : (ram : List ℕ) → pages ram ++ header ram ≡ ram
unfolding pages header
whole_ram ram = take-append-drop (length ram - 64) ram

-- of bytes and 64 after them
pub pages_of : (p x : List ℕ) → length x ≡ header_size → pages (p ++ x) ≡ p
unfolding pages
pages_of p x h =
    let e : length (p ++ x) - 64 ≡ length p = omega (arith, length-append p x, h) in
    ap (λ (k : ℕ). take k (p ++ x)) e ∙ take-append_seam p x

pub header_of : (p x : List ℕ) → length x ≡ header_size → header (p ++ x) ≡ x
unfolding header
header_of p x h =
    let e : length (p ++ x) - 64 ≡ length p = omega (arith, length-append p x, h) in
    ap (λ (k : ℕ). drop k (p ++ x)) e ∙ drop-append_seam p x

-- the part that is lent to those who know no header
pub pages_part : (ram : List ℕ) (n : ℕ) → n ≡ length ram - header_size → take (n - 0) (drop 0 ram) ≡ pages ram
unfolding pages
pages_part ram n e = let z : n - 0 ≡ n = omega arith in rw (z, e)

-- ---- "Refusal 2 asks for the longer desk": 24S + 64 bytes

pub longer_ram : (g : Geometry) (c : Flash) (ram : List ℕ) → 0 < g.u
    → too_short g c (pages ram)
    ≡ (ltb (length c.main) (main_size g) || (ltb (length c.spare) (spare_size g) || ltb (length ram) (ram_size g + header_size)))
unfolding too_short pages
longer_ram g c ram pu =
    let e : length (take (length ram - 64) ram) ≡ min (length ram - 64) (length ram) = length-take (length ram - 64) ram in
    let n : length (take (length ram - 64) ram) ≡ length ram - 64 = omega (arith, e) in
    let same : ltb (length (take (length ram - 64) ram)) (ram_size g) ≡ ltb (length ram) (ram_size g + 64)
    = rw n
    (either (lt? (length ram) (ram_size g + 64))
    (λ a. lt-ltb (length ram - 64) (ram_size g) (omega (arith, a.1, pu)) ∙ sym_of a.0)
    (λ a. le-ltb (length ram - 64) (ram_size g) (omega (arith, a.1)) ∙ sym_of a.0)) in
    rw same
  where
    sym_of : {x y : Bool} → x ≡ y → y ≡ x
    sym_of p = rw p
