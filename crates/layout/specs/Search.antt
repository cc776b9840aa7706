-- The search for a key in KA, for a record number in DA, over any gate on pages and any test of an item. Document 01, "Calls"; document 02,
-- §5.
use Rattle.std.specs.Prelude.{Bool, true, false, cond, ℕ, zero, suc, ◌+◌, ◌*◌, ◌/◌, ◌%◌, leb}
use Rattle.std.proofs.Math.Option.{Option, none, some}
use Rattle.layout.specs.Keys.{Key, same_key}

-- where a search ends: at a live entry, with its record number, or at a number of n or more (refusal 8); in DA at the number that is
-- tested
pub data Stop : Type 0 where
  found : ℕ → Stop
  corrupt : Stop

abbrev pub is_found : Option Stop → Bool
is_found none = false
is_found (some r) = true

-- how it ended, if not by running out of entries, and the pages opened
pub record Found : Type 0 where
  pub stop : Option Stop
  pub opened : ℕ

abbrev pub reply : Option Stop → ℕ → Found
reply s c = record { stop = s; opened = c }

-- an entry of key `k'` and number `j` when `k` is looked for among n
-- records: "An entry with the key whose record number is not in DA is live"
abbrev pub try_entry : ℕ → (ℕ → Bool) → Key → Key → ℕ → Option Stop
try_entry n deleted k k' j =
    cond (same_key k' k) (cond (leb n j) (some corrupt) (cond (deleted j) none (some (found j)))) none

-- what trying it costs, if testing number i costs `test i`: nothing where its number is not tested
abbrev pub entry_cost : ℕ → (ℕ → ℕ) → Key → Key → ℕ → ℕ
entry_cost n test k k' j = cond (same_key k' k) (cond (leb n j) 0 (test j)) 0

abbrev pub or_else : Option Stop → Option Stop → Option Stop
or_else none y = y
or_else (some r) y = some r

-- entries lo + len - 1 down to lo: "Entries of a page are tried last to first"
unfoldable pub scan : (ℕ → Option Stop) → ℕ → ℕ → Option Stop
scan try lo zero = none
scan try lo (suc k) = or_else (try (lo + k)) (scan try lo k)

-- a page that is opened counts, also the one where the search ends
abbrev pub opening : Option Stop → Found → Found
opening none rest = reply rest.stop (suc rest.opened)
opening (some r) rest = reply (some r) 1

-- pages N - 1 down to 0 of q entries each, "opening a page only if its filter, .. has all three bits", from §2 on all k
unfoldable pub search_pages : (ℕ → Bool) → (ℕ → Option Stop) → ℕ → ℕ → Found
search_pages gate try q zero = reply none 0
search_pages gate try q (suc p) =
    let rest : Found = search_pages gate try q p in
    cond (gate p) (opening (scan try (p * q) q) rest) rest

-- what is found in RAM counts no page
abbrev pub ram_first : Option Stop → Found → Found
ram_first none rest = rest
ram_first (some r) rest = reply (some r) 0

-- "first the desk's entries, newest first; then full pages, newest first", of n entries, q to a page
abbrev pub search_from : (ℕ → Bool) → (ℕ → Option Stop) → ℕ → ℕ → Found
search_from gate try q n = ram_first (scan try (n / q * q) (n % q)) (search_pages gate try q (n / q))

-- ---- what a search pays in all, if trying entry j costs `cost j`; what comes after its end costs nothing

abbrev pub unless_ended : Option Stop → ℕ → ℕ
unless_ended none c = c
unless_ended (some r) c = 0

unfoldable pub scan_cost : (ℕ → Option Stop) → (ℕ → ℕ) → ℕ → ℕ → ℕ
scan_cost try cost lo zero = 0
scan_cost try cost lo (suc k) = cost (lo + k) + unless_ended (try (lo + k)) (scan_cost try cost lo k)

unfoldable pub pages_cost : (ℕ → Bool) → (ℕ → Option Stop) → (ℕ → ℕ) → ℕ → ℕ → ℕ
pages_cost gate try cost q zero = 0
pages_cost gate try cost q (suc p) =
    let rest : ℕ = pages_cost gate try cost q p in
    cond (gate p) (scan_cost try cost (p * q) q + unless_ended (scan try (p * q) q) rest) rest

-- of `search_from` with the same gate, test and numbers
abbrev pub cost_from : (ℕ → Bool) → (ℕ → Option Stop) → (ℕ → ℕ) → ℕ → ℕ → ℕ
cost_from gate try cost q n =
    scan_cost try cost (n / q * q) (n % q) + unless_ended (scan try (n / q * q) (n % q)) (pages_cost gate try cost q (n / q))
