-- What a lookup answers, field by field, and where the part that it hands out lies.
use Rattle.std.specs.Prelude as std
use Rattle.std.specs.Prelude.{cond, List, [], ◌∷◌, ℕ, ◌+◌, Option, Some, None, Ok, Err, is_some, option_map}
use Rattle.memory.specs.Bits.{num}
use Rattle.layout.specs.Items as items
use Rattle.layout.specs.Calls.{Outcome, accepted, hit, miss, refused, Result}
use Rattle.geometry.specs.declared.areas.Place.{Place}
use Rattle.geometry.specs.declared.areas.Place.TheVariants.{Ram, Flash}
use Rattle.state.specs.Contract.{number_of}
use Rattle.state.specs.declared.Refusal.{Refusal}
use Rattle.lookup.specs.declared.Found.{Found}
use Rattle.lookup.specs.declared.Looked.{Looked}

-- the answer of a lookup in numbers. found 1: the record's 16 bytes start at `offset` of the RAM (in_ram 1) or of the main area (in_ram 0);
-- count and deletion_count are the pages of entries and of deletions opened
pub record LookupNumbers : Type 0 where
  pub refusal : ℕ
  pub found : ℕ
  pub count : ℕ
  pub in_ram : ℕ
  pub offset : ℕ
  pub deletion_count : ℕ

-- "hit, count and the 16 record bytes .. or miss, count and an empty part; its refusals give count 0 and an empty part"; document 02,
-- §5: "also gives the DA pages opened, 0 on a refusal"
abbrev pub lookup_by : Outcome → ℕ → ℕ → LookupNumbers
lookup_by (hit place bytes) count da_pages =
    record { refusal = 0; found = 1; count = count; in_ram = num place.in_ram; offset = place.at; deletion_count = da_pages }
lookup_by miss count da_pages = record { refusal = 0; found = 0; count = count; in_ram = 0; offset = 0; deletion_count = da_pages }
lookup_by (refused i) count da_pages = record { refusal = i; found = 0; count = 0; in_ram = 0; offset = 0; deletion_count = 0 }
lookup_by accepted count da_pages = record { refusal = 0; found = 0; count = 0; in_ram = 0; offset = 0; deletion_count = 0 }

abbrev pub lookup_of : Result → LookupNumbers
lookup_of r = lookup_by r.outcome r.count r.da_pages

-- of a refusal, and of a place or none
abbrev pub refused_numbers : ℕ → LookupNumbers
refused_numbers i = record { refusal = i; found = 0; count = 0; in_ram = 0; offset = 0; deletion_count = 0 }

abbrev pub numbers_at : Option Place → ℕ → ℕ → LookupNumbers
numbers_at None count da_pages = record { refusal = 0; found = 0; count = count; in_ram = 0; offset = 0; deletion_count = da_pages }
numbers_at (Some (Ram at)) count da_pages = record { refusal = 0; found = 1; count = count; in_ram = 1; offset = at; deletion_count = da_pages }
numbers_at (Some (Flash at)) count da_pages = record { refusal = 0; found = 1; count = count; in_ram = 0; offset = at; deletion_count = da_pages }

-- what `find` answers, in numbers
abbrev pub find_numbers : std.Result Found Refusal → LookupNumbers
find_numbers (Ok f) = numbers_at f.place f.pages f.deletion_pages
find_numbers (Err i) = refused_numbers (number_of i)

-- the four numbers beside the part that lookup hands out: the refusal, whether there is a record, the count, the DA pages
abbrev pub answer_numbers : LookupNumbers → List ℕ
answer_numbers r = r.refusal ∷ r.found ∷ r.count ∷ r.deletion_count ∷ []

-- the bytes of that part
abbrev pub part_of : Outcome → List ℕ
part_of (hit place bytes) = bytes
part_of miss = []
part_of (refused i) = []
part_of accepted = []

-- where a place lies: in the RAM or in the main area, each given by its block and byte offset
abbrev pub place_in : ℕ × ℕ → ℕ × ℕ → items.Place → ℕ × ℕ
place_in main ram p = let lent = cond p.in_ram ram main in (lent.0, p.at + lent.1)

-- the part that is handed out, none but for a hit: its bytes and where it lies
abbrev pub placed_part : ℕ × ℕ → ℕ × ℕ → Outcome → Option (List ℕ × (ℕ × ℕ))
placed_part main ram (hit place bytes) = Some (bytes, place_in main ram place)
placed_part main ram miss = None
placed_part main ram (refused i) = None
placed_part main ram accepted = None

-- what `lookup` answers: the same of its part, and its four numbers
abbrev pub looked_part : std.Result Looked Refusal → Option (List ℕ × (ℕ × ℕ))
looked_part (Ok l) = option_map (λ r. (r.now, r.ref_ptr)) l.record
looked_part (Err i) = None

abbrev pub looked_numbers : std.Result Looked Refusal → List ℕ
looked_numbers (Ok l) = 0 ∷ num (is_some l.record) ∷ l.pages ∷ l.deletion_pages ∷ []
looked_numbers (Err i) = number_of i ∷ 0 ∷ 0 ∷ 0 ∷ []
