-- Words of the header by their places in the RAM, and what is stored in them.
use mathlib.Core.Path.{◌≡◌, refl, ap, ◌∙◌}
use mathlib.Core.Bool.{Bool, true, false, cond}
use Rattle.std.specs.Prelude.{Result, Ok, Err}
use lib.Dec.{eqb}
use mathlib.Core.List.{List, [], ◌∷◌, ◌++◌, append-nil, append_assoc}
use Prim.Native.Nat.{ℕ, ◌+◌, ◌-◌, ◌*◌, ◌≤◌}
use native.Mathlib.Omega.{arith}
use lib.ListN.{length, take, drop, replicate, length-append}
use lib.Seq.{get_or-drop, take-add, drop-length}
use Rattle.memory.specs.Lists.{write, write_cut, write_append}
use Rattle.memory.specs.Words.{word, words_bytes}
use Rattle.layout.specs.Geometry.{State, sizes_of}
use Rattle.layout.specs.Items.{record_of}
use Rattle.layout.specs.Calls.{Volume, insert, update, delete}
use Rattle.layout.specs.Header.{header_size, state_size, pages, header, on_pages, header_word, state_words, pending_of, pending_in, Pending, nothing, changing, formatting, unknown}
use Rattle.laws.specs.HeaderLaws.{length_pages}
use Rattle.geometry.specs.declared.volume.Geometry.{Geometry}
use Rattle.state.specs.Judge.{VolumeFits}
use Rattle.header.specs.declared.Kind.{Kind}
use Rattle.header.specs.declared.Kind.TheVariants as kind
use Rattle.header.specs.declared.UnknownKind.{UnknownKind}
use Rattle.header.specs.Header.{call_words, kind_with}

-- ---- what is read

pub word_at : (ram : List ℕ) (i : ℕ) → word ram (length ram - header_size + i * 4) ≡ header_word ram i
unfolding header_word header
word_at ram i =
    let n = length ram - 64 in
    let a1 : n + (i * 4 + 1) ≡ n + i * 4 + 1 = omega arith in
    let a2 : n + (i * 4 + 2) ≡ n + i * 4 + 2 = omega arith in
    let a3 : n + (i * 4 + 3) ≡ n + i * 4 + 3 = omega arith in
    rw (get_or-drop, get_or-drop, get_or-drop, get_or-drop, a1, a2, a3)

-- the pending call by its kind
abbrev pub pending_by : Result Kind UnknownKind → ℕ → ℕ → ℕ → ℕ → Pending
pending_by (Ok kind.Nothing) a b c d = nothing
pending_by (Ok kind.Insert) a b c d = changing (insert (record_of a b c d))
pending_by (Ok kind.Update) a b c d = changing (update (record_of a b c d))
pending_by (Ok kind.Delete) a b c d = changing (delete a)
pending_by (Ok kind.Format) a b c d = formatting (sizes_of a b c d)
pending_by (Err e) a b c d = unknown

by_kind : (n a b c d : ℕ) → pending_by (kind_with n) a b c d ≡ pending_of n a b c d
by_kind n a b c d = each (eqb n 0) (eqb n 1) (eqb n 2) (eqb n 3) (eqb n 4)
  where
    each : (o i u e f : Bool)
        → pending_by (cond o (Ok kind.Nothing) (cond i (Ok kind.Insert) (cond u (Ok kind.Update) (cond e (Ok kind.Delete) (cond f (Ok kind.Format) (Err (record {}))))))) a b c d
        ≡ cond o nothing (cond i (changing (insert (record_of a b c d))) (cond u (changing (update (record_of a b c d)))
        (cond e (changing (delete a)) (cond f (formatting (sizes_of a b c d)) unknown))))
    each true i u e f = refl
    each false true u e f = refl
    each false false true e f = refl
    each false false false true f = refl
    each false false false false true = refl
    each false false false false false = refl

-- the words read are those of the header
pub read_pending : (ram : List ℕ) {n a b c d : ℕ} {k : Result Kind UnknownKind} → n ≡ header_word ram 6 → a ≡ header_word ram 7
    → b ≡ header_word ram 8 → c ≡ header_word ram 9 → d ≡ header_word ram 10 → k ≡ kind_with n → pending_by k a b c d ≡ pending_in ram
unfolding pending_in
read_pending ram {n = n} {a = a} {b = b} {c = c} {d = d} en ea eb ec ed ek =
    rw ek (by_kind n a b c d ∙ rw (en, ea, eb, ec, ed) refl)

-- ---- what is stored

-- bytes written up to the end
pub write_end : (ram x : List ℕ) (n : ℕ) → n + length x ≡ length ram → write ram n x ≡ take n ram ++ x
write_end ram x n h =
    write_cut ram n x (omega (arith, h)) ∙ rw (h, drop-length, append-nil)

pub put_whole : (ram a b : List ℕ) → header_size ≤ length ram → length a ≡ 24 → length b ≡ 40
    → write (write ram (length ram - 64) a) (length ram - 64 + 24) b ≡ pages ram ++ (a ++ b)
unfolding pages
put_whole ram a b h ea eb =
    let e : length ram - 64 + 24 ≡ length ram - 64 + length a = omega (arith, ea) in
    rw e (write_append ram (length ram - 64) a b
    ∙ write_end ram (a ++ b) (length ram - 64) (omega (arith, length-append a b, h, ea, eb)))

pub put_intent : (ram b : List ℕ) → header_size ≤ length ram → length b ≡ 40
    → write ram (length ram - 64 + 24) b ≡ pages ram ++ (take state_size (header ram) ++ b)
unfolding pages header
put_intent ram b h eb =
    write_end ram b (length ram - 64 + 24) (omega (arith, h, eb))
    ∙ ap (λ (l : List ℕ). l ++ b) (take-add (length ram - 64) 24 ram)
    ∙ append_assoc (take (length ram - 64) ram) (take 24 (drop (length ram - 64) ram)) b

-- words put into zeros
pub state_written : (s : State) → write (replicate 24 0) 0 (words_bytes (state_words s)) ≡ words_bytes (state_words s)
unfolding write words_bytes
state_written s = refl

pub intent_written : (kind x y z w : ℕ) → write (replicate 40 0) 0 (words_bytes (kind ∷ x ∷ y ∷ z ∷ w ∷ [])) ≡ words_bytes (call_words kind x y z w)
unfolding write words_bytes
intent_written kind x y z w = refl

-- ---- a volume that is long enough has the header

pub header_fits : (v : Volume) (g : Geometry) → VolumeFits (on_pages v) g → header_size ≤ length v.ram
header_fits v g f = omega (arith, g.power.most, f.long.read.ram_fits, length_pages v.ram)
