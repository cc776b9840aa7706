-- The reader reads what the grammar says, and the grammar has one reading of a tab.
use Rattle.std.specs.Prelude.{◌≡◌, Bool, true, false, ℕ, zero, suc, ◌+◌, ◌≤◌, ◌<◌, length}
use Rattle.std.proofs.Math.Path.{refl}
use Rattle.std.proofs.Common.{sym, ap, ◌∙◌, inl, inr, not-suc-le-zero, arith, length-append}
use Rattle.std.proofs.Math.Option.{Option, none, some, map, none-ne-some}
use mathlib.Core.List.{List, [], ◌∷◌, ◌++◌, append_assoc, cons-ne-nil}
use Rattle.memory.specs.Cases.{either, eq?}
use Rattle.tab.specs.Grammar.{comma, lf, cr, HeaderLine, Row, RowLine, Follows, LineThen, Rows, Headed, Reading}
use Rattle.tab.specs.Reader.{Got, got, decimal, word, quoted, bare, after, line_end, ends, field, GotLine, got_line}
use Rattle.tab.specs.Reader.{from_goal, from_moves, from_level, line}
use Rattle.tab.specs.Reader.{row, header, body, Read, read_more, continue, rows_in, rows_of}
use Rattle.tab.specs.Fields.{Stops, Means}
use Rattle.tab.proofs.Fields.{after_sound, ended_sound, content_complete, content_sound}
use Rattle.tab.specs.declared.Column.{Column}
use Rattle.tab.specs.declared.Column.TheVariants.{Level, Moves, Goal}
use Rattle.tab.specs.Agree.{Only}

-- ---- what follows a line

follows_stops : (t next : List ℕ) → Follows t next → Stops t
follows_stops t next f =
    either f (λ e. rw e.0 tt)
    (λ e. either e.ends (λ q. rw (e.is, q) refl) (λ q. rw (e.is, q) refl))

end_complete : (t next : List ℕ) → Follows t next → line_end t ≡ some next
unfolding line_end
end_complete t next f =
    either f (λ e. rw (e.0, e.1))
    (λ e. either e.ends (λ q. rw (e.is, q)) (λ q. rw (e.is, q)))

end_sound : (t next : List ℕ) → line_end t ≡ some next → Follows t next
unfolding line_end
end_sound [] next e = let q : [] ≡ next = cc in inl (refl, sym q)
end_sound (c ∷ cs) next e =
    either (eq? c lf)
    (λ a.
    let z : some cs ≡ some next = rw a.0 at e in
    let q : cs ≡ next = cc in
    inr (record { ending = lf ∷ []; ends = inl refl; is = rw (a.1, q) }))
    (λ a. either (eq? c cr)
    (λ b.
    let z : after lf cs ≡ some next = rw (a.0, b.0) at e in
    inr (record { ending = cr ∷ lf ∷ []; ends = inr refl; is = rw (b.1, after_sound lf cs next z) }))
    (λ b. absurd (none-ne-some next (rw (a.0, b.0) at e))))

-- ---- a line

-- three fields and what follows them
spread : (a b c t : List ℕ) → (a ++ (comma ∷ (b ++ (comma ∷ c)))) ++ t ≡ a ++ (comma ∷ (b ++ (comma ∷ (c ++ t))))
spread a b c t =
    append_assoc a (comma ∷ (b ++ (comma ∷ c))) t
    ∙ ap (λ (x : List ℕ). a ++ (comma ∷ x)) (append_assoc b (comma ∷ c) t)

module _ (header : Bool) where
  line_complete : (a b c t next : List ℕ) (i j k : ℕ) → Means header Level a i → Means header Moves b j → Means header Goal c k
      → Follows t next → line header ((a ++ (comma ∷ (b ++ (comma ∷ c)))) ++ t) ≡ some (got_line i j k next)
  unfolding line field
  line_complete a b c t next i j k A B C F =
      rw (
        spread a b c t,
        content_complete header Level a (comma ∷ (b ++ (comma ∷ (c ++ t)))) i A refl,
        content_complete header Moves b (comma ∷ (c ++ t)) j B refl,
        content_complete header Goal c t k C (follows_stops t next F),
        end_complete t next F,
      )

  -- a line that is read, as the grammar has it
  record LineRead (text : List ℕ) (g : GotLine) : Type 0 where
    a : List ℕ
    b : List ℕ
    c : List ℕ
    t : List ℕ
    is : text ≡ (a ++ (comma ∷ (b ++ (comma ∷ c)))) ++ t
    level_is : Means header Level a g.row.level
    moves_is : Means header Moves b g.row.moves
    goal_is : Means header Goal c g.row.goal
    follows : Follows t g.next

  -- a field that is read, and what ends it
  record FieldRead (c : Column) (text : List ℕ) (g : Got) : Type 0 where
    field : List ℕ
    t : List ℕ
    is : text ≡ field ++ t
    means : Means header c field g.value
    ends_are : ends c t ≡ some g.rest

  field_sound : (c : Column) (text : List ℕ) (g : Got) → field header c text ≡ some g → FieldRead c text g
  unfolding field
  field_sound c text g e =
      let E = ended_sound (ends c) (quoted (bare header c) text) g e in
      let C = content_sound header c text (got g.value E.0) E.1 in
      record { field = C.field; t = E.0; is = C.is; means = C.means; ends_are = E.2 }

  -- the fields that a line was read from
  record Fields (text : List ℕ) (g : GotLine) : Type 0 where
    x : Got
    y : Got
    z : Got
    x_is : field header Level text ≡ some x
    y_is : field header Moves x.rest ≡ some y
    z_is : field header Goal y.rest ≡ some z
    is : got_line x.value y.value z.value z.rest ≡ g

  line_fields : (text : List ℕ) (g : GotLine) → line header text ≡ some g → Fields text g
  unfolding line
  line_fields text g e = go (field header Level text) refl e
    where
      go₃ : (x y : Got) (o : Option Got) → field header Level text ≡ some x → field header Moves x.rest ≡ some y
          → field header Goal y.rest ≡ o → from_goal x.value y.value o ≡ some g → Fields text g
      go₃ x y none p q r e = absurd (none-ne-some g e)
      go₃ x y (some z) p q r e = record { x = x; y = y; z = z; x_is = p; y_is = q; z_is = r; is = cc }

      go₂ : (x : Got) (o : Option Got) → field header Level text ≡ some x → field header Moves x.rest ≡ o
          → from_moves header x.value o ≡ some g → Fields text g
      go₂ x none p q e = absurd (none-ne-some g e)
      go₂ x (some y) p q e = go₃ x y (field header Goal y.rest) p q refl e

      go : (o : Option Got) → field header Level text ≡ o → from_level header o ≡ some g → Fields text g
      go none p e = absurd (none-ne-some g e)
      go (some x) p e = go₂ x (field header Moves x.rest) p refl e

  line_sound : (text : List ℕ) (g : GotLine) → line header text ≡ some g → LineRead text g
  line_sound text g e =
      let F = line_fields text g e in
      let A = field_sound Level text F.x F.x_is in
      let B = field_sound Moves F.x.rest F.y F.y_is in
      let C = field_sound Goal F.y.rest F.z F.z_is in
      let p : A.t ≡ comma ∷ F.x.rest = after_sound comma A.t F.x.rest A.ends_are in
      let q : B.t ≡ comma ∷ F.y.rest = after_sound comma B.t F.y.rest B.ends_are in
      rw (← F.is)
      (record {
        a = A.field;
        b = B.field;
        c = C.field;
        t = C.t;
        is =
            A.is
            ∙ ap (λ (x : List ℕ). A.field ++ x) (p ∙ ap (λ (x : List ℕ). comma ∷ x)
            (B.is ∙ ap (λ (x : List ℕ). B.field ++ x) (q ∙ ap (λ (x : List ℕ). comma ∷ x) C.is)))
            ∙ sym (spread A.field B.field C.field C.t);
        level_is = A.means;
        moves_is = B.means;
        goal_is = C.means;
        follows = end_sound C.t F.z.rest C.ends_are;
      })

-- ---- a row, the header

pub row_complete : (text : List ℕ) (r : Row) (next : List ℕ) → LineThen (RowLine r) text next
    → row text ≡ some (record { row = r; next = next })
row_complete text r next T =
    let L = T.says in
    rw (T.is, L.is)
    (line_complete false L.a L.b L.c T.t next r.level r.moves r.goal L.first L.second L.third T.follows)

pub row_sound : (text : List ℕ) (g : GotLine) → row text ≡ some g → LineThen (RowLine g.row) text g.next
row_sound text g e =
    let L = line_sound false text g e in
    record {
      line = L.a ++ (comma ∷ (L.b ++ (comma ∷ L.c)));
      t = L.t;
      is = L.is;
      says = record { a = L.a; b = L.b; c = L.c; is = refl; first = L.level_is; second = L.moves_is; third = L.goal_is };
      follows = L.follows;
    }

pub header_complete : (text next : List ℕ) → LineThen HeaderLine text next → header text ≡ some next
header_complete text next T =
    let L = T.says in
    rw (
      T.is,
      L.is,
      line_complete true L.a L.b L.c T.t next 0 0 0 (L.first, refl) (L.second, refl) (L.third, refl) T.follows,
    )

pub header_sound : (text next : List ℕ) → header text ≡ some next → LineThen HeaderLine text next
header_sound text next e = go (line true text) refl e
  where
    go : (o : Option GotLine) → line true text ≡ o → map (λ (g : GotLine). g.next) o ≡ some next → LineThen HeaderLine text next
    go none p q = absurd (none-ne-some next q)
    go (some g) p q =
        let L = line_sound true text g p in
        let n : g.next ≡ next = cc in
        record {
          line = L.a ++ (comma ∷ (L.b ++ (comma ∷ L.c)));
          t = L.t;
          is = L.is;
          says = record { a = L.a; b = L.b; c = L.c; is = refl; first = L.level_is.0; second = L.moves_is.0; third = L.goal_is.0 };
          follows = rw (← n) L.follows;
        }

-- ---- rows

-- a row takes some of the text
pub row_shorter : (text : List ℕ) (g : GotLine) → row text ≡ some g → length g.next < length text
row_shorter text g e =
    let L = line_sound false text g e in
    let whole : length text ≡ length (L.a ++ (comma ∷ (L.b ++ (comma ∷ L.c)))) + length L.t
    = ap length L.is ∙ length-append (L.a ++ (comma ∷ (L.b ++ (comma ∷ L.c)))) L.t in
    let one : length (L.a ++ (comma ∷ (L.b ++ (comma ∷ L.c)))) ≡ length L.a + suc (length (L.b ++ (comma ∷ L.c)))
    = length-append L.a (comma ∷ (L.b ++ (comma ∷ L.c))) in
    either L.follows
    (λ e. let z : length g.next ≡ 0 = ap length e.1 in omega arith)
    (λ e.
    let z : length L.t ≡ length e.ending + length g.next = ap length e.is ∙ length-append e.ending g.next in
    omega arith)

-- the rows that are read are the grammar's
rows_sound : (k : ℕ) (text : List ℕ) → Rows (rows_in k text).rows (rows_in k text).rest text
unfolding rows_in
rows_sound zero text = refl
rows_sound (suc k) text = go (row text) refl (λ next. rows_sound k next)
  where
    go : (o : Option GotLine) → row text ≡ o → ((next : List ℕ) → Rows (rows_in k next).rows (rows_in k next).rest next)
        → Rows (continue text o (rows_in k)).rows (continue text o (rows_in k)).rest text
    go none e ih = refl
    go (some g) e ih = record { next = g.next; first = row_sound text g e; others = ih g.next }

row_empty : row [] ≡ none
unfolding line field quoted bare decimal
row_empty = refl

-- and no row follows them
pub rows_end : (k : ℕ) (text : List ℕ) → length text ≤ k → row (rows_in k text).rest ≡ none
unfolding rows_in
rows_end zero [] l = row_empty
rows_end zero (c ∷ cs) l = absurd (not-suc-le-zero l)
rows_end (suc k) text l = go (row text) refl (λ next m. rows_end k next m)
  where
    go : (o : Option GotLine) → row text ≡ o → ((next : List ℕ) → length next ≤ k → row (rows_in k next).rest ≡ none)
        → row (continue text o (rows_in k)).rest ≡ none
    go none e ih = e
    go (some g) e ih = ih g.next (let s = row_shorter text g e in omega arith)

-- whatever rows the grammar has up to a text in which no row follows, they are those that are read
rows_complete : (rows : List Row) (rest text : List ℕ) (k : ℕ) → length text ≤ k → Rows rows rest text → row rest ≡ none
    → rows_in k text ≡ record { rows = rows; rest = rest }
unfolding rows_in
rows_complete [] rest text zero l R e = rw R
rows_complete [] rest text (suc k) l R e = rw (R, e)
rows_complete (r ∷ rs) rest text zero l R e =
    let q = row_shorter text (record { row = r; next = R.next }) (row_complete text r R.next R.first) in
    absurd (omega arith)
rows_complete (r ∷ rs) rest text (suc k) l R e =
    let p = row_complete text r R.next R.first in
    let q = row_shorter text (record { row = r; next = R.next }) p in
    rw p (ap (λ (s : Read). read_more r s) (rows_complete rs rest R.next k (omega arith) R.others e))

no_row : (text : List ℕ) → row text ≡ none → (r : Row) (next : List ℕ) → LineThen (RowLine r) text next → ⊥
no_row text e r next T = none-ne-some (record { row = r; next = next }) (sym e ∙ row_complete text r next T)

row_none : (text : List ℕ) → ((r : Row) (next : List ℕ) → LineThen (RowLine r) text next → ⊥) → row text ≡ none
row_none text h = go (row text) refl
  where
    go : (o : Option GotLine) → row text ≡ o → row text ≡ none
    go none e = e
    go (some g) e = absurd (h g.row g.next (row_sound text g e))

-- ---- the tab

header_empty : header [] ≡ none
unfolding line field quoted bare word
header_empty = refl

body_sound : (text lines : List ℕ) → body text ≡ some lines → Headed text lines
body_sound [] lines e = let q : [] ≡ lines = cc in inl (refl, sym q)
body_sound (c ∷ cs) lines e = inr (header_sound (c ∷ cs) lines e)

body_complete : (text lines : List ℕ) → Headed text lines → body text ≡ some lines
body_complete [] lines H =
    either H (λ e. ap some (sym e.1))
    (λ T. absurd (none-ne-some lines (sym header_empty ∙ header_complete [] lines T)))
body_complete (c ∷ cs) lines H = either H (λ e. absurd (cons-ne-nil _ _ e.0)) (header_complete (c ∷ cs) lines)

-- what the reader makes of a tab whose header it reads, or of no bytes, is a reading by the grammar
pub reading_is : (text lines : List ℕ) → body text ≡ some lines → Reading text (rows_of lines).rows (rows_of lines).rest
reading_is text lines e = record {
  lines = lines;
  headed = body_sound text lines e;
  reads = rows_sound (length lines) lines;
  ends = no_row (rows_of lines).rest (rows_end (length lines) lines (omega arith));
}

pub reading_only : (text : List ℕ) (rows : List Row) (rest : List ℕ) → Reading text rows rest → Only text rows rest
reading_only text rows rest R = record {
  lines = R.lines;
  body_is = body_complete text R.lines R.headed;
  rows_are = rows_complete rows rest R.lines (length R.lines) (omega arith) R.reads (row_none rest R.ends);
}

-- so two readings are one
pub reading_unique : (text : List ℕ) (rows rows' : List Row) (rest rest' : List ℕ) → Reading text rows rest → Reading text rows' rest'
    → (rows ≡ rows') × (rest ≡ rest')
reading_unique text rows rows' rest rest' R R' =
    let A = reading_only text rows rest R in
    let B = reading_only text rows' rest' R' in
    let same : some A.lines ≡ some B.lines = sym A.body_is ∙ B.body_is in
    let lines : A.lines ≡ B.lines = cc in
    let q : ◌≡◌ {A = Read} (record { rows = rows; rest = rest }) (record { rows = rows'; rest = rest' })
    = sym A.rows_are ∙ ap rows_of lines ∙ B.rows_are in
    (ap (λ (s : Read). s.rows) q, ap (λ (s : Read). s.rest) q)

-- request 6: a tab of no bytes has a reading, with no row, and so this one alone; one with only a line end has none
pub reading_empty : Reading [] [] []
unfolding rows_in
reading_empty = reading_is [] [] refl

pub line_end_unread : (rows : List Row) (rest : List ℕ) → Reading (lf ∷ []) rows rest → ⊥
unfolding line field quoted bare word
line_end_unread rows rest R = none-ne-some _ (reading_only (lf ∷ []) rows rest R).body_is

pub return_line_end_unread : (rows : List Row) (rest : List ℕ) → Reading (cr ∷ lf ∷ []) rows rest → ⊥
unfolding line field quoted bare word
return_line_end_unread rows rest R = none-ne-some _ (reading_only (cr ∷ lf ∷ []) rows rest R).body_is
