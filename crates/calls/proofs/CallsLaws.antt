-- The layout's changing calls by what is decided: of a call and of a restart, each by its judgement and its end.
use mathlib.Core.Path.{◌≡◌, refl, sym, ap, subst, ◌∙◌}
use mathlib.Core.Bool.{Bool, true, false, cond}
use mathlib.Core.Option.{Option, none, some}
use Prim.Native.Nat.{◌≤◌}
use native.Mathlib.Omega.{arith}
use lib.Dec.{eqb}
use lib.ListN.{length}
use Rattle.std.specs.Prelude as std
use Rattle.std.specs.Prelude.{Ok, Err}
use Rattle.layout.specs.Geometry as layout
use Rattle.layout.specs.Hash.{fnv_family}
use Rattle.layout.specs.Refusals as refusal
use Rattle.layout.specs.Search.{Stop, found, corrupt}
use Rattle.layout.specs.Calls.{key_of, Volume, Call, Result, Commit, refuse, bad_state, too_short, judge_first, search}
use Rattle.layout.specs.Calls.{insert_by, update_by, delete_by, answer_by, change_by, commit}
use Rattle.layout.specs.Later.{commit_later, call_again}
use Rattle.layout.specs.Header.{header_size, pages, on_pages, kind_in}
use Rattle.laws.specs.HeaderLaws.{length_pages}
use Rattle.layout.specs.Budgets.{result_of}
use Rattle.geometry.specs.Shape.{shape, shape_is, geometry_for}
use Rattle.geometry.specs.declared.volume.Geometry.{Geometry}
use Rattle.state.specs.Contract.{record_is, call_of, number_of}
use Rattle.state.specs.Judge.{judgement_of, VolumeFits, is_allowed, fits_shape}
use Rattle.state.specs.declared.Refusal.{Refusal}
use Rattle.state.specs.declared.Refusal.TheVariants.{BadState, TooShort, Pending}
use Rattle.state.specs.declared.Request.{Request}
use Rattle.state.specs.declared.Request.TheVariants.{Insert, Update, Delete}
use Rattle.state.proofs.Refusals.{refused_by}
use Rattle.header.specs.Header.{idle_judgement}
use Rattle.changes.specs.Edits.{edit_is}
use Rattle.changes.specs.declared.Edit.{Edit}
use Rattle.calls.specs.Resolve.{stopped, resolved_by, resolved_of, ResolvedFits}
use Rattle.calls.specs.Request.{decision_of}
use Rattle.calls.specs.declared.Resolved.{Resolved}

-- ---- a judgement, then what the call answers

abbrev pub judged_by : std.Result Geometry Refusal → Volume → Result → Result
judged_by (Err i) w x = refused_by w i
judged_by (Ok g) w x = x

-- a geometry that is judged good has the volume's shape
abbrev Shaped : Volume → std.Result Geometry Refusal → Type 0
Shaped w (Err i) = Unit {0}
Shaped w (Ok g) = shape g ≡ layout.geometry w.state.sizes

-- what is known of a judgement: a refusal's number is not that of an accepted call, a geometry is the volume's, and so is its shape
abbrev pub Told : Volume → std.Result Geometry Refusal → Type 0
Told w (Err i) = eqb (number_of i) 0 ≡ false
Told w (Ok g) = (g ≡ geometry_for w.state.sizes) × (shape g ≡ layout.geometry w.state.sizes)

told_shaped : (w : Volume) (j : std.Result Geometry Refusal) → Told w j → Shaped w j
told_shaped w (Err i) t = tt
told_shaped w (Ok g) t = t.1

module _ (v : Volume) where
  pub result_judged : (c : Call) → result_of fnv_family v c
      ≡ judged_by (idle_judgement v) (on_pages v) (answer_by commit fnv_family (layout.geometry v.state.sizes) (on_pages v) c)
  unfolding judge_first
  result_judged c =
      by (bad_state v.state) (too_short (layout.geometry v.state.sizes) v.flash (pages v.ram)) (eqb (kind_in v.ram) 0)
      (geometry_for v.state.sizes) (on_pages v) (answer_by commit fnv_family (layout.geometry v.state.sizes) (on_pages v) c)
    where
      by : (a b k : Bool) (g : Geometry) (w : Volume) (x : Result)
          → cond a (refuse w refusal.bad_state) (cond b (refuse w refusal.too_short) (cond k x (refuse w refusal.pending)))
          ≡ judged_by (cond a (Err BadState) (cond b (Err TooShort) (cond k (Ok g) (Err Pending)))) w x
      by true b k g w x = refl
      by false true k g w x = refl
      by false false true g w x = refl
      by false false false g w x = refl

  pub idle_told : Told (on_pages v) (idle_judgement v)
  idle_told =
      by (bad_state v.state) (too_short (layout.geometry v.state.sizes) v.flash (pages v.ram)) (eqb (kind_in v.ram) 0) refl
    where
      by : (a b k : Bool) → bad_state v.state ≡ a
          → Told (on_pages v) (cond a (Err BadState) (cond b (Err TooShort) (cond k (Ok (geometry_for v.state.sizes)) (Err Pending))))
      by true b k e = refl
      by false true k e = refl
      by false false true e = (refl, shape_is v.state.sizes (is_allowed v.state e))
      by false false false e = refl

-- the same of a call that is not asked whether one is pending
module _ (w : Volume) where
  pub first_judged : (x : Result) → judge_first w x ≡ judged_by (judgement_of w) w x
  unfolding judge_first
  first_judged x = by (bad_state w.state) (too_short (layout.geometry w.state.sizes) w.flash w.ram) (geometry_for w.state.sizes)
    where
      by : (a b : Bool) (g : Geometry)
          → cond a (refuse w refusal.bad_state) (cond b (refuse w refusal.too_short) x)
          ≡ judged_by (cond a (Err BadState) (cond b (Err TooShort) (Ok g))) w x
      by true b g = refl
      by false true g = refl
      by false false g = refl

  pub first_told : Told w (judgement_of w)
  first_told = by (bad_state w.state) (too_short (layout.geometry w.state.sizes) w.flash w.ram) refl
    where
      by : (a b : Bool) → bad_state w.state ≡ a → Told w (cond a (Err BadState) (cond b (Err TooShort) (Ok (geometry_for w.state.sizes))))
      by true b e = refl
      by false true e = refl
      by false false e = (refl, shape_is w.state.sizes (is_allowed w.state e))

-- ---- what is decided, over any end of a change

-- by how the call's key resolved
abbrev pub decided_by : Request → std.Result Resolved Refusal → std.Result Edit Refusal
decided_by q (Err i) = Err i
decided_by q (Ok r) = decision_of q r.live

module _ (end : Commit) (w : Volume) where
  -- a refusal, or a change
  abbrev pub done_by : layout.Geometry → std.Result Edit Refusal → Result
  done_by G (Err i) = refused_by w i
  done_by G (Ok e) = change_by end fnv_family G w (edit_is e)

  -- what a call does after the search
  abbrev after : layout.Geometry → Request → Option Stop → Result
  after G (Insert r) o = insert_by end fnv_family G w (record_is r) o
  after G (Update r) o = update_by end fnv_family G w (record_is r) o
  after G (Delete key) o = delete_by end fnv_family G w o

  after_is : (G : layout.Geometry) (q : Request)
      → answer_by end fnv_family G w (call_of q) ≡ after G q (search fnv_family G w (key_of (call_of q))).stop
  after_is G (Insert r) = refl
  after_is G (Update r) = refl
  after_is G (Delete key) = refl

  after_done : (G : layout.Geometry) (g : Geometry) (q : Request) (o : Option Stop) → after G q o ≡ done_by G (decided_by q (stopped g o))
  after_done G g (Insert r) (some corrupt) = refl
  after_done G g (Insert r) none = refl
  after_done G g (Insert r) (some (found j)) = refl
  after_done G g (Update r) (some corrupt) = refl
  after_done G g (Update r) none = refl
  after_done G g (Update r) (some (found j)) = refl
  after_done G g (Delete key) (some corrupt) = refl
  after_done G g (Delete key) none = refl
  after_done G g (Delete key) (some (found j)) = refl

  abbrev pub answered : Request → Result
  answered q = answer_by end fnv_family (layout.geometry w.state.sizes) w (call_of q)

  judged_done : (j : std.Result Geometry Refusal) → Shaped w j → (q : Request) → judged_by j w (answered q)
      ≡ done_by (layout.geometry w.state.sizes) (decided_by q (resolved_by j w (key_of (call_of q))))
  judged_done (Err i) t q = refl
  judged_done (Ok g) t q =
      let G : layout.Geometry = layout.geometry w.state.sizes in
      after_is G q ∙ after_done G g q (search fnv_family G w (key_of (call_of q))).stop
      ∙ ap (λ (k : layout.Geometry). done_by G (decided_by q (stopped g (search fnv_family k w (key_of (call_of q))).stop))) (sym t)

  -- a change is one of the geometry that is judged good
  pub done_change : (g : Geometry) (e : Edit) → VolumeFits w g
      → done_by (layout.geometry w.state.sizes) (Ok e) ≡ change_by end fnv_family (shape g) w (edit_is e)
  done_change g e fits = ap (λ (k : layout.Geometry). change_by end fnv_family k w (edit_is e)) (sym (fits_shape w g fits))

  -- the same by any judgement: what is refused, and what is changed
  pub decided_refused : (j : std.Result Geometry Refusal) → Told w j → (q : Request) (i : Refusal)
      → decided_by q (resolved_by j w (key_of (call_of q))) ≡ Err i → judged_by j w (answered q) ≡ refused_by w i
  decided_refused j t q i d = judged_done j (told_shaped w j t) q ∙ ap (done_by (layout.geometry w.state.sizes)) d

  pub decided_changes : (j : std.Result Geometry Refusal) → Told w j → (q : Request)
      → ResolvedFits w (resolved_by j w (key_of (call_of q))) → (r : Resolved) (e : Edit)
      → resolved_by j w (key_of (call_of q)) ≡ Ok r → decision_of q r.live ≡ Ok e
      → VolumeFits w r.g × (judged_by j w (answered q) ≡ change_by end fnv_family (shape r.g) w (edit_is e))
  decided_changes j t q f r e is d =
      let G = layout.geometry w.state.sizes in
      let fits : VolumeFits w r.g = subst (ResolvedFits w) is f in (
        fits,
        judged_done j (told_shaped w j t) q ∙ ap (λ (x : std.Result Resolved Refusal). done_by G (decided_by q x)) is ∙ ap (done_by G) d
            ∙ done_change r.g e fits,
      )

-- of a call
pub call_done : (v : Volume) (q : Request) → result_of fnv_family v (call_of q)
    ≡ done_by commit (on_pages v) (layout.geometry v.state.sizes) (decided_by q (resolved_of v (key_of (call_of q))))
call_done v q =
    let j = idle_judgement v in
    result_judged v (call_of q) ∙ judged_done commit (on_pages v) j (told_shaped (on_pages v) j (idle_told v)) q

-- where its key doesn't resolve, it is refused so
pub call_unresolved : (v : Volume) (q : Request) (i : Refusal) → Err i ≡ resolved_of v (key_of (call_of q))
    → result_of fnv_family v (call_of q) ≡ refused_by (on_pages v) i
call_unresolved v q i is =
    call_done v q
    ∙ ap (λ (r : std.Result Resolved Refusal). done_by commit (on_pages v) (layout.geometry v.state.sizes) (decided_by q r)) (sym is)

-- of a restart, which "refuses as the pending call would, 7 and 10 aside"
pub again_done : (w : Volume) (q : Request) → call_again fnv_family w (call_of q)
    ≡ done_by commit_later w (layout.geometry w.state.sizes) (decided_by q (resolved_by (judgement_of w) w (key_of (call_of q))))
unfolding call_again
again_done w q = first_judged w _ ∙ judged_done commit_later w (judgement_of w) (told_shaped w (judgement_of w) (first_told w)) q

-- ---- a volume that is not refused has a header

pub header_fits : (v : Volume) (g : Geometry) → VolumeFits (on_pages v) g → header_size ≤ length v.ram
header_fits v g f = omega (arith, f.long.read.ram_fits, length_pages v.ram, g.power.some)
