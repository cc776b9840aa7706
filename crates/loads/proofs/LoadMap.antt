-- A load of a volume that calls reach answers as the finite map does, row by row. Document 02, request 1.
use Rattle.std.specs.Prelude.{◌≡◌, Bool, true, false, cond, ℕ, suc, length, leb}
use Rattle.std.proofs.Math.Path.{refl, ap, subst}
use Rattle.std.proofs.Common.{sym, ◌∙◌, inl, inr}
use Rattle.std.proofs.Math.Option
use Rattle.std.proofs.Math.Option.{Option, none, some}
use mathlib.Core.List.{List, [], ◌∷◌}
use Rattle.layout.specs.Geometry.{Sizes, Geometry, geometry, allowed, record_capacity, deletion_capacity}
use Rattle.layout.specs.Hash.{Family}
use Rattle.layout.specs.Search.{found}
use Rattle.layout.specs.Items.{Record}
use Rattle.layout.specs.Keys.{Key, KeyOk}
use Rattle.layout.specs.Calls.{Volume, Call, insert, update, bad_state, too_short, search, format, call}
use Rattle.layout.specs.Calls.{Outcome, accepted, hit, miss, refused}
use Rattle.layout.specs.Several.{Several, go_on, is_live, put_call}
use Rattle.layout.specs.FiniteMap.{Level, Map, empty_map, find, Reply, accepts, hits, misses, refuses, Step, map_of}
use Rattle.laws.specs.Sound.{sound}
use Rattle.history.specs.Image.{History}
use Rattle.history.specs.Live.{find_live, level_at}
use Rattle.history.specs.Runs.{reply_of}
use Rattle.history.proofs.Volumes as volumes
use Rattle.history.specs.Reached.{map_after, Reached}
use Rattle.history.proofs.Reached.{reach_call, reach_says, reach_format}
use Rattle.tab.specs.Grammar.{Row, Reading}
use Rattle.tab.specs.Reader.{body, rows_of}
use Rattle.tab.proofs.Agree.{reading_only}
use Rattle.load.specs.Load.{row_key, row_record, end_of, row_call, load_rows_by, load_rows, load_lines, load}
use Rattle.load.specs.LoadLaws.{Judged}
use Rattle.loads.specs.LoadCalls as calls
use Rattle.loads.specs.LoadCalls.{row_calls, lines_calls, tab_calls}
use Rattle.loads.proofs.LoadCalls.{RowWords, row_word, read_words}
use Rattle.loads.specs.LoadMap.{call_if, map_call, MapLoaded, map_on, map_row, map_load, end_says, map_lines, map_tab, LoadReply}

pub map_reading : (g : Geometry) (m : Map) (text : List ℕ) (rows : List Row) (rest : List ℕ) → Reading text rows rest
    → map_tab g m text ≡ map_load g m rows (end_says rest)
map_reading g m text rows rest R = let O = reading_only text rows rest R in rw (O.body_is, O.rows_are)

either_reply : (t : Bool) (s u : Step) → LoadReply s.says → LoadReply u.says → LoadReply (cond t s u).says
either_reply true s u a b = a
either_reply false s u a b = b

-- an insert of a key that is not in the map, an update of one that is
found_reply : (g : Geometry) (m : Map) (r : Record) (o : Option Level) → find m.levels r.key ≡ o
    → LoadReply (map_of g m (call_if o r)).says
found_reply g m r none e = rw e (either_reply (leb (record_capacity g) m.n) _ _ (inl refl) tt)
found_reply g m r (some l) e =
    rw e (either_reply (leb (record_capacity g) m.n) _ _ (inl refl)
    (either_reply (leb (deletion_capacity g) m.d) _ _ (inr (inl refl)) tt))

row_reply : (g : Geometry) (m : Map) (r : Row) → LoadReply (map_row g m r).says
unfolding map_row
row_reply g m r = found_reply g m (row_record r) (find m.levels (row_key r)) refl

on_reply : (a : Reply) (m : Map) (t : MapLoaded) → LoadReply a → LoadReply t.says → LoadReply (map_on a m t).says
on_reply accepts m t p q = q
on_reply (hits bytes) m t p q = q
on_reply misses m t p q = q
on_reply (refuses i) m t p q = p

rows_reply : (g : Geometry) (m : Map) (rs : List Row) (end : Reply) → LoadReply end → LoadReply (map_load g m rs end).says
unfolding map_load
rows_reply g m [] end p = p
rows_reply g m (r ∷ rs) end p =
    on_reply (map_row g m r).says (map_row g m r).next (map_load g (map_row g m r).next rs end) (row_reply g m r)
    (rows_reply g (map_row g m r).next rs end p)

end_reply : (rest : List ℕ) → LoadReply (end_says rest)
end_reply [] = tt
end_reply (c ∷ cs) = inr (inr refl)

lines_reply : (g : Geometry) (m : Map) (o : Option (List ℕ)) → LoadReply (map_lines g m o).says
lines_reply g m none = inr (inr refl)
lines_reply g m (some lines) = rows_reply g m (rows_of lines).rows (end_says (rows_of lines).rest) (end_reply (rows_of lines).rest)

pub map_replies : (g : Geometry) (m : Map) (text : List ℕ) → LoadReply (map_tab g m text).says
map_replies g m text = lines_reply g m (body text)

end_says_lem : (rest : List ℕ) → reply_of (end_of rest) ≡ end_says rest
end_says_lem [] = refl
end_says_lem (c ∷ cs) = refl

-- ---- the load and the map's

module _ (h : Family) (sizes : Sizes) where
  abbrev g : Geometry
  g = geometry sizes

  -- the same answer, the same number of rows, and a volume that has the map's levels
  pub record LoadAgrees (s : Several) (t : MapLoaded) : Type 0 where
    pub says : reply_of s.outcome ≡ t.says
    pub done : s.done ≡ t.done
    pub reached : Reached h sizes s.volume t.map

  -- a level is live if its key is in the map
  by_live : (H : History) (r : Record) (o : Option ℕ)
      → cond (is_live (Option.map found o)) (update r) (insert r) ≡ call_if (Option.map (level_at H) o) r
  by_live H r none = refl
  by_live H r (some j) = refl

  stops : (v : Volume) (m : Map) (k : Key) (X : Reached h sizes v m)
      → (search h (geometry v.state.sizes) v k).stop ≡ Option.map found (find_live X.H k)
  stops v m k X =
      ap (λ (x : Volume). (search h (geometry x.state.sizes) x k).stop) X.is
      ∙ volumes.search_is h sizes (sound sizes X.can) X.H v.flash v.ram X.holds k

  pub row_call_is : (v : Volume) (m : Map) (r : Row) → Reached h sizes v m → row_call h v r ≡ map_call m r
  unfolding put_call
  row_call_is v m r X =
      rw (stops v m (row_key r) X, X.live.same (row_key r)) (by_live X.H (row_record r) (find_live X.H (row_key r)))

  -- a row's call answers as the map does, and reaches the map's next
  row_says : (v : Volume) (m : Map) (r : Row) → Reached h sizes v m → KeyOk (row_key r)
      → reply_of (call h v (row_call h v r)).outcome ≡ (map_row g m r).says
  unfolding map_row
  row_says v m r X w =
      reach_says h sizes v m (row_call h v r) X (row_word h v r w) ∙ ap (λ (c : Call). (map_of g m c).says) (row_call_is v m r X)

  row_reached : (v : Volume) (m : Map) (r : Row) → Reached h sizes v m → KeyOk (row_key r)
      → Reached h sizes (call h v (row_call h v r)).volume (map_row g m r).next
  unfolding map_row
  row_reached v m r X w =
      subst (λ (c : Call). Reached h sizes (call h v (row_call h v r)).volume (map_of g m c).next) (row_call_is v m r X)
      (reach_call h sizes v m (row_call h v r) X (row_word h v r w))

  on_agrees : (o : Outcome) (w : Volume) (n : Map) (s : Several) (t : MapLoaded) → Reached h sizes w n → LoadAgrees s t
      → LoadAgrees (go_on o w s) (map_on (reply_of o) n t)
  on_agrees accepted w n s t X A = record { says = A.says; done = ap suc A.done; reached = A.reached }
  on_agrees (hit place bytes) w n s t X A = record { says = A.says; done = ap suc A.done; reached = A.reached }
  on_agrees miss w n s t X A = record { says = A.says; done = ap suc A.done; reached = A.reached }
  on_agrees (refused i) w n s t X A = record { says = refl; done = refl; reached = X }

  goes_agree : (o : Outcome) (a : Reply) (w : Volume) (n : Map) (s : Several) (t : MapLoaded) → reply_of o ≡ a → Reached h sizes w n
      → LoadAgrees s t → LoadAgrees (go_on o w s) (map_on a n t)
  goes_agree o a w n s t e X A = subst (λ (x : Reply). LoadAgrees (go_on o w s) (map_on x n t)) e (on_agrees o w n s t X A)

  pub rows_agree : (v : Volume) (m : Map) (rs : List Row) (end : Outcome) → Reached h sizes v m → RowWords h rs
      → LoadAgrees (load_rows h v rs end) (map_load g m rs (reply_of end))
  unfolding load_rows_by map_load
  rows_agree v m [] end X w = record { says = refl; done = refl; reached = X }
  rows_agree v m (r ∷ rs) end X w =
      goes_agree (call h v (row_call h v r)).outcome (map_row g m r).says (call h v (row_call h v r)).volume (map_row g m r).next
      (load_rows h (call h v (row_call h v r)).volume rs end) (map_load g (map_row g m r).next rs (reply_of end))
      (row_says v m r X w.0) (row_reached v m r X w.0)
      (rows_agree (call h v (row_call h v r)).volume (map_row g m r).next rs end (row_reached v m r X w.0) w.1)

  lines_agree : (v : Volume) (m : Map) (o : Option (List ℕ)) → Reached h sizes v m → LoadAgrees (load_lines h v o) (map_lines g m o)
  lines_agree v m none X = record { says = refl; done = refl; reached = X }
  lines_agree v m (some lines) X =
      subst (λ (x : Reply). LoadAgrees (load_lines h v (some lines)) (map_load g m (rows_of lines).rows x)) (end_says_lem (rows_of lines).rest)
      (rows_agree v m (rows_of lines).rows (end_of (rows_of lines).rest) X (read_words h (length lines) lines))

  -- a volume that calls reach is refused by neither 1 nor 2
  pub reached_judged : (v : Volume) (m : Map) → Reached h sizes v m → Judged v
  reached_judged v m X = (
    ap (λ (x : Volume). bad_state x.state) X.is
        ∙ volumes.state_good h sizes (sound sizes X.can) X.H v.flash v.ram X.holds X.can,
    ap (λ (x : Volume). too_short (geometry x.state.sizes) v.flash v.ram) X.is
        ∙ volumes.long_enough h sizes (sound sizes X.can) X.H v.flash v.ram X.holds,
  )

  -- "earlier rows remain, and the answer gives their number and the refusal": those of the map
  pub load_agrees : (v : Volume) (m : Map) (text : List ℕ) → Reached h sizes v m → LoadAgrees (load h v text) (map_tab g m text)
  unfolding load
  load_agrees v m text X = let J = reached_judged v m X in rw (J.0, J.1) (lines_agree v m (body text) X)

  -- "The rows loaded are to be exactly those a reading by the RFC's grammar, so widened, gives up to that end"
  pub load_agrees_reading : (v : Volume) (m : Map) (text : List ℕ) (rows : List Row) (rest : List ℕ) → Reached h sizes v m
      → Reading text rows rest → LoadAgrees (load h v text) (map_load g m rows (end_says rest))
  load_agrees_reading v m text rows rest X R =
      subst (λ (t : MapLoaded). LoadAgrees (load h v text) t) (map_reading g m text rows rest R) (load_agrees v m text X)

  -- a load of such a volume is accepted, or refused by 5, 6 or 9: never by 1, 2, 3, 4, 7 or 8
  pub load_replies : (v : Volume) (m : Map) (text : List ℕ) → Reached h sizes v m → LoadReply (reply_of (load h v text).outcome)
  load_replies v m text X = subst LoadReply (sym (load_agrees v m text X).says) (map_replies g m text)

  -- and so is one of a volume just formatted
  pub format_load_agrees : (v : Volume) (text : List ℕ) → allowed sizes ≡ true → too_short g v.flash v.ram ≡ false
      → LoadAgrees (load h (format v sizes).volume text) (map_tab g empty_map text)
  format_load_agrees v text can long = load_agrees (format v sizes).volume empty_map text (reach_format h sizes v can long)

  -- ---- the map after a load is the map after its calls

  on_map : (o : Outcome) (m n : Map) (t : MapLoaded) (c : Call) (cs : List Call) → n ≡ (map_of g m c).next → t.map ≡ map_after g n cs
      → (map_on (reply_of o) n t).map ≡ map_after g m (calls.accepts o c cs)
  on_map accepted m n t c cs p q = q ∙ ap (λ (x : Map). map_after g x cs) p
  on_map (hit place bytes) m n t c cs p q = q ∙ ap (λ (x : Map). map_after g x cs) p
  on_map miss m n t c cs p q = q ∙ ap (λ (x : Map). map_after g x cs) p
  on_map (refused i) m n t c cs p q = p

  rows_map : (v : Volume) (m : Map) (rs : List Row) (end : Reply) → Reached h sizes v m → RowWords h rs
      → (map_load g m rs end).map ≡ map_after g m (row_calls h v rs)
  unfolding map_load row_calls map_row
  rows_map v m [] end X w = refl
  rows_map v m (r ∷ rs) end X w =
      let c : Call = row_call h v r in
      let next : Map = (map_row g m r).next in
      rw (← (row_says v m r X w.0))
      (on_map (call h v c).outcome m next (map_load g next rs end) c (row_calls h (call h v c).volume rs)
      (ap (λ (x : Call). (map_of g m x).next) (sym (row_call_is v m r X)))
      (rows_map (call h v c).volume next rs end (row_reached v m r X w.0) w.1))

  lines_map : (v : Volume) (m : Map) (o : Option (List ℕ)) → Reached h sizes v m → (map_lines g m o).map ≡ map_after g m (lines_calls h v o)
  lines_map v m none X = refl
  lines_map v m (some lines) X =
      rows_map v m (rows_of lines).rows (end_says (rows_of lines).rest) X (read_words h (length lines) lines)

  pub tab_map : (v : Volume) (m : Map) (text : List ℕ) → Reached h sizes v m → (map_tab g m text).map ≡ map_after g m (tab_calls h v text)
  tab_map v m text X = lines_map v m (body text) X
