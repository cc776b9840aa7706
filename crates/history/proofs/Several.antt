-- Calls made of several: a list of calls in turn, ended by the first that is refused.
use Rattle.std.specs.Prelude.{◌≡◌, refl, true, false, List, [], ◌∷◌, ◌++◌, length, take}
use Rattle.std.proofs.Common.{◌∙◌, true≢false}
use Rattle.layout.specs.Geometry.{Sizes, Geometry, geometry}
use Rattle.layout.specs.Hash.{Family}
use Rattle.layout.specs.Calls.{Volume, Call, Outcome, accepted, hit, miss, refused, call}
use Rattle.layout.specs.FiniteMap.{Map, accepts, map_of}
use Rattle.history.specs.Runs.{KeyWords, after, reply_of}
use Rattle.history.proofs.Every.{refusal_keeps}
use Rattle.history.specs.Reached.{Reached, map_after}
use Rattle.history.proofs.Reached.{reach_call, reach_says}
use Rattle.history.specs.Several.{call_all, AllTaken}

pub taken_append : (g : Geometry) (m : Map) (cs ds : List Call) → AllTaken g m cs → AllTaken g (map_after g m cs) ds
    → AllTaken g m (cs ++ ds)
taken_append g m [] ds A B = B
taken_append g m (c ∷ cs) ds A B = (A.0, taken_append g (map_of g m c).next cs ds A.1 B)

pub reply_accepted : (o : Outcome) → reply_of o ≡ accepts → o ≡ accepted
reply_accepted accepted e = refl
reply_accepted (hit place bytes) e = absurd (let z : true ≡ false = cc in true≢false z)
reply_accepted miss e = absurd (let z : true ≡ false = cc in true≢false z)
reply_accepted (refused i) e = absurd (let z : true ≡ false = cc in true≢false z)

-- all is done, and the volume is the one after the calls
pub all_done : (h : Family) (sizes : Sizes) (v : Volume) (m : Map) (cs : List Call) → Reached h sizes v m → KeyWords cs
    → AllTaken (geometry sizes) m cs
    → ((call_all h v cs).outcome ≡ accepted) × ((call_all h v cs).volume ≡ after h v cs) × ((call_all h v cs).done ≡ length cs)
all_done h sizes v m [] X w A = (refl, refl, refl)
all_done h sizes v m (c ∷ cs) X w A =
    let o : (call h v c).outcome ≡ accepted = reply_accepted _ (reach_says h sizes v m c X w.0 ∙ A.0) in
    let T = all_done h sizes (call h v c).volume (map_of (geometry sizes) m c).next cs (reach_call h sizes v m c X w.0) w.1 A.1 in
    rw o (T.0, T.1, rw T.2)

-- wherever it stops, what was done is a beginning of the list, and nothing else was
pub done_take : (h : Family) (v : Volume) (cs : List Call) → (call_all h v cs).volume ≡ after h v (take (call_all h v cs).done cs)
done_take h v [] = refl
done_take h v (c ∷ cs) = go (done_take h (call h v c).volume cs) (call h v c).outcome refl
  where
    go : (call_all h (call h v c).volume cs).volume ≡ after h (call h v c).volume (take (call_all h (call h v c).volume cs).done cs)
        → (o : Outcome) → (call h v c).outcome ≡ o → (call_all h v (c ∷ cs)).volume ≡ after h v (take (call_all h v (c ∷ cs)).done (c ∷ cs))
    go ih accepted e = rw e ih
    go ih (hit place bytes) e = rw e ih
    go ih miss e = rw e ih
    go ih (refused i) e = rw e (refusal_keeps h v c i e)
