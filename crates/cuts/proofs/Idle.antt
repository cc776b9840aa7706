-- A restart that finds no pending call changes nothing and returns the header's state.
use Rattle.std.specs.Prelude.{◌≡◌, refl, false, cond, List, [], ◌++◌, ℕ, ◌*◌, ◌^◌, ◌≤◌, ◌<◌, length, ltb}
use Rattle.std.proofs.Common.{ap, ◌∙◌, mul-le-mul_right, arith, le-ltb}
use Rattle.memory.specs.Booleans.{cond_neg}
use Rattle.layout.specs.Geometry.{State, geometry, Sizes, unit_of}
use Rattle.layout.specs.Flash.{Flash}
use Rattle.layout.specs.Hash.{Family}
use Rattle.layout.specs.Calls.{Volume, accepted, Result, refuse, bad_state, too_short}
use Rattle.history.specs.Image.{History}
use Rattle.laws.specs.Sound.{SizesSound}
use Rattle.laws.specs.Sound as units
use Rattle.history.specs.Volumes.{Holds, volume_of}
use Rattle.layout.specs.Header.{pages, no_intent, header_bytes, Pending, nothing, pending_in}
use Rattle.layout.specs.Budgets.{resumed, restart_for}
use Rattle.cuts.specs.Headers.{StateFits}
use Rattle.cuts.proofs.Headers.{long_ram, header_size_lem, pages_stored, state_stored, idle_stored}

-- the state of a volume that holds the image of a history fits into a header
pub fits_of : (h : Family) (sizes : Sizes) (ok : SizesSound sizes) (H : History) (C : Flash) (ram : List ℕ) → Holds h sizes H C ram
    → StateFits (volume_of sizes H C ram).state
fits_of h sizes ok H C ram I =
    let a : sizes.ra_blocks * (unit_of sizes) ≤ 4096 * (unit_of sizes) = mul-le-mul_right (unit_of sizes) ok.R-le in
    let u_le = units.u_le sizes ok in
    let n : length H.records < 2 ^ 32 = omega (arith, I.n_cap, u_le, a) in
    let S-is : sizes.sector_size ≡ 16 * (unit_of sizes) = omega (arith, ok.size) in
    record {
      S-fits = omega (arith, u_le, S-is);
      R-fits = omega (arith, ok.R-le);
      D-fits = omega (arith, ok.D-le);
      K-fits = omega (arith, ok.k_le);
      n_fits = n;
      d_fits = omega (arith, n, I.d_le);
    }

-- a restart on a RAM that is long enough goes on with the call that its header tells
pub restart_resumes : (h : Family) (b : ℕ) (v : Volume) (p : Pending) → 64 ≤ length v.ram → pending_in v.ram ≡ p
    → restart_for h b v ≡ resumed h b v p
unfolding restart_for
restart_resumes h b v p long e = cond_neg (ltb (length v.ram) 64) _ _ (le-ltb (length v.ram) 64 long) ∙ ap (resumed h b v) e

module _ (h : Family) (st t : State) (X : Flash) (p : List ℕ) (fits : StateFits t) (good : bad_state t ≡ false)
    (long : too_short (geometry t.sizes) X p ≡ false) where
  abbrev stored : List ℕ
  stored = p ++ header_bytes t no_intent

  abbrev m : Volume
  m = record { state = st; flash = X; ram = stored }

  -- the answer, by the header's state and the pages
  abbrev by : State → List ℕ → Result
  by t' p' =
      cond (bad_state t') (refuse m 1)
      (cond (too_short (geometry t'.sizes) X p') (refuse m 2)
      (record { outcome = accepted; count = 0; da_pages = 0; volume = record { state = t'; flash = X; ram = stored }; ops = [] }))

  by_is : by t p ≡ record { outcome = accepted; count = 0; da_pages = 0; volume = record { state = t; flash = X; ram = stored }; ops = [] }
  by_is = rw (good, long)

  pub idle_restart : (b : ℕ) → restart_for h b m
      ≡ record { outcome = accepted; count = 0; da_pages = 0; volume = record { state = t; flash = X; ram = stored }; ops = [] }
  idle_restart b =
      let enough : 64 ≤ length stored = long_ram p (header_bytes t no_intent) (header_size_lem p t no_intent refl) in
      restart_resumes h b m nothing enough (idle_stored p t)
      ∙ ap (λ (t' : State). by t' (pages stored)) (state_stored p t no_intent refl fits) ∙ ap (by t) (pages_stored p t no_intent refl) ∙ by_is
