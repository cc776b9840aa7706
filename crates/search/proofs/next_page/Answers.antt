use native.Mathlib.Omega.{arith}
use mathlib.Core.Path.{◌≡◌, refl, sym, ap, ◌∙◌}
use mathlib.Core.Bool.{Bool, ◌&&◌}
use mathlib.Core.List.{List}
use Prim.Native.Nat.{ℕ, suc, ◌+◌, ◌-◌, ◌<◌}
use borrow.Author.Tests.{le-ltb}
use Rattle.memory.specs.Bits.{bit, bit_zero}
use Rattle.layout.specs.Geometry.{entries_per_page}
use Rattle.layout.specs.Keys.{Key}
use Rattle.laws.specs.TopBits.{top_left}
use Rattle.geometry.specs.declared.volume.Geometry.{Geometry}
use Rattle.keys.specs.Key.{key_is}
use Rattle.std.specs.Prelude.{Some, None}
use Rattle.items.specs.Scans.{last_entry, place_of, place_some, place_none}
use Rattle.search.proofs.Places.{Place}
use Rattle.search.specs.Tries.{page_start, entry_of}
use Rattle.search.proofs.Tries.{vain_first, vain_few, vain_next, vain_newest, vain_opened, some_newest, some_opened}
use Rattle.search.proofs.next_page.Goals as goal

-- The pages above the highest bit left were opened in vain.

pub loop-f-init : goal.loop-f-init
loop-f-init c = vain_first c.args.bits (entry_of c.args.g (key_is c.args.key) c.args.from c.args.main.now)

-- ---- the page of the highest bit

pub overflow_add-opened : goal.overflow_add-opened
overflow_add-opened c = omega (arith, vain_few c.loop-f.invariant)

module _ (g : Geometry) (key : Key) (from : ℕ) (main : List ℕ) (f : ℕ) {r : Place} {start : ℕ} (start_is : start ≡ page_start g (from + f))
    (is : r ≡ place_of (last_entry main start (entries_per_page g.chip.unit) key)) where
  -- its newest entry
  there : r ≡ place_of (entry_of g key from main f)
  there = rw start_is at is

  has_one : (e : ℕ) → r ≡ Some e → entry_of g key from main f ≡ suc e
  has_one e s = place_some _ e (rw s at there)

  has_none : r ≡ None → entry_of g key from main f ≡ 0
  has_none s = place_none _ (rw s at there)

pub returns-in-Some-find_in_page : goal.returns-in-Some-find_in_page
returns-in-Some-find_in_page c =
    let x = c.args in
    let I = c.loop-f.invariant in
    let f = c.in-Some.f in
    let top = c.in-Some.ensures.steps.0 in
    let k = c.in-Some-find_in_page.entry in
    let e = has_one x.g (key_is x.key) x.from x.main.now f c.page_start.ensures c.find_in_page.ensures k c.in-Some-find_in_page.is in
    let h : 0 < entry_of x.g (key_is x.key) x.from x.main.now f = omega (arith, e) in
    let n = some_newest I f top h in
    let s : suc f - 1 ≡ f = omega arith in
    let z : k ≡ entry_of x.g (key_is x.key) x.from x.main.now f - 1 = omega (arith, e) in
    record {
      pages = record {
        left = rw (n, s) (top_left I.shown f top c.next.new.self.left c.in-Some.ensures.steps.1).shown;
        opened = some_opened I f top h;
      };
      none = λ z. absurd (omega (arith, n));
      hit = rw n (ap (λ (y : ℕ). Some (record { page = f; entry = y })) z);
    }

pub loop-f-preserved : goal.loop-f-preserved
loop-f-preserved c =
    let x = c.args in
    vain_next c.loop-f.invariant c.in-Some.f c.in-Some.ensures.steps.0 c.next.new.self.left c.in-Some.ensures.steps.1
    (has_none x.g (key_is x.key) x.from x.main.now c.in-Some.f c.page_start.ensures c.find_in_page.ensures c.in_default-find_in_page.is)

-- none is left
pub returns : goal.returns
returns c =
    let I = c.loop-f.invariant in
    let z = c.in_default.ensures.steps.0 in
    let n = vain_newest I z in
    record {
      pages = record {
        left = λ i k. rw n (bit_zero i ∙ sym (ap (λ (t : Bool). t && bit c.args.bits i) (le-ltb i 0 (omega arith))));
        opened = vain_opened I z;
      };
      none = λ h. refl;
      hit = rw n refl;
    }
