-- The operations of a deletion and of an insertion on a chip. All is planned out of the RAM handed in; each step may as well read the RAM
-- that the steps before it leave, for they write other pages.
use Rattle.std.specs.Prelude.{◌≡◌, ◌⊎◌, Bool, true, false, cond, List, [], ◌++◌, ℕ, ◌+◌, ◌*◌, ◌/◌, ◌≤◌, ◌<◌, length}
use Rattle.std.proofs.Common.{ap, ◌∙◌, inl, inr, arith}
use Rattle.layout.specs.Geometry.{Geometry, page, ra_ram, ka_ram, da_ram, ska_ram, deletion_ska_ram}
use Rattle.layout.specs.Flash.{Flash, Planned, plan_ops}
use Rattle.layout.specs.Hash.{Family}
use Rattle.layout.specs.Items.{Ra, KA, DA, entry_bytes, deletion_bytes, fills, item_plan}
use Rattle.layout.specs.Index.{in_ska, filter_plan, filter_ram}
use Rattle.layout.specs.Keys.{Key}
use Rattle.layout.specs.Calls.{key_index, key_filters, deletion_plan, deletion_ram, new_filter, summarized, insertion_plan, insertion_ram}
use Rattle.layout.specs.Calls.{deletion_index, deletion_filters, new_half}
use Rattle.history.specs.Operations.{record_ram, entry_ram, entered, filtered_ram, insertion_ops}
use Rattle.history.specs.Operations.{number_ram, one_half, both_halves, deletion_ops}
use Rattle.history.proofs.PlanLaws.{ops_both, ops_if, item_ops_lem, filter_ops_lem}
use Rattle.laws.specs.ItemLaws.{length_entry, length_deletion}
use Rattle.history.specs.RamPages.{SamePage}
use Rattle.history.proofs.RamPages.{same_then, put_same, item_plan_same, item_apart, with_filter_same, filter_plan_same}
use Rattle.history.proofs.RamPages.{page_filter_same, filter_apart, filter_ram_apart}
use Rattle.laws.specs.SetLaws.{first_of_pair}
use Rattle.laws.specs.Units.{UnitIs}

module _ (h : Family) (g : Geometry) (d j : ℕ) (ram : List ℕ) where
  -- the first filter of a DA page plans nothing, the second the same out of the RAM with the number in its place
  deletion_steps : 0 < g.u → deletion_plan h g d j ram
      ≡ item_plan g.u (DA g) d (deletion_bytes j) ram
      ++ cond (fills (DA g) d) (filter_plan g.u (deletion_index g) (deletion_filters g d + 1) (both_halves h g d j ram)) []
  unfolding deletion_plan
  deletion_steps pu =
      let kept : SamePage g.u (deletion_ska_ram g.u) ram (number_ram g d j ram)
      = item_apart g.u (DA g) d (deletion_ska_ram g.u) (deletion_bytes j) ram (omega (arith, pu)) (omega arith) (length_deletion j)
      (inr (omega arith)) in
      rw (
        first_of_pair (d / (16 * g.u)),
        filter_plan_same g.u (deletion_index g) (deletion_filters g d + 1) _ _
            (with_filter_same g.u (deletion_index g) (in_ska (deletion_filters g d + 1)) (deletion_ska_ram g.u) (new_half h g d j 1 ram) _ _
            (with_filter_same g.u (deletion_index g) (in_ska (deletion_filters g d)) (deletion_ska_ram g.u) (new_half h g d j 0 ram) _ _
            kept)),
      )

  pub deletion_ram_lem : deletion_ram h g d j ram
      ≡ cond (fills (DA g) d) (filter_ram g.u (deletion_index g) (deletion_filters g d + 1) (both_halves h g d j ram)) (number_ram g d j ram)
  unfolding deletion_ram
  deletion_ram_lem = rw (first_of_pair (d / (16 * g.u)))

  -- a deletion writes DA's page and that of the index over DA
  pub deletion_apart : 0 < g.u → (at : ℕ) → (at + page g.u ≤ da_ram g.u) ⊎ (da_ram g.u + page g.u ≤ at)
      → (at + page g.u ≤ deletion_ska_ram g.u) ⊎ (deletion_ska_ram g.u + page g.u ≤ at)
      → SamePage g.u at ram (deletion_ram h g d j ram)
  deletion_apart pu at o q =
      let A : SamePage g.u at ram (number_ram g d j ram)
      = item_apart g.u (DA g) d at (deletion_bytes j) ram (omega (arith, pu)) (omega arith) (length_deletion j) o in
      let B = filter_apart g.u pu (deletion_index g) at q (in_ska (deletion_filters g d)) (new_half h g d j 0 ram) (number_ram g d j ram)
      (omega arith) in
      let C = filter_apart g.u pu (deletion_index g) at q (in_ska (deletion_filters g d + 1)) (new_half h g d j 1 ram) (one_half h g d j ram)
      (omega arith) in
      let E = filter_ram_apart g.u pu (deletion_index g) at q (deletion_filters g d + 1) (both_halves h g d j ram) in
      rw deletion_ram_lem
      (same_if (fills (DA g) d) _ _ (same_then g.u at ram _ _ A (same_then g.u at _ _ _ B (same_then g.u at _ _ _ C E))) A)
    where
      same_if : (b : Bool) (r s : List ℕ) → SamePage g.u at ram r → SamePage g.u at ram s → SamePage g.u at ram (cond b r s)
      same_if true r s p q = p
      same_if false r s p q = q

  pub deletion_ops_lem : (e : ℕ) (unit : UnitIs g.u e) (C : Flash)
      → plan_ops g.u (deletion_plan h g d j ram) C ≡ deletion_ops h g d j ram C
  deletion_ops_lem e unit C =
      ap (λ (ps : List Planned). plan_ops g.u ps C) (deletion_steps unit.some)
      ∙ ops_both g.u (item_plan g.u (DA g) d (deletion_bytes j) ram) _ _ _ C (item_ops_lem g.u (DA g) d (deletion_bytes j) ram C)
      (ops_if g.u (fills (DA g) d) _ _ _
      (filter_ops_lem g.u e unit (deletion_index g) (deletion_filters g d + 1) (both_halves h g d j ram) _))

module _ (h : Family) (g : Geometry) (n : ℕ) (key : Key) where
  -- the filter of the page that entry n fills, out of RAMs that agree on KA's page; the SKA page with it
  new_filter_same : (r r' : List ℕ) → SamePage g.u (ka_ram g.u) r r' → new_filter h g n key r ≡ new_filter h g n key r'
  new_filter_same r r' p = page_filter_same h g _ _ (put_same g.u (KA g) n (ka_ram g.u) (entry_bytes key n) r r' p)

  summarized_same : (k k' r r' : List ℕ) → SamePage g.u (ka_ram g.u) k k' → SamePage g.u (ska_ram g.u) r r'
      → SamePage g.u (ska_ram g.u) (summarized h g n key k r) (summarized h g n key k' r')
  summarized_same k k' r r' p q =
      rw (new_filter_same k k' p) (with_filter_same g.u (key_index g) (in_ska (key_filters g n)) (ska_ram g.u)
      (new_filter h g n key k') r r' q)

  module _ (bytes : List ℕ) where
    -- RAMs that agree on the three pages that an insertion reads
    pub insertion_same : (r r' : List ℕ) → SamePage g.u (ra_ram g.u) r r' → SamePage g.u (ka_ram g.u) r r'
        → SamePage g.u (ska_ram g.u) r r'
        → insertion_plan h g n key bytes r ≡ insertion_plan h g n key bytes r'
    unfolding insertion_plan
    insertion_same r r' p q s =
        rw (
          item_plan_same g.u (Ra g) n bytes r r' p,
          item_plan_same g.u (KA g) n (entry_bytes key n) r r' q,
          filter_plan_same g.u (key_index g) (key_filters g n) _ _ (summarized_same r r' r r' q s),
        )

    module _ (pu : 0 < g.u) where
      -- a deletion writes other pages than an insertion reads
      pub insertion_after : (d j : ℕ) (ram : List ℕ)
          → insertion_plan h g n key bytes ram ≡ insertion_plan h g n key bytes (deletion_ram h g d j ram)
      insertion_after d j ram =
          insertion_same ram (deletion_ram h g d j ram)
          (deletion_apart h g d j ram pu (ra_ram g.u) (inl (omega arith)) (inl (omega arith)))
          (deletion_apart h g d j ram pu (ka_ram g.u) (inl (omega arith)) (inl (omega arith)))
          (deletion_apart h g d j ram pu (ska_ram g.u) (inr (omega arith)) (inl (omega arith)))

      module _ (size : length bytes ≡ 16) (ram : List ℕ) where
        -- what the entry and the filter read is as it was handed in
        ka_kept : SamePage g.u (ka_ram g.u) ram (record_ram g n bytes ram)
        ka_kept = item_apart g.u (Ra g) n (ka_ram g.u) bytes ram (omega arith) (omega arith) size (inr (omega arith))

        ska_kept : SamePage g.u (ska_ram g.u) ram (entry_ram g n key bytes ram)
        ska_kept =
            same_then g.u (ska_ram g.u) ram (record_ram g n bytes ram) _
            (item_apart g.u (Ra g) n (ska_ram g.u) bytes ram (omega arith) (omega arith) size (inr (omega arith)))
            (item_apart g.u (KA g) n (ska_ram g.u) (entry_bytes key n) (record_ram g n bytes ram) (omega arith) (omega arith)
            (length_entry key n) (inr (omega arith)))

        pub insertion_steps : insertion_plan h g n key bytes ram
            ≡ item_plan g.u (Ra g) n bytes ram
            ++ (item_plan g.u (KA g) n (entry_bytes key n) (record_ram g n bytes ram)
            ++ cond (fills (KA g) n) (filter_plan g.u (key_index g) (key_filters g n) (filtered_ram h g n key bytes ram)) [])
        unfolding insertion_plan
        insertion_steps =
            rw (
              item_plan_same g.u (KA g) n (entry_bytes key n) ram (record_ram g n bytes ram) ka_kept,
              filter_plan_same g.u (key_index g) (key_filters g n) _ _
                  (summarized_same ram (record_ram g n bytes ram) ram (entry_ram g n key bytes ram) ka_kept ska_kept),
            )

        pub insertion_ram_lem : insertion_ram h g n key bytes ram
            ≡ cond (fills (KA g) n) (filter_ram g.u (key_index g) (key_filters g n) (filtered_ram h g n key bytes ram))
            (entry_ram g n key bytes ram)
        unfolding insertion_ram
        insertion_ram_lem = rw (new_filter_same ram (record_ram g n bytes ram) ka_kept)

    module _ (e : ℕ) (unit : UnitIs g.u e) (size : length bytes ≡ 16) where
      pub insertion_ops_lem : (ram : List ℕ) (C : Flash)
          → plan_ops g.u (insertion_plan h g n key bytes ram) C ≡ insertion_ops h g n key bytes ram C
      insertion_ops_lem ram C =
          ap (λ (ps : List Planned). plan_ops g.u ps C) (insertion_steps unit.some size ram)
          ∙ ops_both g.u (item_plan g.u (Ra g) n bytes ram) _ _ _ C (item_ops_lem g.u (Ra g) n bytes ram C)
          (ops_both g.u (item_plan g.u (KA g) n (entry_bytes key n) (record_ram g n bytes ram)) _ _ _ _
          (item_ops_lem g.u (KA g) n (entry_bytes key n) (record_ram g n bytes ram) _)
          (ops_if g.u (fills (KA g) n) _ _ _
          (filter_ops_lem g.u e unit (key_index g) (key_filters g n) (filtered_ram h g n key bytes ram) (entered g n key bytes ram C))))
