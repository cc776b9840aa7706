-- Allowed sizes: the unit S/16 is a power of two up to 32.
use Rattle.std.specs.Prelude.{◌≡◌, refl, true, ◌&&◌, ℕ, ◌*◌, ◌^◌, ◌≤◌, ◌<◌, leb}
use Rattle.std.proofs.Math.Bool.{and-eq-true_iff}
use Rattle.std.proofs.Common.{mul-le-mul_right, arith, leb-true}
use Rattle.memory.specs.Lists.{tabulate, tabulate_from}
use Rattle.memory.specs.Ranges.{memb, memb_tabulate_all}
use Rattle.layout.specs.Geometry.{Sizes, geometry, unit_of, sector_sizes, allowed, record_capacity}
use Rattle.laws.specs.Units.{UnitIs, unit_is}

pub record SizesSound (sizes : Sizes) : Type 0 where
  pub e : ℕ
  pub e_lt : e < 6
  pub size : sizes.sector_size ≡ 16 * 2 ^ e
  pub R-pos : 1 ≤ sizes.ra_blocks
  pub R-le : sizes.ra_blocks ≤ 4096
  pub D-pos : 1 ≤ sizes.da_blocks
  pub D-le : sizes.da_blocks ≤ 4096
  pub k_pos : 1 ≤ sizes.hash_count
  pub k_le : sizes.hash_count ≤ 8

-- the table's sizes are 16 times the first six powers of two
table_is : sector_sizes ≡ tabulate 6 (λ e. 16 * 2 ^ e)
unfolding tabulate tabulate_from
table_is = refl

abbrev SizeIs : ℕ → Type 0
SizeIs bytes = (e : ℕ) × (e < 6) × (bytes ≡ 16 * 2 ^ e)

pub sound : (sizes : Sizes) → allowed sizes ≡ true → SizesSound sizes
unfolding allowed
sound sizes q =
    let p = (and-eq-true_iff (memb sizes.sector_size sector_sizes) _).0 q in
    let m : memb sizes.sector_size sector_sizes ≡ true = p.0 in
    let s : SizeIs sizes.sector_size
    = memb_tabulate_all SizeIs 6 (λ e. 16 * 2 ^ e) (λ e l. (e, l, refl)) sizes.sector_size (rw table_is at m) in
    let r = (and-eq-true_iff ((leb 1 sizes.ra_blocks) && (leb sizes.ra_blocks 4096)) _).0 p.1 in
    let rR = (and-eq-true_iff (leb 1 sizes.ra_blocks) _).0 r.0 in
    let t = (and-eq-true_iff ((leb 1 sizes.da_blocks) && (leb sizes.da_blocks 4096)) _).0 r.1 in
    let rD = (and-eq-true_iff (leb 1 sizes.da_blocks) _).0 t.0 in
    let rk = (and-eq-true_iff (leb 1 sizes.hash_count) _).0 t.1 in
    record {
      e = s.0;
      e_lt = s.1;
      size = s.2;
      R-pos = leb-true 1 sizes.ra_blocks rR.0;
      R-le = leb-true sizes.ra_blocks 4096 rR.1;
      D-pos = leb-true 1 sizes.da_blocks rD.0;
      D-le = leb-true sizes.da_blocks 4096 rD.1;
      k_pos = leb-true 1 sizes.hash_count rk.0;
      k_le = leb-true sizes.hash_count 8 rk.1;
    }

module _ (sizes : Sizes) (ok : SizesSound sizes) where
  pub unit : UnitIs (unit_of sizes) ok.e
  unit = unit_is (unit_of sizes) ok.e ok.e_lt (omega (arith, ok.size))

  pub pu : 0 < unit_of sizes
  pu = unit.some

  pub u_le : unit_of sizes ≤ 32
  u_le = unit.most

  -- every record number is a number of three bytes
  pub few_records : record_capacity (geometry sizes) < 2 ^ 24
  few_records =
      let a : sizes.ra_blocks * unit_of sizes ≤ 4096 * unit_of sizes = mul-le-mul_right (unit_of sizes) ok.R-le in
      omega (arith, a, u_le)
