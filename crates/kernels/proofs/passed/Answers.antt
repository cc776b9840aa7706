use native.Mathlib.Omega.{arith}
use mathlib.Core.Path.{◌≡◌, refl}
use Prim.Native.Nat.{ℕ, ◌+◌, ◌*◌, ◌/◌, ◌^◌, ◌≤◌, ◌<◌}
use lib.Pow.{pow_mono}
use Rattle.kernels.specs.Rows.{all_in}
use Rattle.kernels.specs.Blocks.{open_lowest}
use Rattle.kernels.proofs.Choices.{more}
use Rattle.kernels.proofs.passed.Goals as goal

-- The words of the blocks, and no more than m filters of them.

-- a width
most : (e w : ℕ) → w ≡ 2 ^ e → e < 7 → w ≤ 64
most e w c l = let t : e ≤ 6 = omega arith in let u : 2 ^ e ≤ 2 ^ 6 = pow_mono t in omega (arith, c, u)

pub more_words-a-requires : goal.more_words-a-requires
more_words-a-requires c =
    let x = c.args in
    let G = c.requires.4 in
    let W = most G.power.0 x.w G.power.2 G.power.1 in
    let e : c.div_ceil-n.result ≡ (x.m * x.w + 511) / 512 = omega (arith, c.div_ceil-n.ensures) in
    let F = more G.power.0 x.w x.from x.m c.div_ceil-n.result G.power.2 c.requires.0 (omega (arith, W)) c.requires.3 c.requires.1 c.requires.2 G.small e in
    record {
      sizes = ((G.power.0, F.low_e, F.high_e, G.power.2), F.word, F.fits, F.n_le, F.q_lt);
      rows = (
        λ y l. record { row_in = λ k h. omega (arith, F.in_block y l, G.blocks_in k h); low_lt = λ k h. omega (arith, G.low_lt k h, W) },
        G.low_lt,
      );
    }

pub returns : goal.returns
returns c =
    let x = c.args in
    let G = c.requires.4 in
    let W = most G.power.0 x.w G.power.2 G.power.1 in
    let e : c.div_ceil-n.result ≡ (x.m * x.w + 511) / 512 = omega (arith, c.div_ceil-n.ensures) in
    let F = more G.power.0 x.w x.from x.m c.div_ceil-n.result G.power.2 c.requires.0 (omega (arith, W)) c.requires.3 c.requires.1 c.requires.2 G.small e in
    open_lowest (all_in x.bytes.now x.rows.now x.w) x.from x.m x.m _ c.more_words-a.result c.lowest.result refl F.enough
    (rw F.first at c.more_words-a.ensures) c.lowest.ensures
