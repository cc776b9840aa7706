use native.Mathlib.Omega.{arith}
use lib.ListN.{length}
use Rattle.fields.proofs.Copies.{run_size, runs_whole, runs_in, runs_are}
use Rattle.fields.proofs.wide_run.Goals as goal

pub copy_runs-requires : goal.copy_runs-requires
copy_runs-requires c =
    let n = length c.args.out.now in record {
      size = (
        run_size c.args.bytes.now c.args.s c.args.w c.args.y n c.requires.aligned.0 c.requires.aligned.1,
        c.requires.aligned.2,
        runs_in c.args.bytes.now c.args.s c.args.w c.args.y n c.requires.aligned.0 c.requires.aligned.1 c.requires.aligned.3,
      );
      whole = (
        runs_whole c.args.bytes.now c.args.s c.args.w c.args.y n c.requires.aligned.0 c.requires.aligned.1 c.args.y c.requires.whole.0,
        runs_whole c.args.bytes.now c.args.s c.args.w c.args.y n c.requires.aligned.0 c.requires.aligned.1 n c.requires.whole.1,
      );
    }

pub returns : goal.returns
returns c =
    runs_are c.args.bytes.now c.args.s c.args.w c.args.y (length c.args.out.now) c.requires.aligned.0 c.requires.aligned.1 _
    (λ i. omega (arith, c.type_inv.bytes i)) c.copy_runs.ensures
