-- A call on a volume with other marks, whatever the bytes: where those inside the volume are as fresh, it is the same call. A format on
-- any other marks is the same format.
use Rattle.std.specs.Prelude.{List, ℕ}
use Rattle.layout.specs.Geometry.{Sizes, unit_of}
use Rattle.layout.specs.Flash.{flash_of, apply_all}
use Rattle.layout.specs.Calls.{Volume, Result}

-- a result r of a format or a call on v, with its operations done on another spare area
abbrev pub redone : Sizes → List ℕ → Volume → Result → Result
redone sizes spare v r =
    record {
      outcome = r.outcome;
      count = r.count;
      da_pages = r.da_pages;
      volume = record {
        state = r.volume.state;
        flash = apply_all (unit_of sizes) r.ops (flash_of v.flash.main spare);
        ram = r.volume.ram;
      };
      ops = r.ops;
    }
