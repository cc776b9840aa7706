use Rattle.geometry.specs.Shape.{shape}
use Rattle.changes.specs.Tasks.{task_on}
use Rattle.changes.proofs.CarryLaws.{ram_appended}
use Rattle.changes.proofs.append.Goals as goal

pub returns : goal.returns
returns c =
    let x = c.args in
    λ main spare.
    ram_appended x.t.g (task_on x.t main spare x.ram.now) x.t.edit c.slots.result c.new_bytes-new.result
    (record {
      pos = x.t.g.power.some;
      long = c.requires.room.1;
      slots_are = c.slots.ensures;
      new_is = c.new_bytes-new.ensures;
    })
    c.requires.fills_none _ c.append.ensures
