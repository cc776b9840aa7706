use mathlib.Core.Path.{sym, ap, ◌∙◌}
use Rattle.std.proofs.Common.{rules}
use Rattle.layout.specs.Hash.{fnv_family}
use Rattle.state.specs.Contract.{volume}
use Rattle.load.specs.Load.{load_lines_by, row_whole}
use Rattle.load.proofs.Steps.{load_judged, load_good, body_none, body_some, none_loaded}
use Rattle.load.proofs.load.Goals as goal

-- 1, 2 and 10, a tab of no bytes, the header, then the rows.

pub returns-in-Err : goal.returns-in-Err
returns-in-Err c =
    let x = c.args in
    rw c.not_loaded.ensures
    (sym (load_judged fnv_family (volume x.s x.main.now x.spare.now x.ram.now) x.tab.now c.in-Err.i (sym c.in-Err.ensures.equal)))

-- none of 1, 2 and 10 applies
pub returns-then-is_empty : goal.returns-then-is_empty
returns-then-is_empty c =
    let x = c.args in
    let v = volume x.s x.main.now x.spare.now x.ram.now in
    rw c.not_loaded-then-is_empty.ensures
    (sym (load_good fnv_family v x.tab.now c.in-Ok.g (sym c.in-Ok.ensures.equal)
    ∙ ap (load_lines_by (row_whole fnv_family) v) (body_none x.tab.now (search rules))
    ∙ none_loaded (row_whole fnv_family) v))

pub returns-in-None : goal.returns-in-None
returns-in-None c =
    let x = c.args in
    let v = volume x.s x.main.now x.spare.now x.ram.now in
    rw c.not_loaded-in-None.ensures
    (sym (load_good fnv_family v x.tab.now c.in-Ok.g (sym c.in-Ok.ensures.equal)
    ∙ ap (load_lines_by (row_whole fnv_family) v) (body_some x.tab.now (search rules) ∙ sym c.in-None.ensures)))

pub returns-in-Some : goal.returns-in-Some
returns-in-Some c =
    let x = c.args in
    let v = volume x.s x.main.now x.spare.now x.ram.now in
    let s = c.in-Some in
    c.load_rows.ensures
    ∙ sym (load_good fnv_family v x.tab.now c.in-Ok.g (sym c.in-Ok.ensures.equal)
    ∙ ap (load_lines_by (row_whole fnv_family) v) (body_some x.tab.now (search rules) ∙ sym c.in-Some.ensures))
