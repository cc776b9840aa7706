use Rattle.std.proofs.Common.{ap, ◌∙◌}
use Rattle.layout.specs.Geometry.{sizes_of, default_hash_count}
use Rattle.layout.specs.Hash.{fnv_family}
use Rattle.layout.specs.Items.{Record, record_of}
use Rattle.layout.specs.Calls as calls
use Rattle.layout.specs.Budgets.{call_whole, format_whole}
use Rattle.state.specs.Contract.{volume, effect_of}
use Rattle.script.specs.Values.{answer_of}
use Rattle.script.specs.Script.{perform}
use Rattle.lines.proofs.Answering.{change_reply, lookup_reply}
use Rattle.lines.proofs.perform.Goals as goal

-- Each command is its call's.

pub returns-in-Format : goal.returns-in-Format
unfolding perform
returns-in-Format c =
    let x = c.args in
    let v = volume x.s x.main.now x.spare.now x.ram.now in
    let q = c.in-Format in
    let k = c.format in
    rw (c.in-Some.is, q.is)
    (change_reply c.after_change.result x.s k.result k.new.main k.new.spare k.new.ram
    (format_whole v (sizes_of q.sector_size q.ra_blocks q.da_blocks default_hash_count)) c.after_change.ensures k.ensures)

pub returns-in-Insert : goal.returns-in-Insert
unfolding perform
returns-in-Insert c =
    let x = c.args in
    let v = volume x.s x.main.now x.spare.now x.ram.now in
    let q = c.in-Insert in
    let k = c.insert in
    rw (c.in-Some.is, q.is)
    (change_reply c.after_change-in-Insert.result x.s k.result k.new.main k.new.spare k.new.ram
    (call_whole fnv_family v (calls.insert (record_of q.number q.moves 0 0))) c.after_change-in-Insert.ensures
    (k.ensures ∙ ap (λ (r : Record). effect_of (call_whole fnv_family v (calls.insert r))) c.level.ensures))

pub returns-in-Update : goal.returns-in-Update
unfolding perform
returns-in-Update c =
    let x = c.args in
    let v = volume x.s x.main.now x.spare.now x.ram.now in
    let q = c.in-Update in
    let k = c.update in
    rw (c.in-Some.is, q.is)
    (change_reply c.after_change-in-Update.result x.s k.result k.new.main k.new.spare k.new.ram
    (call_whole fnv_family v (calls.update (record_of q.number q.moves 0 0))) c.after_change-in-Update.ensures
    (k.ensures ∙ ap (λ (r : Record). effect_of (call_whole fnv_family v (calls.update r))) c.level-in-Update.ensures))

pub returns-in-Delete : goal.returns-in-Delete
unfolding perform
returns-in-Delete c =
    let x = c.args in
    let v = volume x.s x.main.now x.spare.now x.ram.now in
    let q = c.in-Delete in
    let k = c.delete in
    rw (c.in-Some.is, q.is)
    (change_reply c.after_change-in-Delete.result x.s k.result k.new.main k.new.spare k.new.ram
    (call_whole fnv_family v (calls.delete q.number)) c.after_change-in-Delete.ensures k.ensures)

pub returns-in-Lookup : goal.returns-in-Lookup
unfolding perform
returns-in-Lookup c =
    let x = c.args in
    rw (c.in-Some.is, c.in-Lookup.is)
    (lookup_reply fnv_family (volume x.s x.main.now x.spare.now x.ram.now) c.in-Lookup.number (answer_of c.lookup.result) c.lookup.ensures)

pub returns-in_default : goal.returns-in_default
unfolding perform
returns-in_default c = rw c.in_default.is
