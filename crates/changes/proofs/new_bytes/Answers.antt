use Rattle.std.proofs.Common.{◌≡◌, Some, None, sym, ap, ◌∙◌}
use Rattle.changes.proofs.NewLaws.{with_deletion, written_is}
use Rattle.changes.proofs.new_bytes.Goals.{in-Some, in_default}
use Rattle.changes.proofs.new_bytes.Goals as goal

pub returns-in-Some-inserts : goal.returns-in-Some-inserts
returns-in-Some-inserts c =
    let t = c.args.t in
    let b : c.match-deletes.b ≡ with_deletion c.deletes.result = elim c.match-deletes.branch [
      | in-Some w ↦ w.b-is ∙ w.put32.ensures ∙ ap with_deletion (sym w.in-Some.is)
      | in_default w ↦ w.b-is ∙ ap with_deletion (sym w.in_default.is)
    ] in
    c.put_words.ensures
    ∙ written_is t.state.records t.state.deletions t.edit _ (Some c.in-Some-inserts.record) _ c.deletes.ensures
    (sym c.in-Some-inserts.is ∙ c.inserts.ensures) b

pub returns-in_default-inserts : goal.returns-in_default-inserts
returns-in_default-inserts c =
    let t = c.args.t in
    let b : c.match-deletes.b ≡ with_deletion c.deletes.result = elim c.match-deletes.branch [
      | in-Some w ↦ w.b-is ∙ w.put32.ensures ∙ ap with_deletion (sym w.in-Some.is)
      | in_default w ↦ w.b-is ∙ ap with_deletion (sym w.in_default.is)
    ] in
    written_is t.state.records t.state.deletions t.edit _ None _ c.deletes.ensures (sym c.in_default-inserts.is ∙ c.inserts.ensures) b
