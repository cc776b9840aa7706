use mathlib.Core.Path.{sym, ap, ◌∙◌}
use Rattle.std.specs.Prelude.{Ok}
use Rattle.header.proofs.Laws.{pending_by, read_pending}
use Rattle.header.proofs.pending_in.Goals as goal

pub returns-in-Ok-Nothing : goal.returns-in-Ok-Nothing
returns-in-Ok-Nothing c =
    ap (λ k. pending_by k c.word-a.result c.word-b.result c.word-c.result c.word-d.result) (sym (c.in-Ok-Nothing.is ∙ ap Ok c.in-Ok-Nothing.field-0-is))
    ∙ read_pending c.args.ram.now c.word.ensures c.word-a.ensures c.word-b.ensures c.word-c.ensures c.word-d.ensures c.try_from.ensures

pub returns-in-Ok-Insert : goal.returns-in-Ok-Insert
returns-in-Ok-Insert c =
    ap (λ k. pending_by k c.word-a.result c.word-b.result c.word-c.result c.word-d.result) (sym (c.in-Ok-Insert.is ∙ ap Ok c.in-Ok-Insert.field-0-is))
    ∙ read_pending c.args.ram.now c.word.ensures c.word-a.ensures c.word-b.ensures c.word-c.ensures c.word-d.ensures c.try_from.ensures

pub returns-in-Ok-Update : goal.returns-in-Ok-Update
returns-in-Ok-Update c =
    ap (λ k. pending_by k c.word-a.result c.word-b.result c.word-c.result c.word-d.result) (sym (c.in-Ok-Update.is ∙ ap Ok c.in-Ok-Update.field-0-is))
    ∙ read_pending c.args.ram.now c.word.ensures c.word-a.ensures c.word-b.ensures c.word-c.ensures c.word-d.ensures c.try_from.ensures

pub returns-in-Ok-Delete : goal.returns-in-Ok-Delete
returns-in-Ok-Delete c =
    ap (λ k. pending_by k c.word-a.result c.word-b.result c.word-c.result c.word-d.result) (sym (c.in-Ok-Delete.is ∙ ap Ok c.in-Ok-Delete.field-0-is))
    ∙ read_pending c.args.ram.now c.word.ensures c.word-a.ensures c.word-b.ensures c.word-c.ensures c.word-d.ensures c.try_from.ensures

pub returns-in-Ok-Format : goal.returns-in-Ok-Format
returns-in-Ok-Format c =
    ap (λ k. pending_by k c.word-a.result c.word-b.result c.word-c.result c.word-d.result) (sym (c.in-Ok-Format.is ∙ ap Ok c.in-Ok-Format.field-0-is))
    ∙ read_pending c.args.ram.now c.word.ensures c.word-a.ensures c.word-b.ensures c.word-c.ensures c.word-d.ensures c.try_from.ensures

pub returns-in-Err : goal.returns-in-Err
returns-in-Err c =
    ap (λ k. pending_by k c.word-a.result c.word-b.result c.word-c.result c.word-d.result) (sym (c.in-Err.is))
    ∙ read_pending c.args.ram.now c.word.ensures c.word-a.ensures c.word-b.ensures c.word-c.ensures c.word-d.ensures c.try_from.ensures
