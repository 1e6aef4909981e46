use Rattle.std.proofs.Common.{string_bytes}
use Rattle.std.proofs.lemmas.Result.{IfOk-weaker}
use Rattle.serde_json.specs.View.{view}
use Rattle.sn_notes.proofs.NoteLemmas.{note_object, note_written}
use Rattle.sn_notes.proofs.notes.note.Goals as goal

pub returns-clause-text : goal.returns-clause-text
returns-clause-text c =
    let same = c.in_ok-note_value.ensures in
    IfOk-weaker c.to_string.result _ _ (λ s. note_written (view c.in_ok-note_value.field-0) c.args.title.now c.args.text.now (string_bytes s) same) c.to_string.ensures.text

pub returns-clause-object : goal.returns-clause-object
returns-clause-object c =
    let same = c.in_ok-note_value.ensures in
    IfOk-weaker c.to_string.result _ _ (λ s. note_object (view c.in_ok-note_value.field-0) c.args.title.now c.args.text.now (string_bytes s) same) c.to_string.ensures.reads_back
