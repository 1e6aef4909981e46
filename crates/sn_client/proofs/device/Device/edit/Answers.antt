use Rattle.std.specs.Prelude.{List}
use Rattle.std.proofs.Common.{subst}
use Rattle.sn_rows.specs.Table.{Rows}
use Rattle.sn_rows.specs.declared.change.Change.{Change}
use Rattle.sn_client.specs.Calls.{IsOpen, MayHave, called_disk, device_disk, device_rows}
use Rattle.sn_device.specs.Runs.{edit, nothing}
use Rattle.sn_device.specs.Steps.{Edits, edits}
use Rattle.sn_client.proofs.CallLemmas.{rests, steps}
use Rattle.sn_client.proofs.EditLemmas.{answered_call, edits_owned, refused_call}
use Rattle.sn_device.proofs.Facts.{steps_stay_sound}
use Rattle.sn_client.proofs.device.Device.edit.Goals as goal

pub answer-requires-clause-owned : goal.answer-requires-clause-owned
answer-requires-clause-owned g c =
    edits_owned (device_rows c.args.self) c.args.words.now c.changes_to_edit.new.words c.args.uuid c.args.text.now c.in-Ok.changes.items c.in-Ok.ensures.step

pub answer-requires-clause-stays : goal.answer-requires-clause-stays
answer-requires-clause-stays g c =
    steps_stay_sound (device_rows c.args.self) c.args.words.now c.changes_to_edit.new.words (edits c.args.uuid c.args.text.now) c.in-Ok.changes.items c.requires c.in-Ok.ensures.step

pub returns-in-Ok-clause-runs : goal.returns-in-Ok-clause-runs
returns-in-Ok-clause-runs g c = λ kept opens.
    answered_call {T = Unit {0}} (IsOpen {D = g.row.D.Denot} {g = g.D.Disk}) (MayHave g.D.Disk.told g.D.Disk.may_leave) (λ given. nothing) c.args.self.least_cost
    (edit c.args.uuid c.args.text.now) kept (device_rows c.args.self) c.args.words.now c.changes_to_edit.new.words (edits c.args.uuid c.args.text.now) c.in-Ok.changes.items tt
    c.answer.result opens.rows_are c.in-Ok.ensures.runs
    (c.answer.ensures.ends kept (edits c.args.uuid c.args.text.now) c.changes_to_edit.new.words (λ given. nothing) opens)

pub returns-in-Ok-clause-any_moment : goal.returns-in-Ok-clause-any_moment
returns-in-Ok-clause-any_moment g c = λ told kept opens.
    let P : List Change → Type 0 = λ changes. Edits kept.rows c.args.words.now c.args.uuid c.args.text.now changes c.changes_to_edit.new.words in
    steps g.D.Disk.moment g.D.Disk.left_since (device_disk c.args.self) (called_disk (device_disk {D = g.row.D.Denot} {g = g.D.Disk}) c.answer.result) kept.batches P c.in-Ok.changes.items
    (subst (λ (r : Rows). Edits r c.args.words.now c.args.uuid c.args.text.now c.in-Ok.changes.items c.changes_to_edit.new.words) opens.rows_are c.in-Ok.ensures.step)
    (c.answer.ensures.any_moment told kept opens)

pub returns-in-Err-clause-runs : goal.returns-in-Err-clause-runs
returns-in-Err-clause-runs g c = λ kept opens.
    refused_call {T = Unit {0}} (IsOpen {D = g.row.D.Denot} {g = g.D.Disk}) (MayHave g.D.Disk.told g.D.Disk.may_leave) (λ given. nothing) c.args.self.least_cost
    (edit c.args.uuid c.args.text.now) kept (device_rows c.args.self) c.args.words.now c.changes_to_edit.new.words c.args.self c.in-Err.why opens.rows_are opens c.in-Err.ensures.err

pub returns-in-Err-clause-any_moment : goal.returns-in-Err-clause-any_moment
returns-in-Err-clause-any_moment g c = λ told kept opens.
    rests c.args.self.table kept.batches (λ (changes : List Change). Edits kept.rows c.args.words.now c.args.uuid c.args.text.now changes c.changes_to_edit.new.words)
    (g.met.D.Disk.only_now told) c.args.self.owner (opens.stands told)
