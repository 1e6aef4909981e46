use Rattle.std.specs.Prelude.{List}
use Rattle.std.proofs.Common.{subst}
use Rattle.sn_rows.specs.Table.{Rows}
use Rattle.sn_rows.specs.declared.change.Change.{Change}
use Rattle.sn_client.specs.Calls.{IsOpen, MayHave, called_disk, device_disk, device_rows}
use Rattle.sn_device.specs.Runs.{a_uuid, put}
use Rattle.sn_device.specs.States.{Bytes}
use Rattle.sn_device.specs.Steps.{PutsNew, puts}
use Rattle.sn_client.proofs.CallLemmas.{rests, steps}
use Rattle.sn_client.proofs.EditLemmas.{answered_call, puts_owned, refused_call}
use Rattle.sn_drafts.proofs.Facts.{put_runs}
use Rattle.sn_device.proofs.Facts.{steps_stay_sound}
use Rattle.sn_client.proofs.device.Device.put.Goals as goal

pub answer-requires-clause-owned : goal.answer-requires-clause-owned
answer-requires-clause-owned g c =
    puts_owned (device_rows c.args.self) c.args.words.now c.changes_to_put.new.words c.in-Ok.made.0 c.args.kind.now c.args.text.now c.in-Ok.made.1.items c.in-Ok.ensures.step

pub answer-requires-clause-stays : goal.answer-requires-clause-stays
answer-requires-clause-stays g c =
    steps_stay_sound (device_rows c.args.self) c.args.words.now c.changes_to_put.new.words (puts c.in-Ok.made.0 c.args.kind.now c.args.text.now) c.in-Ok.made.1.items c.requires.sound
    c.in-Ok.ensures.step

pub returns-in-Ok-clause-runs : goal.returns-in-Ok-clause-runs
returns-in-Ok-clause-runs g c = λ kept opens.
    answered_call {T = Bytes} (IsOpen {D = g.row.D.Denot} {g = g.D.Disk}) (MayHave g.D.Disk.told g.D.Disk.may_leave) a_uuid c.args.self.least_cost (put c.args.kind.now c.args.text.now) kept
    (device_rows c.args.self) c.args.words.now c.changes_to_put.new.words (puts c.in-Ok.made.0 c.args.kind.now c.args.text.now) c.in-Ok.made.1.items c.in-Ok.made.0 c.answer.result opens.rows_are
    (put_runs c.args.kind.now c.args.text.now (device_rows c.args.self) c.args.words.now c.changes_to_put.new.words c.in-Ok.made.0 c.in-Ok.made.1.items c.in-Ok.ensures.step)
    (c.answer.ensures.ends kept (puts c.in-Ok.made.0 c.args.kind.now c.args.text.now) c.changes_to_put.new.words a_uuid opens)

pub returns-in-Ok-clause-any_moment : goal.returns-in-Ok-clause-any_moment
returns-in-Ok-clause-any_moment g c = λ told kept opens.
    let P : List Change → Type 0 = λ changes. (uuid : Bytes) × PutsNew kept.rows c.args.words.now uuid c.args.kind.now c.args.text.now changes c.changes_to_put.new.words in
    steps g.D.Disk.moment g.D.Disk.left_since (device_disk c.args.self) (called_disk (device_disk {D = g.row.D.Denot} {g = g.D.Disk}) c.answer.result) kept.batches P c.in-Ok.made.1.items (
      c.in-Ok.made.0,
      subst (λ (r : Rows). PutsNew r c.args.words.now c.in-Ok.made.0 c.args.kind.now c.args.text.now c.in-Ok.made.1.items c.changes_to_put.new.words) opens.rows_are c.in-Ok.ensures.step,
    )
    (c.answer.ensures.any_moment told kept opens)

pub returns-in-Err-clause-runs : goal.returns-in-Err-clause-runs
returns-in-Err-clause-runs g c = λ kept opens.
    refused_call {T = Bytes} (IsOpen {D = g.row.D.Denot} {g = g.D.Disk}) (MayHave g.D.Disk.told g.D.Disk.may_leave) a_uuid c.args.self.least_cost (put c.args.kind.now c.args.text.now) kept
    (device_rows c.args.self) c.args.words.now c.changes_to_put.new.words c.args.self c.in-Err.why opens.rows_are opens c.in-Err.ensures.err

pub returns-in-Err-clause-any_moment : goal.returns-in-Err-clause-any_moment
returns-in-Err-clause-any_moment g c = λ told kept opens.
    rests c.args.self.table kept.batches
    (λ (changes : List Change). (uuid : Bytes) × PutsNew kept.rows c.args.words.now uuid c.args.kind.now c.args.text.now changes c.changes_to_put.new.words)
    (g.met.D.Disk.only_now told) c.args.self.owner (opens.stands told)
