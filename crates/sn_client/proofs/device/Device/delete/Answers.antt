use Rattle.std.specs.Prelude.{[]}
use Rattle.std.proofs.Common.{refl, subst}
use Rattle.rand_chacha.specs.ChaCha.{ChaCha}
use Rattle.sn_rows.specs.Table.{Rows}
use Rattle.sn_client.specs.Calls.{IsOpen, MayHave, called_disk, device_disk, device_rows}
use Rattle.sn_device.specs.Runs.{delete, nothing}
use Rattle.sn_device.specs.Steps.{Deletes, deletes}
use Rattle.sn_client.proofs.CallLemmas.{rests, steps}
use Rattle.sn_client.proofs.EditLemmas.{answered_call, deletes_owned, refused_call}
use Rattle.sn_device.proofs.Facts.{steps_stay_sound}
use Rattle.sn_client.proofs.device.Device.delete.Goals as goal

pub answer-requires-clause-owned : goal.answer-requires-clause-owned
answer-requires-clause-owned g c = deletes_owned (device_rows c.args.self) c.args.uuid c.in-Ok.changes.items c.in-Ok.ensures.step

pub answer-requires-clause-stays : goal.answer-requires-clause-stays
answer-requires-clause-stays g c =
    let words : ChaCha = record { key = []; stream = 0; word_pos = 0 } in
    steps_stay_sound (device_rows c.args.self) words words (deletes c.args.uuid) c.in-Ok.changes.items c.requires (c.in-Ok.ensures.step, refl)

pub returns-in-Ok-clause-runs : goal.returns-in-Ok-clause-runs
returns-in-Ok-clause-runs g c = λ words kept opens.
    answered_call {T = Unit {0}} (IsOpen {D = g.row.D.Denot} {g = g.D.Disk}) (MayHave g.D.Disk.told g.D.Disk.may_leave) (λ given. nothing) c.args.self.least_cost (delete c.args.uuid) kept
    (device_rows c.args.self) words words (deletes c.args.uuid) c.in-Ok.changes.items tt c.answer.result opens.rows_are (c.in-Ok.ensures.runs words)
    (c.answer.ensures.ends kept (deletes c.args.uuid) words (λ given. nothing) opens)

pub returns-in-Ok-clause-any_moment : goal.returns-in-Ok-clause-any_moment
returns-in-Ok-clause-any_moment g c = λ told kept opens.
    steps g.D.Disk.moment g.D.Disk.left_since (device_disk c.args.self) (called_disk (device_disk {D = g.row.D.Denot} {g = g.D.Disk}) c.answer.result) kept.batches (Deletes kept.rows c.args.uuid) c.in-Ok.changes.items
    (subst (λ (r : Rows). Deletes r c.args.uuid c.in-Ok.changes.items) opens.rows_are c.in-Ok.ensures.step) (c.answer.ensures.any_moment told kept opens)

pub returns-in-Err-clause-runs : goal.returns-in-Err-clause-runs
returns-in-Err-clause-runs g c = λ words kept opens.
    refused_call {T = Unit {0}} (IsOpen {D = g.row.D.Denot} {g = g.D.Disk}) (MayHave g.D.Disk.told g.D.Disk.may_leave) (λ given. nothing) c.args.self.least_cost (delete c.args.uuid) kept
    (device_rows c.args.self) words words c.args.self c.in-Err.why opens.rows_are opens (c.in-Err.ensures.err words)

pub returns-in-Err-clause-any_moment : goal.returns-in-Err-clause-any_moment
returns-in-Err-clause-any_moment g c = λ told kept opens.
    rests c.args.self.table kept.batches (Deletes kept.rows c.args.uuid) (g.met.D.Disk.only_now told) c.args.self.owner (opens.stands told)
