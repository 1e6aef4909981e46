use Rattle.std.proofs.Common.{[], refl, subst, List, ℕ}
use Rattle.rand_chacha.specs.ChaCha.{of_seed}
use Rattle.sn_disk.specs.Moments.{weaker}
use Rattle.sn_io.specs.Causes.{Rose}
use Rattle.sn_journal.specs.declared.owner.Owner.TheVariants.{Device as DeviceOwner}
use Rattle.sn_rows.specs.Table.{Rows}
use Rattle.sn_rows.specs.declared.change.Change.{Change}
use Rattle.sn_table.specs.Batches.{IsAllOrNothing}
use Rattle.sn_client.specs.Calls.{IsOpen, MayHave, StandsOrHas, called_disk, device_disk, device_rows}
use Rattle.sn_device.specs.Runs.{nothing}
use Rattle.sn_device.specs.Steps.{Renews, renews}
use Rattle.sn_client.proofs.AccountLemmas.{gets_none, keeps_it, no_link_fault, stands_or_has, still_stands}
use Rattle.sn_device.proofs.Facts.{steps_stay_sound}
use Rattle.sn_client.proofs.device.Device.renew.Goals as goal

pub answer-requires-clause-stays : goal.answer-requires-clause-stays
answer-requires-clause-stays g c =
    let k = c.in-Ok.ensures.ok in
    steps_stay_sound (device_rows c.args.self) (of_seed []) (of_seed []) (renews k.1) c.in-Ok.changes.items c.requires.sound (k.3, refl)

pub returns-in-Ok-clause-runs : goal.returns-in-Ok-clause-runs
returns-in-Ok-clause-runs g c = λ kept words opens.
    let k = c.in-Ok.ensures.ok in
    let made : Renews kept.rows k.1 c.in-Ok.changes.items = subst (λ (r : Rows). Renews r k.1 c.in-Ok.changes.items) opens.rows_are k.3 in
    keeps_it (IsOpen {D = g.row.D.Denot} {g = g.D.Disk}) (MayHave g.D.Disk.told g.D.Disk.may_leave) (λ given. nothing) kept words
    (g.L.Link.asks c.args.link.now c.renewed_row.new.link) (g.L.Link.aimed c.args.link.now) c.args.request (λ uuid token. renews token) k.0 k.1
    c.in-Ok.changes.items c.answer.result k.2 (made, refl) (c.answer.ensures.ends kept (renews k.1) words (λ given. nothing) opens)

pub returns-in-Ok-clause-any_moment : goal.returns-in-Ok-clause-any_moment
returns-in-Ok-clause-any_moment g c = λ told kept opens.
    let k = c.in-Ok.ensures.ok in
    let made : Renews kept.rows k.1 c.in-Ok.changes.items = subst (λ (r : Rows). Renews r k.1 c.in-Ok.changes.items) opens.rows_are k.3 in
    let P : (List Change → Type 0) = λ changes. (token : List ℕ) × Renews kept.rows token changes in
    weaker g.D.Disk.moment g.D.Disk.left_since (device_disk c.args.self) (called_disk device_disk c.answer.result)
    (IsAllOrNothing DeviceOwner kept.batches c.in-Ok.changes.items) (StandsOrHas kept.batches P) (c.answer.ensures.any_moment told kept opens)
    (λ f is. stands_or_has kept.batches c.in-Ok.changes.items P f (k.1, made) is)

pub returns-in-Ok-clause-link_fault : goal.returns-in-Ok-clause-link_fault
returns-in-Ok-clause-link_fault g c =
    no_link_fault c.answer.result c.in-Ok.changes.items (Rose (g.L.Link.fault_count c.args.link.now) (g.L.Link.fault_count c.renewed_row.new.link)) c.answer.ensures.cause

pub returns-in-Err-clause-runs : goal.returns-in-Err-clause-runs
returns-in-Err-clause-runs g c = λ kept words opens.
    gets_none (IsOpen {D = g.row.D.Denot} {g = g.D.Disk}) (MayHave g.D.Disk.told g.D.Disk.may_leave) (λ given. nothing) kept words words
    (g.L.Link.asks c.args.link.now c.renewed_row.new.link) (g.L.Link.aimed c.args.link.now) c.args.request (λ uuid token. renews token) c.args.self c.in-Err.why opens
    c.in-Err.ensures.err

pub returns-in-Err-clause-any_moment : goal.returns-in-Err-clause-any_moment
returns-in-Err-clause-any_moment g c = λ told kept opens.
    still_stands c.args.self.table kept.batches (λ changes. (token : List ℕ) × Renews kept.rows token changes)
    (g.met.D.Disk.only_now told) c.args.self.owner (opens.stands told)
