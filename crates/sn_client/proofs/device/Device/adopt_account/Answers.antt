use Rattle.std.proofs.Common.{subst, List, ℕ}
use Rattle.sn_disk.specs.Moments.{weaker}
use Rattle.sn_io.specs.Causes.{Rose}
use Rattle.sn_journal.specs.declared.owner.Owner.TheVariants.{Device as DeviceOwner}
use Rattle.sn_rows.specs.Table.{Rows}
use Rattle.sn_rows.specs.declared.change.Change.{Change}
use Rattle.sn_table.specs.Batches.{IsAllOrNothing}
use Rattle.sn_client.specs.Calls.{IsOpen, MayHave, StandsOrHas, called_disk, device_disk, device_rows}
use Rattle.sn_device.specs.Runs.{nothing}
use Rattle.sn_device.specs.Steps.{Adopts, adopts}
use Rattle.sn_device.specs.declared.error.ClientError.TheVariants as refusal
use Rattle.sn_client.proofs.AccountLemmas.{gets_none, keeps_with, no_link_fault, stands_or_has, still_stands, wants_behind}
use Rattle.sn_device.proofs.Facts.{adopts_sound}
use Rattle.sn_client.proofs.device.Device.adopt_account.Goals as goal

pub answer-requires-clause-stays : goal.answer-requires-clause-stays
answer-requires-clause-stays g c =
    adopts_sound (device_rows c.args.self) c.args.words.now c.adoption.new.words c.args.set.now c.in-Ok.account.token c.in-Ok-adoption.changes.items
    c.requires.sound c.in-Ok-adoption.ensures.adopts

pub returns-clause-runs : goal.returns-clause-runs
returns-clause-runs g c = λ kept opens.
    let made : Adopts kept.rows c.args.words.now c.args.set.now c.in-Ok.account.token c.in-Ok-adoption.changes.items c.adoption.new.words =
    subst (λ (r : Rows). Adopts r c.args.words.now c.args.set.now c.in-Ok.account.token c.in-Ok-adoption.changes.items c.adoption.new.words) opens.rows_are
    c.in-Ok-adoption.ensures.adopts in
    keeps_with (IsOpen {D = g.row.D.Denot} {g = g.D.Disk}) (MayHave g.D.Disk.told g.D.Disk.may_leave) (λ given. nothing) kept c.args.words.now c.adoption.new.words
    (g.L.Link.asks c.args.link.now c.ask_account.new.link) (g.L.Link.aimed c.args.link.now) c.args.request (λ uuid token. adopts c.args.set.now token)
    c.in-Ok.account.uuid c.in-Ok.account.token c.in-Ok-adoption.changes.items c.answer.result c.in-Ok.ensures.gives made
    (c.answer.ensures.ends kept (adopts c.args.set.now c.in-Ok.account.token) c.adoption.new.words (λ given. nothing) opens)

pub returns-clause-any_moment : goal.returns-clause-any_moment
returns-clause-any_moment g c = λ told kept opens.
    let made : Adopts kept.rows c.args.words.now c.args.set.now c.in-Ok.account.token c.in-Ok-adoption.changes.items c.adoption.new.words =
    subst (λ (r : Rows). Adopts r c.args.words.now c.args.set.now c.in-Ok.account.token c.in-Ok-adoption.changes.items c.adoption.new.words) opens.rows_are
    c.in-Ok-adoption.ensures.adopts in
    let P : (List Change → Type 0) = λ changes. (token : List ℕ) × Adopts kept.rows c.args.words.now c.args.set.now token changes c.adoption.new.words in
    weaker g.D.Disk.moment g.D.Disk.left_since (device_disk c.args.self) (called_disk device_disk c.answer.result)
    (IsAllOrNothing DeviceOwner kept.batches c.in-Ok-adoption.changes.items) (StandsOrHas kept.batches P) (c.answer.ensures.any_moment told kept opens)
    (λ f is. stands_or_has kept.batches c.in-Ok-adoption.changes.items P f (c.in-Ok.account.token, made) is)

pub returns-clause-link_fault : goal.returns-clause-link_fault
returns-clause-link_fault g c =
    no_link_fault c.answer.result c.in-Ok-adoption.changes.items (Rose (g.L.Link.fault_count c.args.link.now) (g.L.Link.fault_count c.ask_account.new.link))
    c.answer.ensures.cause

pub returns-in-Err-clause-runs : goal.returns-in-Err-clause-runs
returns-in-Err-clause-runs g c = λ kept opens.
    gets_none (IsOpen {D = g.row.D.Denot} {g = g.D.Disk}) (MayHave g.D.Disk.told g.D.Disk.may_leave) (λ given. nothing) kept c.args.words.now c.args.words.now
    (g.L.Link.asks c.args.link.now c.ask_account.new.link) (g.L.Link.aimed c.args.link.now) c.args.request (λ uuid token. adopts c.args.set.now token)
    c.args.self c.in-Err.why opens c.in-Err.ensures.err

pub returns-in-Err-clause-any_moment : goal.returns-in-Err-clause-any_moment
returns-in-Err-clause-any_moment g c = λ told kept opens.
    still_stands c.args.self.table kept.batches
    (λ changes. (token : List ℕ) × Adopts kept.rows c.args.words.now c.args.set.now token changes c.args.words.now) (g.met.D.Disk.only_now told)
    c.args.self.owner (opens.stands told)

pub returns-in_default-clause-runs : goal.returns-in_default-clause-runs
returns-in_default-clause-runs g c = λ kept opens.
    gets_none (IsOpen {D = g.row.D.Denot} {g = g.D.Disk}) (MayHave g.D.Disk.told g.D.Disk.may_leave) (λ given. nothing) kept c.args.words.now c.adoption.new.words
    (g.L.Link.asks c.args.link.now c.ask_account.new.link) (g.L.Link.aimed c.args.link.now) c.args.request (λ uuid token. adopts c.args.set.now token)
    c.args.self refusal.Memory opens
    (wants_behind (g.L.Link.asks c.args.link.now c.ask_account.new.link) (g.L.Link.aimed c.args.link.now) c.args.request c.in-Ok.account.uuid
    c.in-Ok.account.token c.in-Ok.ensures.gives)

pub returns-in_default-clause-any_moment : goal.returns-in_default-clause-any_moment
returns-in_default-clause-any_moment g c = λ told kept opens.
    still_stands c.args.self.table kept.batches
    (λ changes. (token : List ℕ) × Adopts kept.rows c.args.words.now c.args.set.now token changes c.adoption.new.words) (g.met.D.Disk.only_now told)
    c.args.self.owner (opens.stands told)
