use Rattle.std.proofs.Common.{List, ℕ, inl, refl}
use Rattle.sn_disk.specs.Moments.{weaker}
use Rattle.sn_rows.specs.declared.change.Change.{Change}
use Rattle.sn_string.specs.declared.params.KeySet.{KeySet}
use Rattle.sn_client.specs.Calls.{IsOpen, MayHave, StandsOrHas, called_disk, device_disk, device_rows}
use Rattle.sn_device.specs.Runs.{IsNewSet, nothing, register}
use Rattle.sn_device.specs.Steps.{BeginsDevice}
use Rattle.sn_device.specs.declared.error.ClientError.TheVariants as refusal
use Rattle.sn_client.proofs.AccountLemmas.{stands_weaker, still_stands}
use Rattle.sn_client.proofs.RegisterLemmas.{goes_register, is_new, later_nonce, refused_call, refused_register}
use Rattle.sn_client.proofs.device.Device.register.Goals as goal

pub returns-in-Some-clause-runs : goal.returns-in-Some-clause-runs
returns-in-Some-clause-runs g c = λ kept opens.
    refused_register (IsOpen {D = g.row.D.Denot} {g = g.D.Disk}) (MayHave g.D.Disk.told g.D.Disk.may_leave) (λ given. nothing) kept c.args.self.least_cost c.args.cost
    c.args.identifier.now c.args.password.now (device_rows c.args.self) (g.L.Link.asks c.args.link.now c.args.link.now) (g.L.Link.aimed c.args.link.now)
    c.args.words.now c.args.words.now c.args.self c.in-Some.why opens (g.met.L.Link.asking.none c.args.link.now) opens.rows_are c.in-Some.ensures.some

pub returns-in-Some-clause-any_moment : goal.returns-in-Some-clause-any_moment
returns-in-Some-clause-any_moment g c = λ told kept opens.
    still_stands c.args.self.table kept.batches (λ changes. (set : KeySet) × (uuid : List ℕ) × (token : List ℕ)
    × IsNewSet c.args.words.now c.args.identifier.now c.args.password.now c.args.cost set c.args.words.now × BeginsDevice set uuid token changes)
    (g.met.D.Disk.only_now told) c.args.self.owner (opens.stands told)

pub returns-in_default-registration-clause-runs : goal.returns-in_default-registration-clause-runs
returns-in_default-registration-clause-runs g c = λ kept opens.
    refused_call (IsOpen {D = g.row.D.Denot} {g = g.D.Disk}) (MayHave g.D.Disk.told g.D.Disk.may_leave) (λ given. nothing) kept c.args.self.least_cost
    (register c.args.identifier.now c.args.password.now c.args.cost) (g.L.Link.asks c.args.link.now c.args.link.now) (g.L.Link.aimed c.args.link.now)
    c.args.words.now c.nonce-nonce.new.self c.args.self refusal.Memory opens (g.met.L.Link.asking.none c.args.link.now) (inl (refl, refl))

pub returns-in_default-registration-clause-any_moment : goal.returns-in_default-registration-clause-any_moment
returns-in_default-registration-clause-any_moment g c = λ told kept opens.
    still_stands c.args.self.table kept.batches (λ changes. (set : KeySet) × (uuid : List ℕ) × (token : List ℕ)
    × IsNewSet c.args.words.now c.args.identifier.now c.args.password.now c.args.cost set c.nonce-nonce.new.self × BeginsDevice set uuid token changes)
    (g.met.D.Disk.only_now told) c.args.self.owner (opens.stands told)

pub returns-in_default-registration-clause-words : goal.returns-in_default-registration-clause-words
returns-in_default-registration-clause-words g c = later_nonce c.args.words.now c.nonce-nonce.new.self c.nonce-nonce.result c.nonce-nonce.ensures

pub returns-clause-runs : goal.returns-clause-runs
returns-clause-runs g c = λ kept opens.
    goes_register (IsOpen {D = g.row.D.Denot} {g = g.D.Disk}) (MayHave g.D.Disk.told g.D.Disk.may_leave) (λ given. nothing) kept c.args.self.least_cost c.args.cost
    c.args.identifier.now c.args.password.now (device_rows c.args.self) (g.L.Link.asks c.args.link.now c.begin.new.link) (g.L.Link.aimed c.args.link.now)
    c.args.words.now c.nonce-nonce.new.self c.in-Ok.set c.in-Ok.request c.begin.result opens.rows_are c.in_default.ensures.none
    (is_new c.args.words.now c.nonce-nonce.new.self c.nonce-nonce.result c.args.identifier.now c.args.password.now c.args.cost c.in-Ok.set c.nonce-nonce.ensures
    c.in-Ok.ensures.set) c.in-Ok.ensures.request (c.begin.ensures.runs kept c.nonce-nonce.new.self opens)

pub returns-clause-any_moment : goal.returns-clause-any_moment
returns-clause-any_moment g c = λ told kept opens.
    let new = is_new c.args.words.now c.nonce-nonce.new.self c.nonce-nonce.result c.args.identifier.now c.args.password.now c.args.cost c.in-Ok.set c.nonce-nonce.ensures
    c.in-Ok.ensures.set in
    let P : (List Change → Type 0) = λ changes. (uuid : List ℕ) × (token : List ℕ) × BeginsDevice c.in-Ok.set uuid token changes in
    let Q : (List Change → Type 0) = λ changes. (set : KeySet) × (uuid : List ℕ) × (token : List ℕ)
    × IsNewSet c.args.words.now c.args.identifier.now c.args.password.now c.args.cost set c.nonce-nonce.new.self × BeginsDevice set uuid token changes in
    weaker g.D.Disk.moment g.D.Disk.left_since (device_disk c.args.self) (called_disk device_disk c.begin.result) (StandsOrHas kept.batches P) (StandsOrHas kept.batches Q)
    (c.begin.ensures.any_moment told kept opens)
    (λ f is. stands_weaker kept.batches P Q f (λ changes has. (c.in-Ok.set, has.0, has.1, new, has.2)) is)

pub returns-clause-words : goal.returns-clause-words
returns-clause-words g c = later_nonce c.args.words.now c.nonce-nonce.new.self c.nonce-nonce.result c.nonce-nonce.ensures
