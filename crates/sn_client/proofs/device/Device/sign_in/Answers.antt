use Rattle.std.proofs.Common.{◌⊎◌, List, [], ℕ, subst}
use Rattle.sn_disk.specs.Moments.{weaker}
use Rattle.sn_rows.specs.Table.{Rows}
use Rattle.sn_rows.specs.declared.change.Change.{Change}
use Rattle.sn_client.specs.Calls.{IsOpen, MayHave, StandsOrHas, called_disk, device_disk, device_rows}
use Rattle.sn_client.specs.Going.{MayWant}
use Rattle.sn_device.specs.Runs.{IsOrMayBe, Run, SignsInWith, nothing, refused, sign_in}
use Rattle.sn_client.specs.Signing.{MadeBySignIn}
use Rattle.sn_device.specs.Steps.{Adopts, BeginsDevice, Renews}
use Rattle.sn_client.proofs.AccountLemmas.{stands_weaker, still_stands}
use Rattle.sn_client.proofs.RegisterLemmas.{refused_call}
use Rattle.sn_client.proofs.SignLemmas.{goes_at, goes_sign_in, keys_may_be, keys_refused, made_by, other_refused}
use Rattle.sn_client.proofs.device.Device.sign_in.Goals as goal

pub returns-in-Some-clause-runs : goal.returns-in-Some-clause-runs
returns-in-Some-clause-runs g c = λ kept opens.
    refused_call (IsOpen {D = g.row.D.Denot} {g = g.D.Disk}) (MayHave g.D.Disk.told g.D.Disk.may_leave) (λ given. nothing) kept c.args.self.least_cost
    (sign_in c.args.identifier.now c.args.password.now) (g.L.Link.asks c.args.link.now c.args.link.now) (g.L.Link.aimed c.args.link.now) c.args.words.now c.args.words.now
    c.args.self c.in-Some.why opens (g.met.L.Link.asking.none c.args.link.now)
    (subst (λ (r : Rows). Run c.args.self.least_cost (sign_in c.args.identifier.now c.args.password.now) r c.args.words.now [] (refused c.in-Some.why)) opens.rows_are
    (other_refused c.args.self.least_cost c.args.identifier.now c.args.password.now (device_rows c.args.self) c.args.words.now c.in-Some.why c.in-Some.ensures.some))

pub returns-in-Some-clause-any_moment : goal.returns-in-Some-clause-any_moment
returns-in-Some-clause-any_moment g c = λ told kept opens.
    still_stands c.args.self.table kept.batches (λ changes. MadeBySignIn kept.rows c.args.words.now c.args.identifier.now c.args.password.now changes c.args.words.now) (g.met.D.Disk.only_now told)
    c.args.self.owner (opens.stands told)

pub sign_in_with-requires-clause-named : goal.sign_in_with-requires-clause-named
sign_in_with-requires-clause-named g c =
    keys_may_be c.args.self.least_cost (device_rows c.args.self) c.args.identifier.now c.args.password.now (g.L.Link.asks c.args.link.now c.ask_keys.new.link)
    (g.L.Link.aimed c.args.link.now) c.in-Ok.set c.in-Ok.ensures.keys c.in_default.ensures.none

pub returns-in-Ok-clause-runs : goal.returns-in-Ok-clause-runs
returns-in-Ok-clause-runs g c = λ kept opens.
    let may : IsOrMayBe kept.rows c.args.identifier.now = subst (λ (r : Rows). IsOrMayBe r c.args.identifier.now) opens.rows_are c.in_default.ensures.none in
    goes_sign_in (IsOpen {D = g.row.D.Denot} {g = g.D.Disk}) (MayHave g.D.Disk.told g.D.Disk.may_leave) (λ given. nothing) kept c.args.self.least_cost c.args.identifier.now
    c.args.password.now (g.L.Link.asks c.args.link.now c.ask_keys.new.link) (g.L.Link.asks c.ask_keys.new.link c.sign_in_with.new.link)
    (g.L.Link.asks c.args.link.now c.sign_in_with.new.link) (g.L.Link.aimed c.args.link.now) c.args.words.now c.sign_in_with.new.words c.in-Ok.set c.sign_in_with.result may
    (λ xs ys first later. g.met.L.Link.asking.more c.args.link.now c.ask_keys.new.link c.sign_in_with.new.link xs ys first later) c.in-Ok.ensures.keys
    (goes_at (IsOpen {D = g.row.D.Denot} {g = g.D.Disk}) (MayHave g.D.Disk.told g.D.Disk.may_leave) (λ given. nothing) kept
    (MayWant (SignsInWith kept.rows c.args.words.now c.in-Ok.set.params.identifier c.in-Ok.set)) (g.L.Link.asks c.ask_keys.new.link c.sign_in_with.new.link)
    (g.L.Link.aimed c.args.link.now) (g.L.Link.aimed c.ask_keys.new.link) c.sign_in_with.new.words c.sign_in_with.result c.ask_keys.ensures.aimed
    (c.sign_in_with.ensures.runs kept opens))

pub returns-in-Ok-clause-any_moment : goal.returns-in-Ok-clause-any_moment
returns-in-Ok-clause-any_moment g c = λ told kept opens.
    let P : (List Change → Type 0) = λ changes. (uuid : List ℕ) × (token : List ℕ) × (BeginsDevice c.in-Ok.set uuid token changes
    ⊎ (Renews kept.rows token changes ⊎ Adopts kept.rows c.args.words.now c.in-Ok.set token changes c.sign_in_with.new.words)) in
    let Q : (List Change → Type 0) = λ changes.
    MadeBySignIn kept.rows c.args.words.now c.args.identifier.now c.args.password.now changes c.sign_in_with.new.words in
    weaker g.D.Disk.moment g.D.Disk.left_since (device_disk c.args.self) (called_disk device_disk c.sign_in_with.result) (StandsOrHas kept.batches P) (StandsOrHas kept.batches Q)
    (c.sign_in_with.ensures.any_moment told kept opens)
    (λ f is. stands_weaker kept.batches P Q f (λ changes has. made_by c.args.self.least_cost kept.rows c.args.words.now c.sign_in_with.new.words c.args.identifier.now c.args.password.now
    (g.L.Link.asks c.args.link.now c.ask_keys.new.link) (g.L.Link.aimed c.args.link.now) c.in-Ok.set changes c.in-Ok.ensures.keys has) is)

pub returns-in-Err-clause-runs : goal.returns-in-Err-clause-runs
returns-in-Err-clause-runs g c = λ kept opens.
    let may : IsOrMayBe kept.rows c.args.identifier.now = subst (λ (r : Rows). IsOrMayBe r c.args.identifier.now) opens.rows_are c.in_default.ensures.none in
    keys_refused (IsOpen {D = g.row.D.Denot} {g = g.D.Disk}) (MayHave g.D.Disk.told g.D.Disk.may_leave) (λ given. nothing) kept c.args.self.least_cost c.args.identifier.now
    c.args.password.now (g.L.Link.asks c.args.link.now c.ask_keys.new.link) (g.L.Link.aimed c.args.link.now) c.args.words.now c.args.words.now c.args.self c.in-Err.why opens may
    c.in-Err.ensures.err

pub returns-in-Err-clause-any_moment : goal.returns-in-Err-clause-any_moment
returns-in-Err-clause-any_moment g c = λ told kept opens.
    still_stands c.args.self.table kept.batches (λ changes. MadeBySignIn kept.rows c.args.words.now c.args.identifier.now c.args.password.now changes c.args.words.now) (g.met.D.Disk.only_now told)
    c.args.self.owner (opens.stands told)
