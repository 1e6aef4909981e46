use Rattle.std.proofs.Common.{◌⊎◌, List, [], ℕ, inl, inr, refl, subst, sym}
use Rattle.sn_disk.specs.Moments.{weaker}
use Rattle.sn_rows.specs.Table.{Rows}
use Rattle.sn_rows.specs.declared.change.Change.{Change}
use Rattle.sn_client.specs.Calls.{IsOpen, MayHave, StandsOrHas, called_disk, device_disk, device_rows}
use Rattle.sn_client.specs.Going.{MayWant}
use Rattle.sn_device.specs.Runs.{AsksAccount, SignsInWith, nothing}
use Rattle.sn_joining.specs.Signing.{JoinsBy, RefusesWith}
use Rattle.sn_device.specs.States.{HasNoAccount}
use Rattle.sn_device.specs.Steps.{Adopts, BeginsDevice, Renews, adopts, begins, renews}
use Rattle.sn_device.specs.declared.error.ClientError.TheVariants as refusal
use Rattle.sn_joining.specs.declared.signing.Joining.{Joining}
use Rattle.sn_client.proofs.AccountLemmas.{refuses_first, stands_weaker, still_stands}
use Rattle.sn_client.proofs.SignLemmas.{HoldsKeys, HoldsOthers, goes_as, joins_again, joins_first, joins_other, signs_again, signs_first, signs_other, signs_refused}
use Rattle.sn_client.proofs.device.Device.sign_in_with.Goals as goal

pub returns-in-Err-clause-runs : goal.returns-in-Err-clause-runs
returns-in-Err-clause-runs g c = λ kept opens.
    let why : RefusesWith kept.rows c.args.set c.in-Err.why = subst (λ (r : Rows). RefusesWith r c.args.set c.in-Err.why) opens.rows_are c.in-Err.ensures.err in
    refuses_first (IsOpen {D = g.row.D.Denot} {g = g.D.Disk}) (MayHave g.D.Disk.told g.D.Disk.may_leave) (λ given. nothing) kept
    (MayWant (SignsInWith kept.rows c.args.words.now c.args.set.params.identifier c.args.set)) (g.L.Link.asks c.args.link.now c.args.link.now)
    (g.L.Link.aimed c.args.link.now) c.args.words.now c.args.self c.in-Err.why opens (g.met.L.Link.asking.none c.args.link.now)
    (signs_refused kept.rows c.args.words.now c.args.set.params.identifier c.args.set c.in-Err.why why)

pub returns-in-Err-clause-any_moment : goal.returns-in-Err-clause-any_moment
returns-in-Err-clause-any_moment g c = λ told kept opens.
    let Q : (List Change → Type 0) = λ changes. (uuid : List ℕ) × (token : List ℕ)
    × (BeginsDevice c.args.set uuid token changes ⊎ (Renews kept.rows token changes ⊎ Adopts kept.rows c.args.words.now c.args.set token changes c.args.words.now)) in
    still_stands c.args.self.table kept.batches Q (g.met.D.Disk.only_now told) c.args.self.owner (opens.stands told)

pub returns-in_default-clause-runs : goal.returns-in_default-clause-runs
returns-in_default-clause-runs g c = λ kept opens.
    refuses_first (IsOpen {D = g.row.D.Denot} {g = g.D.Disk}) (MayHave g.D.Disk.told g.D.Disk.may_leave) (λ given. nothing) kept
    (MayWant (SignsInWith kept.rows c.args.words.now c.args.set.params.identifier c.args.set)) (g.L.Link.asks c.args.link.now c.args.link.now)
    (g.L.Link.aimed c.args.link.now) c.args.words.now c.args.self refusal.Memory opens (g.met.L.Link.asking.none c.args.link.now) (inl (refl, refl))

pub returns-in_default-clause-any_moment : goal.returns-in_default-clause-any_moment
returns-in_default-clause-any_moment g c = λ told kept opens.
    let Q : (List Change → Type 0) = λ changes. (uuid : List ℕ) × (token : List ℕ)
    × (BeginsDevice c.args.set uuid token changes ⊎ (Renews kept.rows token changes ⊎ Adopts kept.rows c.args.words.now c.args.set token changes c.args.words.now)) in
    still_stands c.args.self.table kept.batches Q (g.met.D.Disk.only_now told) c.args.self.owner (opens.stands told)

pub begin-requires-clause-none : goal.begin-requires-clause-none
begin-requires-clause-none g c =
    joins_first (device_rows c.args.self) c.args.set (subst (λ (j : Joining). JoinsBy (device_rows c.args.self) c.args.set j) c.in-Begins.is c.in-Ok.ensures.ok)

pub returns-in-Begins-clause-runs : goal.returns-in-Begins-clause-runs
returns-in-Begins-clause-runs g c = λ kept opens.
    let none : HasNoAccount (device_rows c.args.self) =
    joins_first (device_rows c.args.self) c.args.set (subst (λ (j : Joining). JoinsBy (device_rows c.args.self) c.args.set j) c.in-Begins.is c.in-Ok.ensures.ok) in
    let here : HasNoAccount kept.rows = subst HasNoAccount opens.rows_are none in
    goes_as (IsOpen {D = g.row.D.Denot} {g = g.D.Disk}) (MayHave g.D.Disk.told g.D.Disk.may_leave) (λ given. nothing) kept
    (MayWant (AsksAccount kept.rows c.args.words.now c.in-Ok-sign_in_request.request (begins c.args.set)))
    (MayWant (SignsInWith kept.rows c.args.words.now c.args.set.params.identifier c.args.set))
    (g.L.Link.asks c.args.link.now c.begin.new.link) (g.L.Link.aimed c.args.link.now) c.args.words.now c.begin.result
    (λ acts halt. signs_first kept.rows c.args.words.now c.in-Ok-sign_in_request.request c.args.set.params.identifier c.args.set acts halt here
    c.in-Ok-sign_in_request.ensures)
    (c.begin.ensures.runs kept c.args.words.now opens)

pub returns-in-Begins-clause-any_moment : goal.returns-in-Begins-clause-any_moment
returns-in-Begins-clause-any_moment g c = λ told kept opens.
    let P : (List Change → Type 0) = λ changes. (uuid : List ℕ) × (token : List ℕ) × BeginsDevice c.args.set uuid token changes in
    let Q : (List Change → Type 0) = λ changes. (uuid : List ℕ) × (token : List ℕ)
    × (BeginsDevice c.args.set uuid token changes ⊎ (Renews kept.rows token changes ⊎ Adopts kept.rows c.args.words.now c.args.set token changes c.args.words.now)) in
    weaker g.D.Disk.moment g.D.Disk.left_since (device_disk c.args.self) (called_disk device_disk c.begin.result) (StandsOrHas kept.batches P) (StandsOrHas kept.batches Q)
    (c.begin.ensures.any_moment told kept opens)
    (λ f is. stands_weaker kept.batches P Q f (λ changes has. (has.0, has.1, inl has.2)) is)

pub renew-requires-clause-owned : goal.renew-requires-clause-owned
renew-requires-clause-owned g c =
    let held : HoldsKeys (device_rows c.args.self) c.args.set =
    joins_again (device_rows c.args.self) c.args.set (subst (λ (j : Joining). JoinsBy (device_rows c.args.self) c.args.set j) c.in-Renews.is c.in-Ok.ensures.ok) in
    (held.owner, held.has.owned)

pub returns-in-Renews-clause-runs : goal.returns-in-Renews-clause-runs
returns-in-Renews-clause-runs g c = λ kept opens.
    let held : HoldsKeys (device_rows c.args.self) c.args.set =
    joins_again (device_rows c.args.self) c.args.set (subst (λ (j : Joining). JoinsBy (device_rows c.args.self) c.args.set j) c.in-Renews.is c.in-Ok.ensures.ok) in
    let here : HoldsKeys kept.rows c.args.set = subst (λ (r : Rows). HoldsKeys r c.args.set) opens.rows_are held in
    goes_as (IsOpen {D = g.row.D.Denot} {g = g.D.Disk}) (MayHave g.D.Disk.told g.D.Disk.may_leave) (λ given. nothing) kept
    (MayWant (AsksAccount kept.rows c.args.words.now c.in-Ok-sign_in_request.request (λ uuid token. renews token)))
    (MayWant (SignsInWith kept.rows c.args.words.now c.args.set.params.identifier c.args.set))
    (g.L.Link.asks c.args.link.now c.renew.new.link) (g.L.Link.aimed c.args.link.now) c.args.words.now c.renew.result
    (λ acts halt. signs_again kept.rows c.args.words.now c.in-Ok-sign_in_request.request c.args.set.params.identifier c.args.set acts halt here
    c.in-Ok-sign_in_request.ensures)
    (c.renew.ensures.runs kept c.args.words.now opens)

pub returns-in-Renews-clause-any_moment : goal.returns-in-Renews-clause-any_moment
returns-in-Renews-clause-any_moment g c = λ told kept opens.
    let P : (List Change → Type 0) = λ changes. (token : List ℕ) × Renews kept.rows token changes in
    let Q : (List Change → Type 0) = λ changes. (uuid : List ℕ) × (token : List ℕ)
    × (BeginsDevice c.args.set uuid token changes ⊎ (Renews kept.rows token changes ⊎ Adopts kept.rows c.args.words.now c.args.set token changes c.args.words.now)) in
    weaker g.D.Disk.moment g.D.Disk.left_since (device_disk c.args.self) (called_disk device_disk c.renew.result) (StandsOrHas kept.batches P) (StandsOrHas kept.batches Q)
    (c.renew.ensures.any_moment told kept opens)
    (λ f is. stands_weaker kept.batches P Q f (λ changes has. ([], has.0, inr (inl has.1))) is)

pub adopt_account-requires-clause-owned : goal.adopt_account-requires-clause-owned
adopt_account-requires-clause-owned g c =
    let held : HoldsOthers (device_rows c.args.self) c.args.set =
    joins_other (device_rows c.args.self) c.args.set (subst (λ (j : Joining). JoinsBy (device_rows c.args.self) c.args.set j) c.in-Adopts.is c.in-Ok.ensures.ok) in
    (held.owner, held.has.owned, sym (c.requires.named held.owner held.has.owned))

pub returns-in-Adopts-clause-runs : goal.returns-in-Adopts-clause-runs
returns-in-Adopts-clause-runs g c = λ kept opens.
    let held : HoldsOthers (device_rows c.args.self) c.args.set =
    joins_other (device_rows c.args.self) c.args.set (subst (λ (j : Joining). JoinsBy (device_rows c.args.self) c.args.set j) c.in-Adopts.is c.in-Ok.ensures.ok) in
    let here : HoldsOthers kept.rows c.args.set = subst (λ (r : Rows). HoldsOthers r c.args.set) opens.rows_are held in
    goes_as (IsOpen {D = g.row.D.Denot} {g = g.D.Disk}) (MayHave g.D.Disk.told g.D.Disk.may_leave) (λ given. nothing) kept
    (MayWant (AsksAccount kept.rows c.args.words.now c.in-Ok-sign_in_request.request (λ uuid token. adopts c.args.set token)))
    (MayWant (SignsInWith kept.rows c.args.words.now c.args.set.params.identifier c.args.set))
    (g.L.Link.asks c.args.link.now c.adopt_account.new.link) (g.L.Link.aimed c.args.link.now) c.adopt_account.new.words c.adopt_account.result
    (λ acts halt. signs_other kept.rows c.args.words.now c.in-Ok-sign_in_request.request c.args.set.params.identifier c.args.set acts halt here
    c.in-Ok-sign_in_request.ensures)
    (c.adopt_account.ensures.runs kept opens)

pub returns-in-Adopts-clause-any_moment : goal.returns-in-Adopts-clause-any_moment
returns-in-Adopts-clause-any_moment g c = λ told kept opens.
    let P : (List Change → Type 0) = λ changes. (token : List ℕ) × Adopts kept.rows c.args.words.now c.args.set token changes c.adopt_account.new.words in
    let Q : (List Change → Type 0) = λ changes. (uuid : List ℕ) × (token : List ℕ)
    × (BeginsDevice c.args.set uuid token changes ⊎ (Renews kept.rows token changes ⊎ Adopts kept.rows c.args.words.now c.args.set token changes c.adopt_account.new.words)) in
    weaker g.D.Disk.moment g.D.Disk.left_since (device_disk c.args.self) (called_disk device_disk c.adopt_account.result) (StandsOrHas kept.batches P)
    (StandsOrHas kept.batches Q) (c.adopt_account.ensures.any_moment told kept opens)
    (λ f is. stands_weaker kept.batches P Q f (λ changes has. ([], has.0, inr (inr has.1))) is)
