use Rattle.std.proofs.Common.{arith, ◌+◌, ◌∙◌, Ok, Err, ap, refl, subst, sym}
use Rattle.sn_rows.specs.Table.{Rows}
use Rattle.sn_rows.specs.declared.device_rows.OwnerRow.{OwnerRow}
use Rattle.sn_sync.specs.declared.answer.Answer.TheVariants as answer
use Rattle.sn_sync.specs.declared.request.Request.{Request}
use Rattle.sn_sync.specs.declared.request.Request.TheVariants as request
use Rattle.sn_exchange.specs.Asked.{IsHeardBehind}
use Rattle.sn_client.specs.Calls.{device_rows}
use Rattle.sn_device.specs.Runs.{AdoptsOrKeeps, CommitsStep, DropsOrKeeps}
use Rattle.sn_device.specs.States.{Bytes, HasOwner, HasNoneAsked}
use Rattle.sn_device.specs.Steps.{adopts}
use Rattle.sn_client.specs.Syncing.{IsOpenSince, MayHaveSince, called_past, none_asked}
use Rattle.sn_client.proofs.Moments.{still_open}
use Rattle.sn_sets.proofs.Facts.{later_at_once}
use Rattle.sn_io.specs.Causes.{Rose}
use Rattle.sn_client.proofs.KeepLemmas.{never_made, never_on, no_link_rises}
use Rattle.sn_client.proofs.SettledLemmas.{set_named}
use Rattle.sn_client.proofs.PieceLemmas.{asks_none, fewer_heard, hears_ill, hears_still, went_within}
use Rattle.sn_client.proofs.device.Device.join.Goals as goal

pub returns-in_default-clause-went : goal.returns-in_default-clause-went
returns-in_default-clause-went g c = λ kept owner opens has.
    asks_none {T = Unit {0}} (IsOpenSince c.args.self kept) (MayHaveSince c.args.self kept) (request.SignIn owner.identifier c.args.set.now.pw) (AdoptsOrKeeps c.args.set.now) c.args.made kept c.args.words.now (g.L.Link.aimed c.args.link.now) (g.L.Link.asks c.args.link.now c.args.link.now) c.args.words.now c.args.self
    (g.met.L.Link.asking.none c.args.link.now)
    (still_open c.args.self c.args.self kept refl g.met.D.Disk.only_now opens opens)

pub returns-in-Ok-Account-clause-went : goal.returns-in-Ok-Account-clause-went
returns-in-Ok-Account-clause-went g c = λ kept owner opens has.
    let same = c.in-Ok.ensures ∙ ap (λ (identifier : Bytes). request.SignIn identifier c.args.set.now.pw) (set_named (device_rows c.args.self) c.requires.asked.0 owner c.args.set.now c.requires.asked.1 (subst (λ (r : Rows). HasOwner r owner) (sym opens.rows_are) has) c.requires.asked.2) in
    hears_still (IsOpenSince c.args.self kept) (MayHaveSince c.args.self kept) (request.SignIn owner.identifier c.args.set.now.pw) (AdoptsOrKeeps c.args.set.now) c.args.made kept c.args.words.now (g.L.Link.aimed c.args.link.now) (g.L.Link.asks c.args.link.now c.hear_behind.new.link)
    c.adopt.new.words (answer.Account c.in-Ok-Account.token c.in-Ok-Account.field-0-1 c.in-Ok-Account.field-0-2) (c.args.made + 1) c.adopt.result (omega arith)
    (subst (λ (r : Request). IsHeardBehind c.args.made (g.L.Link.asks c.args.link.now c.hear_behind.new.link) (g.L.Link.aimed c.args.link.now) r (Ok (answer.Account c.in-Ok-Account.token c.in-Ok-Account.field-0-1 c.in-Ok-Account.field-0-2))) same (rw c.in-Ok-Account.field-0-is at c.in-Ok-Account.ensures.heard))
    (went_within (IsOpenSince c.args.self kept) (MayHaveSince c.args.self kept) (CommitsStep (adopts c.args.set.now c.in-Ok-Account.token)) (AdoptsOrKeeps c.args.set.now (answer.Account c.in-Ok-Account.token c.in-Ok-Account.field-0-1 c.in-Ok-Account.field-0-2)) (record { made = c.args.made + 1; rows = kept.rows; words = c.args.words.now }) (record { made = c.args.made + 1; rows = kept.rows; words = c.args.words.now }) kept (g.L.Link.aimed c.args.link.now) none_asked
    c.adopt.new.words c.adopt.result (λ acts turn so. so) (c.adopt.ensures.went kept (g.L.Link.aimed c.args.link.now) opens))

pub returns-in-Ok-Refused-clause-went : goal.returns-in-Ok-Refused-clause-went
returns-in-Ok-Refused-clause-went g c = λ kept owner opens has.
    let same = c.in-Ok.ensures ∙ ap (λ (identifier : Bytes). request.SignIn identifier c.args.set.now.pw) (set_named (device_rows c.args.self) c.requires.asked.0 owner c.args.set.now c.requires.asked.1 (subst (λ (r : Rows). HasOwner r owner) (sym opens.rows_are) has) c.requires.asked.2) in
    hears_still (IsOpenSince c.args.self kept) (MayHaveSince c.args.self kept) (request.SignIn owner.identifier c.args.set.now.pw) (AdoptsOrKeeps c.args.set.now) c.args.made kept c.args.words.now (g.L.Link.aimed c.args.link.now) (g.L.Link.asks c.args.link.now c.hear_behind.new.link)
    c.args.words.now (answer.Refused c.in-Ok-Refused.status c.in-Ok-Refused.tag c.in-Ok-Refused.field-0-2) (c.args.made + 1) c.drop_or_keep.result (omega arith)
    (subst (λ (r : Request). IsHeardBehind c.args.made (g.L.Link.asks c.args.link.now c.hear_behind.new.link) (g.L.Link.aimed c.args.link.now) r (Ok (answer.Refused c.in-Ok-Refused.status c.in-Ok-Refused.tag c.in-Ok-Refused.field-0-2))) same (rw c.in-Ok-Refused.field-0-is at c.in-Ok-Refused.ensures.heard))
    (went_within (IsOpenSince c.args.self kept) (MayHaveSince c.args.self kept) (DropsOrKeeps c.in-Ok-Refused.status c.in-Ok-Refused.tag) (AdoptsOrKeeps c.args.set.now (answer.Refused c.in-Ok-Refused.status c.in-Ok-Refused.tag c.in-Ok-Refused.field-0-2)) (record { made = c.args.made + 1; rows = kept.rows; words = c.args.words.now }) (record { made = c.args.made + 1; rows = kept.rows; words = c.args.words.now }) kept (g.L.Link.aimed c.args.link.now) none_asked
    c.args.words.now c.drop_or_keep.result (λ acts turn so. so) (c.drop_or_keep.ensures.went kept (g.L.Link.aimed c.args.link.now) c.args.words.now (c.args.made + 1) opens))

pub returns-clause-went : goal.returns-clause-went
returns-clause-went g c = λ kept owner opens has.
    let same = c.in-Ok.ensures ∙ ap (λ (identifier : Bytes). request.SignIn identifier c.args.set.now.pw) (set_named (device_rows c.args.self) c.requires.asked.0 owner c.args.set.now c.requires.asked.1 (subst (λ (r : Rows). HasOwner r owner) (sym opens.rows_are) has) c.requires.asked.2) in
    hears_ill {T = Unit {0}} (IsOpenSince c.args.self kept) (MayHaveSince c.args.self kept) (request.SignIn owner.identifier c.args.set.now.pw) (AdoptsOrKeeps c.args.set.now) c.args.made kept c.args.words.now (g.L.Link.aimed c.args.link.now) (g.L.Link.asks c.args.link.now c.hear_behind.new.link) c.args.words.now c.args.self c.in-Err.why
    (subst (λ (r : Request). IsHeardBehind c.args.made (g.L.Link.asks c.args.link.now c.hear_behind.new.link) (g.L.Link.aimed c.args.link.now) r (Err c.in-Err.why)) same c.in-Err.ensures.heard)
    (still_open c.args.self c.args.self kept refl g.met.D.Disk.only_now opens opens)

pub returns-in-Ok-Refused-clause-owned : goal.returns-in-Ok-Refused-clause-owned
returns-in-Ok-Refused-clause-owned g c =
    never_on c.drop_or_keep.result (λ device. (owner : OwnerRow) × HasOwner (device_rows device) owner) c.drop_or_keep.ensures.over

pub returns-in-Ok-Refused-clause-none_asked : goal.returns-in-Ok-Refused-clause-none_asked
returns-in-Ok-Refused-clause-none_asked g c = never_on c.drop_or_keep.result (λ device. HasNoneAsked (device_rows device)) c.drop_or_keep.ensures.over

pub returns-in-Ok-Refused-clause-few : goal.returns-in-Ok-Refused-clause-few
returns-in-Ok-Refused-clause-few g c = never_made c.drop_or_keep.result c.drop_or_keep.ensures.over

pub returns-in-Ok-Refused-clause-words : goal.returns-in-Ok-Refused-clause-words
returns-in-Ok-Refused-clause-words g c = later_at_once c.args.words.now

pub returns-in-Ok-Refused-clause-link_fault : goal.returns-in-Ok-Refused-clause-link_fault
returns-in-Ok-Refused-clause-link_fault g c =
    no_link_rises (called_past c.drop_or_keep.result) (Rose (g.L.Link.fault_count c.args.link.now) (g.L.Link.fault_count c.hear_behind.new.link)) c.drop_or_keep.ensures.no_link

pub returns-in-Ok-Account-clause-link_fault : goal.returns-in-Ok-Account-clause-link_fault
returns-in-Ok-Account-clause-link_fault g c =
    no_link_rises (called_past c.adopt.result) (Rose (g.L.Link.fault_count c.args.link.now) (g.L.Link.fault_count c.hear_behind.new.link)) c.adopt.ensures.no_link

pub adopt-requires-clause-token : goal.adopt-requires-clause-token
adopt-requires-clause-token g c = let fits = (rw c.in-Ok-Account.field-0-is at c.in-Ok-Account.ensures.fits) tt in fits.3

pub drop_or_keep-requires-clause-asked : goal.drop_or_keep-requires-clause-asked
drop_or_keep-requires-clause-asked g c = let has = c.requires.asked.2 in (has.0, has.1)

pub adopt-requires-clause-owned : goal.adopt-requires-clause-owned
adopt-requires-clause-owned g c = (c.requires.asked.0, c.requires.asked.1, c.requires.asked.2.2.identifier_is)

pub returns-in-Ok-Account-clause-few : goal.returns-in-Ok-Account-clause-few
returns-in-Ok-Account-clause-few g c =
    let few = fewer_heard c.args.made (g.L.Link.asks c.args.link.now c.hear_behind.new.link) (g.L.Link.aimed c.args.link.now) c.in-Ok.request (answer.Account c.in-Ok-Account.token c.in-Ok-Account.field-0-1 c.in-Ok-Account.field-0-2)
    (rw c.in-Ok-Account.field-0-is at c.in-Ok-Account.ensures.heard) in
    c.adopt.ensures.few (omega (arith, few))
