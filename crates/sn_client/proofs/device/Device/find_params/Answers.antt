use Rattle.std.proofs.Common.{inl, inr, subst}
use Rattle.sn_io.specs.Causes.{Rose}
use Rattle.sn_rows.specs.declared.device_rows.OwnerRow.{OwnerRow}
use Rattle.sn_sets.proofs.Facts.{later_at_once}
use Rattle.sn_sync.specs.declared.request.Request.TheVariants as request
use Rattle.sn_client.specs.Calls.{device_rows}
use Rattle.sn_device.specs.Runs.{AdoptsOrDrops, AdoptsOrKeeps, AsksHost, Drops, FindsParams, change_to}
use Rattle.sn_device.specs.States.{HasOwner, HasNoneAsked}
use Rattle.sn_client.specs.Syncing.{IsOpenSince, MayHaveSince, called_past}
use Rattle.sn_device.specs.declared.error.ClientError.{ClientError}
use Rattle.sn_client.proofs.KeepLemmas.{never_made, never_on, no_link_rises}
use Rattle.sn_client.proofs.PieceLemmas.{went_within, went_quietly}
use Rattle.sn_client.proofs.device.Device.find_params.Goals as goal

pub returns-then-same-clause-went : goal.returns-then-same-clause-went
returns-then-same-clause-went g c = λ kept owner opens has.
    went_within (IsOpenSince c.args.self kept) (MayHaveSince c.args.self kept) (AsksHost (change_to owner c.args.present.now c.args.set.now) (AdoptsOrDrops c.args.set.now)) (FindsParams owner c.args.present.now c.args.set.now c.args.params.now) (record { made = c.args.made; rows = kept.rows; words = c.args.words.now }) (record { made = c.args.made; rows = kept.rows; words = c.args.words.now }) kept (g.L.Link.aimed c.args.link.now) (g.L.Link.asks c.args.link.now c.change_again.new.link) c.change_again.new.words c.change_again.result
    (λ acts turn so. inl ((c.same.ensures.0 c.if-same.true), so))
    (c.change_again.ensures.went kept owner opens has)

pub returns-then-same-2-clause-went : goal.returns-then-same-2-clause-went
returns-then-same-2-clause-went g c = λ kept owner opens has.
    went_within (IsOpenSince c.args.self kept) (MayHaveSince c.args.self kept) (AsksHost (request.SignIn owner.identifier c.args.set.now.pw) (AdoptsOrKeeps c.args.set.now)) (FindsParams owner c.args.present.now c.args.set.now c.args.params.now) (record { made = c.args.made; rows = kept.rows; words = c.args.words.now }) (record { made = c.args.made; rows = kept.rows; words = c.args.words.now }) kept (g.L.Link.aimed c.args.link.now) (g.L.Link.asks c.args.link.now c.join.new.link) c.join.new.words c.join.result
    (λ acts turn so. inr ((λ is. let so = c.same.ensures.1 is in let not = c.if-same.false in cc), inl ((c.same-2.ensures.0 c.if-same-2.true), so)))
    (c.join.ensures.went kept owner opens has)

pub returns-clause-went : goal.returns-clause-went
returns-clause-went g c = λ kept owner opens has.
    went_within (IsOpenSince c.args.self kept) (MayHaveSince c.args.self kept) (Drops c.bad_auth.result) (FindsParams owner c.args.present.now c.args.set.now c.args.params.now) (record { made = c.args.made; rows = kept.rows; words = c.args.words.now }) (record { made = c.args.made; rows = kept.rows; words = c.args.words.now }) kept (g.L.Link.aimed c.args.link.now) (g.L.Link.asks c.args.link.now c.args.link.now) c.args.words.now c.drop_asked.result
    (λ acts turn so. inr (
      (λ is. let so = c.same.ensures.1 is in let not = c.if-same.false in cc),
      inr (
        (λ is. let so = c.same-2.ensures.1 is in let not = c.if-same-2.false in cc),
        subst (λ (why : ClientError). Drops why (record { made = c.args.made; rows = kept.rows; words = c.args.words.now }) acts turn) c.bad_auth.ensures so,
      ),
    ))
    (went_quietly (IsOpenSince c.args.self kept) (MayHaveSince c.args.self kept) (Drops c.bad_auth.result) (record { made = c.args.made; rows = kept.rows; words = c.args.words.now }) kept (g.L.Link.aimed c.args.link.now) c.args.words.now c.drop_asked.result (g.L.Link.asks c.args.link.now c.args.link.now) (g.met.L.Link.asking.none c.args.link.now) (c.drop_asked.ensures.went kept (g.L.Link.aimed c.args.link.now) c.args.words.now c.args.made opens))

pub returns-clause-owned : goal.returns-clause-owned
returns-clause-owned g c =
    never_on c.drop_asked.result (λ device. (owner : OwnerRow) × HasOwner (device_rows device) owner) c.drop_asked.ensures.over

pub returns-clause-none_asked : goal.returns-clause-none_asked
returns-clause-none_asked g c = never_on c.drop_asked.result (λ device. HasNoneAsked (device_rows device)) c.drop_asked.ensures.over

pub returns-clause-few : goal.returns-clause-few
returns-clause-few g c = never_made c.drop_asked.result c.drop_asked.ensures.over

pub returns-clause-words : goal.returns-clause-words
returns-clause-words g c = later_at_once c.args.words.now

pub returns-clause-link_fault : goal.returns-clause-link_fault
returns-clause-link_fault g c =
    no_link_rises (called_past c.drop_asked.result) (Rose (g.L.Link.fault_count c.args.link.now) (g.L.Link.fault_count c.args.link.now)) c.drop_asked.ensures.no_link

pub join-requires-clause-asked : goal.join-requires-clause-asked
join-requires-clause-asked g c = (c.requires.holds.0, c.requires.holds.1.owned, c.requires.holds.1.wanted)

pub drop_asked-requires-clause-asked : goal.drop_asked-requires-clause-asked
drop_asked-requires-clause-asked g c = let has = c.requires.holds.1.wanted in (has.0, has.1)

pub drop_asked-requires-clause-no_link : goal.drop_asked-requires-clause-no_link
drop_asked-requires-clause-no_link g c = λ is. let so = c.bad_auth.ensures in cc
