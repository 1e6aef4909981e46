use Rattle.std.proofs.Common.{subst, sym}
use Rattle.sn_io.specs.Causes.{Rose}
use Rattle.sn_rows.specs.declared.device_rows.OwnerRow.{OwnerRow}
use Rattle.sn_sets.proofs.Facts.{later_at_once}
use Rattle.sn_sync.specs.declared.answer.Answer.{Answer}
use Rattle.sn_sync.specs.declared.answer.Answer.TheVariants as answer
use Rattle.sn_client.specs.Calls.{device_rows}
use Rattle.sn_device.specs.Runs.{DropsOrKeeps, Finds, FindsParams}
use Rattle.sn_device.specs.States.{HasOwner, HasNoneAsked}
use Rattle.sn_client.specs.Syncing.{IsOpenSince, MayHaveSince, WentBy, called_past}
use Rattle.sn_client.proofs.KeepLemmas.{never_made, never_on, no_link_rises}
use Rattle.sn_client.proofs.PieceLemmas.{went_within, went_quietly}
use Rattle.sn_client.proofs.device.Device.find.Goals as goal

pub returns-in-Params-clause-went : goal.returns-in-Params-clause-went
returns-in-Params-clause-went g c = λ kept owner opens has.
    subst (λ (a : Answer). WentBy (IsOpenSince c.args.self kept) (MayHaveSince c.args.self kept) (Finds owner c.args.present.now c.args.set.now a) (record { made = c.args.made; rows = kept.rows; words = c.args.words.now }) kept (g.L.Link.aimed c.args.link.now) (g.L.Link.asks c.args.link.now c.find_params.new.link) c.find_params.new.words c.find_params.result)
    (sym c.in-Params.is)
    (went_within (IsOpenSince c.args.self kept) (MayHaveSince c.args.self kept) (FindsParams owner c.args.present.now c.args.set.now c.in-Params.params) (Finds owner c.args.present.now c.args.set.now (answer.Params c.in-Params.params)) (record { made = c.args.made; rows = kept.rows; words = c.args.words.now }) (record { made = c.args.made; rows = kept.rows; words = c.args.words.now }) kept (g.L.Link.aimed c.args.link.now) (g.L.Link.asks c.args.link.now c.find_params.new.link) c.find_params.new.words c.find_params.result (λ acts turn so. so)
    (c.find_params.ensures.went kept owner opens has))

pub returns-in-Refused-clause-went : goal.returns-in-Refused-clause-went
returns-in-Refused-clause-went g c = λ kept owner opens has.
    subst (λ (a : Answer). WentBy (IsOpenSince c.args.self kept) (MayHaveSince c.args.self kept) (Finds owner c.args.present.now c.args.set.now a) (record { made = c.args.made; rows = kept.rows; words = c.args.words.now }) kept (g.L.Link.aimed c.args.link.now) (g.L.Link.asks c.args.link.now c.args.link.now) c.args.words.now c.drop_or_keep.result)
    (sym c.in-Refused.is)
    (went_within (IsOpenSince c.args.self kept) (MayHaveSince c.args.self kept) (DropsOrKeeps c.in-Refused.status c.in-Refused.tag) (Finds owner c.args.present.now c.args.set.now (answer.Refused c.in-Refused.status c.in-Refused.tag c.in-Refused.more)) (record { made = c.args.made; rows = kept.rows; words = c.args.words.now }) (record { made = c.args.made; rows = kept.rows; words = c.args.words.now }) kept (g.L.Link.aimed c.args.link.now) (g.L.Link.asks c.args.link.now c.args.link.now) c.args.words.now c.drop_or_keep.result (λ acts turn so. so)
    (went_quietly (IsOpenSince c.args.self kept) (MayHaveSince c.args.self kept) (DropsOrKeeps c.in-Refused.status c.in-Refused.tag) (record { made = c.args.made; rows = kept.rows; words = c.args.words.now }) kept (g.L.Link.aimed c.args.link.now) c.args.words.now c.drop_or_keep.result (g.L.Link.asks c.args.link.now c.args.link.now) (g.met.L.Link.asking.none c.args.link.now) (c.drop_or_keep.ensures.went kept (g.L.Link.aimed c.args.link.now) c.args.words.now c.args.made opens)))

pub returns-in-Refused-clause-owned : goal.returns-in-Refused-clause-owned
returns-in-Refused-clause-owned g c =
    never_on c.drop_or_keep.result (λ device. (owner : OwnerRow) × HasOwner (device_rows device) owner) c.drop_or_keep.ensures.over

pub returns-in-Refused-clause-none_asked : goal.returns-in-Refused-clause-none_asked
returns-in-Refused-clause-none_asked g c = never_on c.drop_or_keep.result (λ device. HasNoneAsked (device_rows device)) c.drop_or_keep.ensures.over

pub returns-in-Refused-clause-few : goal.returns-in-Refused-clause-few
returns-in-Refused-clause-few g c = never_made c.drop_or_keep.result c.drop_or_keep.ensures.over

pub returns-in-Refused-clause-words : goal.returns-in-Refused-clause-words
returns-in-Refused-clause-words g c = later_at_once c.args.words.now

pub returns-in-Refused-clause-link_fault : goal.returns-in-Refused-clause-link_fault
returns-in-Refused-clause-link_fault g c =
    no_link_rises (called_past c.drop_or_keep.result) (Rose (g.L.Link.fault_count c.args.link.now) (g.L.Link.fault_count c.args.link.now)) c.drop_or_keep.ensures.no_link

pub drop_or_keep-requires-clause-asked : goal.drop_or_keep-requires-clause-asked
drop_or_keep-requires-clause-asked g c = let has = c.requires.holds.1.wanted in (has.0, has.1)
