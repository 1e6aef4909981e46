use Rattle.std.proofs.Common.{inl, inr}
use Rattle.sn_io.specs.Causes.{Rose}
use Rattle.sn_rows.specs.declared.device_rows.OwnerRow.{OwnerRow}
use Rattle.sn_sets.proofs.Facts.{later_at_once}
use Rattle.sn_sync.specs.declared.answer.Answer.TheVariants as answer
use Rattle.sn_client.specs.Calls.{device_rows}
use Rattle.sn_device.specs.Runs.{AnswersChange, Drops, Resolves}
use Rattle.sn_device.specs.States.{HasOwner, HasNoneAsked}
use Rattle.sn_client.specs.Syncing.{IsOpenSince, MayHaveSince, called_past}
use Rattle.sn_device.specs.declared.error.ClientError.TheVariants as refusal
use Rattle.sn_client.proofs.KeepLemmas.{never_made, never_on, no_link_rises}
use Rattle.sn_client.proofs.PieceLemmas.{went_within, went_quietly}
use Rattle.sn_client.proofs.device.Device.after_refusal.Goals as goal

pub returns-then-status-eq401-clause-went : goal.returns-then-status-eq401-clause-went
returns-then-status-eq401-clause-went g c = λ kept owner more opens has.
    went_within (IsOpenSince c.args.self kept) (MayHaveSince c.args.self kept) (Resolves owner c.args.present.now c.args.set.now) (AnswersChange owner c.args.present.now c.args.set.now (answer.Refused c.args.status c.args.tag more)) (record { made = c.args.made; rows = kept.rows; words = c.args.words.now }) (record { made = c.args.made; rows = kept.rows; words = c.args.words.now }) kept (g.L.Link.aimed c.args.link.now) (g.L.Link.asks c.args.link.now c.resolve.new.link) c.resolve.new.words c.resolve.result
    (λ acts turn so. inl (c.if-status-eq401.true, so)) (c.resolve.ensures.went kept owner opens has)

pub drop_asked-requires-clause-asked : goal.drop_asked-requires-clause-asked
drop_asked-requires-clause-asked g c = let has = c.requires.holds.1.wanted in (has.0, has.1)

pub returns-clause-went : goal.returns-clause-went
returns-clause-went g c = λ kept owner more opens has.
    went_within (IsOpenSince c.args.self kept) (MayHaveSince c.args.self kept) (Drops (refusal.Refused c.args.status c.args.tag)) (AnswersChange owner c.args.present.now c.args.set.now (answer.Refused c.args.status c.args.tag more)) (record { made = c.args.made; rows = kept.rows; words = c.args.words.now }) (record { made = c.args.made; rows = kept.rows; words = c.args.words.now }) kept (g.L.Link.aimed c.args.link.now) (g.L.Link.asks c.args.link.now c.args.link.now) c.args.words.now c.drop_asked.result
    (λ acts turn so. inr (c.if-status-eq401.false, so)) (went_quietly (IsOpenSince c.args.self kept) (MayHaveSince c.args.self kept) (Drops (refusal.Refused c.args.status c.args.tag)) (record { made = c.args.made; rows = kept.rows; words = c.args.words.now }) kept (g.L.Link.aimed c.args.link.now) c.args.words.now c.drop_asked.result (g.L.Link.asks c.args.link.now c.args.link.now) (g.met.L.Link.asking.none c.args.link.now) (c.drop_asked.ensures.went kept (g.L.Link.aimed c.args.link.now) c.args.words.now c.args.made opens))

pub returns-clause-owned : goal.returns-clause-owned
returns-clause-owned g c =
    never_on c.drop_asked.result (λ device. (owner : OwnerRow) × HasOwner (device_rows device) owner) c.drop_asked.ensures.over

pub returns-clause-none_asked : goal.returns-clause-none_asked
returns-clause-none_asked g c = never_on c.drop_asked.result (λ device. HasNoneAsked (device_rows device)) c.drop_asked.ensures.over

pub returns-clause-few : goal.returns-clause-few
returns-clause-few g c = never_made c.drop_asked.result c.drop_asked.ensures.over

pub returns-clause-words : goal.returns-clause-words
returns-clause-words g c = later_at_once c.args.words.now

pub returns-clause-link_fault : goal.returns-clause-link_fault
returns-clause-link_fault g c =
    no_link_rises (called_past c.drop_asked.result) (Rose (g.L.Link.fault_count c.args.link.now) (g.L.Link.fault_count c.args.link.now)) c.drop_asked.ensures.no_link
