use Rattle.sn_sets.proofs.Facts.{later_again}
use Rattle.sn_client.specs.Calls.{kept_done}
use Rattle.sn_device.specs.Runs.{AsksFor, Exchanges, SyncsUnder, Then}
use Rattle.sn_client.specs.Syncing.{IsOpenSince, MayHaveSince, WentBy, called_past}
use Rattle.sn_client.specs.declared.piece_end.PieceEnd.TheVariants.{On}
use Rattle.sn_client.proofs.KeepLemmas.{keeps_on, link_rises}
use Rattle.sn_client.proofs.SyncRuns.{taken_cost}
use Rattle.sn_client.proofs.PieceLemmas.{goes_behind, then_over}
use Rattle.sn_client.proofs.device.Device.change_to.Goals as goal

pub change-requires-clause-cost : goal.change-requires-clause-cost
change-requires-clause-cost g c = taken_cost c.args.self.least_cost c.args.cost c.requires.cost

pub returns-in-On-clause-went : goal.returns-in-On-clause-went
returns-in-On-clause-went g c = λ kept owner opens has.
    let first : WentBy {T = Unit {0}} (IsOpenSince c.args.self kept) (MayHaveSince c.args.self kept) (SyncsUnder owner c.args.sets.now) (record { made = 0; rows = kept.rows; words = c.args.words.now }) kept (g.L.Link.aimed c.args.link.now) (g.L.Link.asks c.args.link.now c.bring_together.new.link) c.bring_together.new.words (On c.in-On.device c.in-On.made) =
    c.in-On.ensures.went kept owner opens has in
    goes_behind c.args.self kept (SyncsUnder owner c.args.sets.now) (Then (AsksFor c.args.password.now c.args.cost) Exchanges) (record { made = 0; rows = kept.rows; words = c.args.words.now }) (g.L.Link.aimed c.args.link.now) (g.L.Link.asks c.args.link.now c.bring_together.new.link) (g.L.Link.asks c.bring_together.new.link c.change.new.link)
    (g.L.Link.asks c.args.link.now c.change.new.link) c.bring_together.new.words c.change.new.words c.in-On.device c.in-On.made (g.L.Link.aimed c.bring_together.new.link) c.change.result
    (λ xs ys x y. g.met.L.Link.asking.more c.args.link.now c.bring_together.new.link c.change.new.link xs ys x y) c.bring_together.ensures.aimed first
    (c.change.ensures.went (kept_done kept first.acts) first.stands.opens)

pub returns-in-On-clause-device : goal.returns-in-On-clause-device
returns-in-On-clause-device g c =
    keeps_on c.args.self c.in-On.device (called_past c.change.result) g.met.D.Disk.growing c.in-On.ensures.device.least c.in-On.ensures.device.grows
    c.in-On.ensures.device.later c.change.ensures.device

pub returns-in-On-clause-words : goal.returns-in-On-clause-words
returns-in-On-clause-words g c =
    later_again c.args.words.now c.bring_together.new.words c.change.new.words c.bring_together.ensures.words c.change.ensures.words

pub returns-in-On-clause-link_fault : goal.returns-in-On-clause-link_fault
returns-in-On-clause-link_fault g c =
    link_rises (g.L.Link.fault_count c.args.link.now) (g.L.Link.fault_count c.bring_together.new.link) (g.L.Link.fault_count c.change.new.link)
    (called_past c.change.result) c.bring_together.ensures.link_later c.change.ensures.link_fault

pub returns-in-Over-clause-went : goal.returns-in-Over-clause-went
returns-in-Over-clause-went g c = λ kept owner opens has.
    then_over (IsOpenSince c.args.self kept) (MayHaveSince c.args.self kept) (SyncsUnder owner c.args.sets.now) (Then (AsksFor c.args.password.now c.args.cost) Exchanges) (record { made = 0; rows = kept.rows; words = c.args.words.now }) kept (g.L.Link.aimed c.args.link.now) (g.L.Link.asks c.args.link.now c.bring_together.new.link) c.bring_together.new.words c.in-Over.called
    (c.in-Over.ensures.went kept owner opens has)

pub change-requires-clause-sound : goal.change-requires-clause-sound
change-requires-clause-sound g c = c.in-On.ensures.device.sound

pub change-requires-clause-owned : goal.change-requires-clause-owned
change-requires-clause-owned g c = c.in-On.ensures.owned

pub change-requires-clause-none_asked : goal.change-requires-clause-none_asked
change-requires-clause-none_asked g c = c.in-On.ensures.none_asked

pub change-requires-clause-few : goal.change-requires-clause-few
change-requires-clause-few g c = c.in-On.ensures.few
