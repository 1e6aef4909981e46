use Rattle.std.proofs.Common.{inl, inr}
use Rattle.sn_sets.proofs.Facts.{later_again}
use Rattle.sn_client.specs.Calls.{device_rows, kept_done}
use Rattle.sn_device.specs.Runs.{Exchanges, Resolves, SyncsUnder, Then}
use Rattle.sn_client.specs.Syncing.{IsOpenSince, MayHaveSince, WentBy, called_past}
use Rattle.sn_client.specs.declared.piece_end.PieceEnd.TheVariants.{On, Over}
use Rattle.sn_client.proofs.KeepLemmas.{keeps_on, link_rises}
use Rattle.sn_client.proofs.SettledLemmas.{asks_nothing, asks_set}
use Rattle.sn_local.proofs.Facts.{is_nothing}
use Rattle.sn_client.proofs.PieceLemmas.{goes_behind, then_over, went_within}
use Rattle.sn_client.proofs.device.Device.bring_together.Goals as goal

pub exchanges-requires-clause-owned : goal.exchanges-requires-clause-owned
exchanges-requires-clause-owned g c = (c.requires.holds.0, c.requires.holds.1.owned)

pub exchanges-requires-clause-none_asked : goal.exchanges-requires-clause-none_asked
exchanges-requires-clause-none_asked g c =
    asks_nothing (device_rows c.args.self) c.requires.holds.0 c.args.sets.now c.requires.holds.1 (is_nothing c.args.sets.now.asked c.in_default.not-Some)

pub returns-in_default-clause-went : goal.returns-in_default-clause-went
returns-in_default-clause-went g c = λ kept owner opens has.
    went_within (IsOpenSince c.args.self kept) (MayHaveSince c.args.self kept) Exchanges (SyncsUnder owner c.args.sets.now) (record { made = 0; rows = kept.rows; words = c.args.words.now }) (record { made = 0; rows = kept.rows; words = c.args.words.now }) kept (g.L.Link.aimed c.args.link.now) (g.L.Link.asks c.args.link.now c.exchanges.new.link) c.exchanges.new.words c.exchanges.result
    (λ acts turn so. inl (is_nothing c.args.sets.now.asked c.in_default.not-Some, so)) (c.exchanges.ensures.went kept opens)

pub resolve-requires-clause-holds : goal.resolve-requires-clause-holds
resolve-requires-clause-holds g c =
    (c.requires.holds.0, asks_set (device_rows c.args.self) c.requires.holds.0 c.args.sets.now c.in-Some.set c.requires.holds.1 c.in-Some.is)

pub returns-in-On-clause-went : goal.returns-in-On-clause-went
returns-in-On-clause-went g c = λ kept owner opens has.
    let first : WentBy {T = Unit {0}} (IsOpenSince c.args.self kept) (MayHaveSince c.args.self kept) (Resolves owner c.args.sets.now.present c.in-Some.set) (record { made = 0; rows = kept.rows; words = c.args.words.now }) kept (g.L.Link.aimed c.args.link.now) (g.L.Link.asks c.args.link.now c.resolve.new.link) c.resolve.new.words (On c.in-On.device c.in-On.made) =
    c.in-On.ensures.went kept owner opens has.owned in
    let both : WentBy (IsOpenSince c.args.self kept) (MayHaveSince c.args.self kept) (Then (Resolves owner c.args.sets.now.present c.in-Some.set) Exchanges) (record { made = 0; rows = kept.rows; words = c.args.words.now }) kept (g.L.Link.aimed c.args.link.now) (g.L.Link.asks c.args.link.now c.exchanges-in-On.new.link) c.exchanges-in-On.new.words c.exchanges-in-On.result =
    goes_behind c.args.self kept (Resolves owner c.args.sets.now.present c.in-Some.set) Exchanges (record { made = 0; rows = kept.rows; words = c.args.words.now }) (g.L.Link.aimed c.args.link.now) (g.L.Link.asks c.args.link.now c.resolve.new.link) (g.L.Link.asks c.resolve.new.link c.exchanges-in-On.new.link)
    (g.L.Link.asks c.args.link.now c.exchanges-in-On.new.link) c.resolve.new.words c.exchanges-in-On.new.words c.in-On.device c.in-On.made (g.L.Link.aimed c.resolve.new.link) c.exchanges-in-On.result
    (λ xs ys x y. g.met.L.Link.asking.more c.args.link.now c.resolve.new.link c.exchanges-in-On.new.link xs ys x y) c.resolve.ensures.aimed first
    (c.exchanges-in-On.ensures.went (kept_done kept first.acts) first.stands.opens) in
    went_within (IsOpenSince c.args.self kept) (MayHaveSince c.args.self kept) (Then (Resolves owner c.args.sets.now.present c.in-Some.set) Exchanges) (SyncsUnder owner c.args.sets.now) (record { made = 0; rows = kept.rows; words = c.args.words.now }) (record { made = 0; rows = kept.rows; words = c.args.words.now }) kept (g.L.Link.aimed c.args.link.now) (g.L.Link.asks c.args.link.now c.exchanges-in-On.new.link)
    c.exchanges-in-On.new.words c.exchanges-in-On.result (λ acts turn so. inr (c.in-Some.set, c.in-Some.is, so)) both

pub returns-in-On-clause-device : goal.returns-in-On-clause-device
returns-in-On-clause-device g c =
    keeps_on c.args.self c.in-On.device (called_past c.exchanges-in-On.result) g.met.D.Disk.growing c.in-On.ensures.device.least c.in-On.ensures.device.grows
    c.in-On.ensures.device.later c.exchanges-in-On.ensures.device

pub returns-in-On-clause-words : goal.returns-in-On-clause-words
returns-in-On-clause-words g c =
    later_again c.args.words.now c.resolve.new.words c.exchanges-in-On.new.words c.resolve.ensures.words c.exchanges-in-On.ensures.words

pub returns-in-On-clause-link_fault : goal.returns-in-On-clause-link_fault
returns-in-On-clause-link_fault g c =
    link_rises (g.L.Link.fault_count c.args.link.now) (g.L.Link.fault_count c.resolve.new.link) (g.L.Link.fault_count c.exchanges-in-On.new.link)
    (called_past c.exchanges-in-On.result) c.resolve.ensures.link_later c.exchanges-in-On.ensures.link_fault

pub returns-in-Over-clause-went : goal.returns-in-Over-clause-went
returns-in-Over-clause-went g c = λ kept owner opens has.
    went_within (IsOpenSince c.args.self kept) (MayHaveSince c.args.self kept) (Then (Resolves owner c.args.sets.now.present c.in-Some.set) Exchanges) (SyncsUnder owner c.args.sets.now) (record { made = 0; rows = kept.rows; words = c.args.words.now }) (record { made = 0; rows = kept.rows; words = c.args.words.now }) kept (g.L.Link.aimed c.args.link.now) (g.L.Link.asks c.args.link.now c.resolve.new.link) c.resolve.new.words (Over c.in-Over.called)
    (λ acts turn so. inr (c.in-Some.set, c.in-Some.is, so))
    (then_over (IsOpenSince c.args.self kept) (MayHaveSince c.args.self kept) (Resolves owner c.args.sets.now.present c.in-Some.set) Exchanges (record { made = 0; rows = kept.rows; words = c.args.words.now }) kept (g.L.Link.aimed c.args.link.now) (g.L.Link.asks c.args.link.now c.resolve.new.link) c.resolve.new.words c.in-Over.called
    (c.in-Over.ensures.went kept owner opens has.owned))

pub exchanges-requires-in-On-clause-sound : goal.exchanges-requires-in-On-clause-sound
exchanges-requires-in-On-clause-sound g c = c.in-On.ensures.device.sound

pub exchanges-requires-in-On-clause-owned : goal.exchanges-requires-in-On-clause-owned
exchanges-requires-in-On-clause-owned g c = c.in-On.ensures.owned

pub exchanges-requires-in-On-clause-none_asked : goal.exchanges-requires-in-On-clause-none_asked
exchanges-requires-in-On-clause-none_asked g c = c.in-On.ensures.none_asked

pub exchanges-requires-in-On-clause-few : goal.exchanges-requires-in-On-clause-few
exchanges-requires-in-On-clause-few g c = c.in-On.ensures.few
