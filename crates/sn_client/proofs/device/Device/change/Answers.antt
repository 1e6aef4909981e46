use Rattle.sn_sets.proofs.Facts.{later_again}
use Rattle.sn_client.specs.Calls.{kept_done}
use Rattle.sn_device.specs.Runs.{AsksFor, Exchanges}
use Rattle.sn_client.specs.Syncing.{IsOpenSince, MayHaveSince, WentBy, called_past}
use Rattle.sn_client.specs.declared.piece_end.PieceEnd.TheVariants.{On}
use Rattle.sn_client.proofs.KeepLemmas.{keeps_on, link_rises}
use Rattle.sn_client.proofs.PieceLemmas.{goes_behind, then_over}
use Rattle.sn_client.proofs.device.Device.change.Goals as goal

pub returns-in-On-clause-went : goal.returns-in-On-clause-went
returns-in-On-clause-went g c = λ kept opens.
    let first : WentBy {T = Unit {0}} (IsOpenSince c.args.self kept) (MayHaveSince c.args.self kept) (AsksFor c.args.password.now c.args.cost) (record { made = c.args.made; rows = kept.rows; words = c.args.words.now }) kept (g.L.Link.aimed c.args.link.now) (g.L.Link.asks c.args.link.now c.ask_for.new.link) c.ask_for.new.words (On c.in-On.device c.in-On.made) =
    c.in-On.ensures.went kept opens in
    goes_behind c.args.self kept (AsksFor c.args.password.now c.args.cost) Exchanges (record { made = c.args.made; rows = kept.rows; words = c.args.words.now }) (g.L.Link.aimed c.args.link.now) (g.L.Link.asks c.args.link.now c.ask_for.new.link) (g.L.Link.asks c.ask_for.new.link c.exchanges.new.link)
    (g.L.Link.asks c.args.link.now c.exchanges.new.link) c.ask_for.new.words c.exchanges.new.words c.in-On.device c.in-On.made (g.L.Link.aimed c.ask_for.new.link) c.exchanges.result
    (λ xs ys x y. g.met.L.Link.asking.more c.args.link.now c.ask_for.new.link c.exchanges.new.link xs ys x y) c.ask_for.ensures.aimed first
    (c.exchanges.ensures.went (kept_done kept first.acts) first.stands.opens)

pub returns-in-On-clause-device : goal.returns-in-On-clause-device
returns-in-On-clause-device g c =
    keeps_on c.args.self c.in-On.device (called_past c.exchanges.result) g.met.D.Disk.growing c.in-On.ensures.device.least c.in-On.ensures.device.grows
    c.in-On.ensures.device.later c.exchanges.ensures.device

pub returns-in-On-clause-words : goal.returns-in-On-clause-words
returns-in-On-clause-words g c =
    later_again c.args.words.now c.ask_for.new.words c.exchanges.new.words c.ask_for.ensures.words c.exchanges.ensures.words

pub returns-in-On-clause-link_fault : goal.returns-in-On-clause-link_fault
returns-in-On-clause-link_fault g c =
    link_rises (g.L.Link.fault_count c.args.link.now) (g.L.Link.fault_count c.ask_for.new.link) (g.L.Link.fault_count c.exchanges.new.link)
    (called_past c.exchanges.result) c.ask_for.ensures.link_later c.exchanges.ensures.link_fault

pub returns-in-Over-clause-went : goal.returns-in-Over-clause-went
returns-in-Over-clause-went g c = λ kept opens.
    then_over (IsOpenSince c.args.self kept) (MayHaveSince c.args.self kept) (AsksFor c.args.password.now c.args.cost) Exchanges (record { made = c.args.made; rows = kept.rows; words = c.args.words.now }) kept (g.L.Link.aimed c.args.link.now) (g.L.Link.asks c.args.link.now c.ask_for.new.link) c.ask_for.new.words c.in-Over.called
    (c.in-Over.ensures.went kept opens)

pub exchanges-requires-clause-sound : goal.exchanges-requires-clause-sound
exchanges-requires-clause-sound g c = c.in-On.ensures.device.sound

pub exchanges-requires-clause-owned : goal.exchanges-requires-clause-owned
exchanges-requires-clause-owned g c = c.in-On.ensures.owned

pub exchanges-requires-clause-none_asked : goal.exchanges-requires-clause-none_asked
exchanges-requires-clause-none_asked g c = c.in-On.ensures.none_asked

pub exchanges-requires-clause-few : goal.exchanges-requires-clause-few
exchanges-requires-clause-few g c = c.in-On.ensures.few
