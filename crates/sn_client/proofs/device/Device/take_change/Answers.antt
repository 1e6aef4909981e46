use Rattle.std.proofs.Common.{subst, sym}
use Rattle.sn_io.specs.Causes.{Rose}
use Rattle.sn_sync.specs.Fits.{FitsAnswer}
use Rattle.sn_sync.specs.declared.answer.Answer.{Answer}
use Rattle.sn_sync.specs.declared.answer.Answer.TheVariants as answer
use Rattle.sn_sync.specs.declared.request.Route.TheVariants as route
use Rattle.sn_exchange.specs.Asked.{IsGranted}
use Rattle.sn_device.specs.Runs.{AnswersChange, CommitsStep}
use Rattle.sn_device.specs.Steps.{adopts}
use Rattle.sn_client.specs.Syncing.{IsOpenSince, MayHaveSince, WentBy, called_past}
use Rattle.sn_client.proofs.KeepLemmas.{no_link_rises}
use Rattle.sn_client.proofs.PieceLemmas.{went_within, went_quietly}
use Rattle.sn_client.proofs.device.Device.take_change.Goals as goal

pub returns-in-Account-clause-went : goal.returns-in-Account-clause-went
returns-in-Account-clause-went g c = λ kept owner opens has.
    subst (λ (a : Answer). WentBy (IsOpenSince c.args.self kept) (MayHaveSince c.args.self kept) (AnswersChange owner c.args.present.now c.args.set.now a) (record { made = c.args.made; rows = kept.rows; words = c.args.words.now }) kept (g.L.Link.aimed c.args.link.now) (g.L.Link.asks c.args.link.now c.args.link.now) c.adopt.new.words c.adopt.result)
    (sym c.in-Account.is)
    (went_within (IsOpenSince c.args.self kept) (MayHaveSince c.args.self kept) (CommitsStep (adopts c.args.set.now c.in-Account.token)) (AnswersChange owner c.args.present.now c.args.set.now (answer.Account c.in-Account.token c.in-Account.identifier c.in-Account.uuid)) (record { made = c.args.made; rows = kept.rows; words = c.args.words.now }) (record { made = c.args.made; rows = kept.rows; words = c.args.words.now }) kept (g.L.Link.aimed c.args.link.now) (g.L.Link.asks c.args.link.now c.args.link.now) c.adopt.new.words c.adopt.result (λ acts turn so. so)
    (went_quietly (IsOpenSince c.args.self kept) (MayHaveSince c.args.self kept) (CommitsStep (adopts c.args.set.now c.in-Account.token)) (record { made = c.args.made; rows = kept.rows; words = c.args.words.now }) kept (g.L.Link.aimed c.args.link.now) c.adopt.new.words c.adopt.result (g.L.Link.asks c.args.link.now c.args.link.now) (g.met.L.Link.asking.none c.args.link.now) (c.adopt.ensures.went kept (g.L.Link.aimed c.args.link.now) opens)))

pub returns-in-Account-clause-link_fault : goal.returns-in-Account-clause-link_fault
returns-in-Account-clause-link_fault g c =
    no_link_rises (called_past c.adopt.result) (Rose (g.L.Link.fault_count c.args.link.now) (g.L.Link.fault_count c.args.link.now)) c.adopt.ensures.no_link

pub adopt-requires-clause-owned : goal.adopt-requires-clause-owned
adopt-requires-clause-owned g c = (c.requires.holds.0, c.requires.holds.1.owned, c.requires.holds.1.wanted.2.identifier_is)

pub adopt-requires-clause-token : goal.adopt-requires-clause-token
adopt-requires-clause-token g c =
    let fits : IsGranted (answer.Account c.in-Account.token c.in-Account.identifier c.in-Account.uuid) → FitsAnswer route.ChangePw 200 (answer.Account c.in-Account.token c.in-Account.identifier c.in-Account.uuid) =
    subst (λ (a : Answer). IsGranted a → FitsAnswer route.ChangePw 200 a) c.in-Account.is c.requires.fits in
    let parts = fits tt in parts.3

pub returns-in-Refused-clause-went : goal.returns-in-Refused-clause-went
returns-in-Refused-clause-went g c = λ kept owner opens has.
    subst (λ (a : Answer). WentBy (IsOpenSince c.args.self kept) (MayHaveSince c.args.self kept) (AnswersChange owner c.args.present.now c.args.set.now a) (record { made = c.args.made; rows = kept.rows; words = c.args.words.now }) kept (g.L.Link.aimed c.args.link.now) (g.L.Link.asks c.args.link.now c.after_refusal.new.link) c.after_refusal.new.words c.after_refusal.result)
    (sym c.in-Refused.is)
    (went_within (IsOpenSince c.args.self kept) (MayHaveSince c.args.self kept) (AnswersChange owner c.args.present.now c.args.set.now (answer.Refused c.in-Refused.status c.in-Refused.tag c.in-Refused.more)) (AnswersChange owner c.args.present.now c.args.set.now (answer.Refused c.in-Refused.status c.in-Refused.tag c.in-Refused.more)) (record { made = c.args.made; rows = kept.rows; words = c.args.words.now }) (record { made = c.args.made; rows = kept.rows; words = c.args.words.now }) kept (g.L.Link.aimed c.args.link.now) (g.L.Link.asks c.args.link.now c.after_refusal.new.link) c.after_refusal.new.words c.after_refusal.result (λ acts turn so. so)
    (c.after_refusal.ensures.went kept owner c.in-Refused.more opens has))

pub returns-in-Account-clause-few : goal.returns-in-Account-clause-few
returns-in-Account-clause-few g c = c.adopt.ensures.few c.requires.few
