use Rattle.std.proofs.Common.{arith, ◌+◌, Ok, Err, refl, subst, sym}
use Rattle.sn_rows.specs.Table.{Rows}
use Rattle.sn_sync.specs.Fits.{FitsAnswer}
use Rattle.sn_sync.specs.Requests.{route_of}
use Rattle.sn_sync.specs.declared.request.Request.{Request}
use Rattle.sn_sync.specs.declared.request.Request.TheVariants as request
use Rattle.sn_exchange.specs.Asked.{IsHeardBehind}
use Rattle.sn_device.specs.Runs.{Finds}
use Rattle.sn_device.specs.States.{HasOwner}
use Rattle.sn_client.specs.Syncing.{IsOpenSince, MayHaveSince, called_past}
use Rattle.sn_client.proofs.KeepLemmas.{link_rises}
use Rattle.sn_client.proofs.Moments.{still_open}
use Rattle.sn_client.proofs.PieceLemmas.{asks_none, fewer_heard, hears_ill, hears_well}
use Rattle.sn_client.proofs.device.Device.resolve.Goals as goal

pub returns-in_default-clause-went : goal.returns-in_default-clause-went
returns-in_default-clause-went g c = λ kept owner opens has.
    asks_none {T = Unit {0}} (IsOpenSince c.args.self kept) (MayHaveSince c.args.self kept) (request.Params owner.identifier) (Finds owner c.args.present.now c.args.set.now) c.args.made kept c.args.words.now (g.L.Link.aimed c.args.link.now) (g.L.Link.asks c.args.link.now c.args.link.now) c.args.words.now c.args.self
    (g.met.L.Link.asking.none c.args.link.now)
    (still_open c.args.self c.args.self kept refl g.met.D.Disk.only_now opens opens)

pub returns-in-Ok-hear_behind-clause-went : goal.returns-in-Ok-hear_behind-clause-went
returns-in-Ok-hear_behind-clause-went g c = λ kept owner opens has.
    let same = c.in-Ok.ensures owner (subst (λ (r : Rows). HasOwner r owner) (sym opens.rows_are) has) in
    hears_well (IsOpenSince c.args.self kept) (MayHaveSince c.args.self kept) (request.Params owner.identifier) (Finds owner c.args.present.now c.args.set.now) c.args.made kept c.args.words.now (g.L.Link.aimed c.args.link.now) (g.L.Link.asks c.args.link.now c.hear_behind.new.link) (g.L.Link.asks c.hear_behind.new.link c.find.new.link)
    (g.L.Link.asks c.args.link.now c.find.new.link) c.find.new.words c.in-Ok-hear_behind.answer (g.L.Link.aimed c.hear_behind.new.link) (c.args.made + 1) c.find.result
    (λ xs ys x y. g.met.L.Link.asking.more c.args.link.now c.hear_behind.new.link c.find.new.link xs ys x y) c.hear_behind.ensures.aimed (omega arith)
    (subst (λ (r : Request). IsHeardBehind c.args.made (g.L.Link.asks c.args.link.now c.hear_behind.new.link) (g.L.Link.aimed c.args.link.now) r (Ok c.in-Ok-hear_behind.answer)) same c.in-Ok-hear_behind.ensures.heard)
    (c.find.ensures.went kept owner opens has)

pub returns-clause-went : goal.returns-clause-went
returns-clause-went g c = λ kept owner opens has.
    let same = c.in-Ok.ensures owner (subst (λ (r : Rows). HasOwner r owner) (sym opens.rows_are) has) in
    hears_ill {T = Unit {0}} (IsOpenSince c.args.self kept) (MayHaveSince c.args.self kept) (request.Params owner.identifier) (Finds owner c.args.present.now c.args.set.now) c.args.made kept c.args.words.now (g.L.Link.aimed c.args.link.now) (g.L.Link.asks c.args.link.now c.hear_behind.new.link) c.args.words.now c.args.self c.in-Err.why
    (subst (λ (r : Request). IsHeardBehind c.args.made (g.L.Link.asks c.args.link.now c.hear_behind.new.link) (g.L.Link.aimed c.args.link.now) r (Err c.in-Err.why)) same c.in-Err.ensures.heard)
    (still_open c.args.self c.args.self kept refl g.met.D.Disk.only_now opens opens)

pub find-requires-clause-fits : goal.find-requires-clause-fits
find-requires-clause-fits g c = λ granted.
    subst (λ (r : Request). FitsAnswer (route_of r) 200 c.in-Ok-hear_behind.answer)
    (c.in-Ok.ensures c.requires.holds.0 c.requires.holds.1.owned) (c.in-Ok-hear_behind.ensures.fits granted)

pub find-requires-clause-few : goal.find-requires-clause-few
find-requires-clause-few g c =
    let few = fewer_heard c.args.made (g.L.Link.asks c.args.link.now c.hear_behind.new.link) (g.L.Link.aimed c.args.link.now) c.in-Ok.request c.in-Ok-hear_behind.answer
    c.in-Ok-hear_behind.ensures.heard in
    omega (arith, few)

pub returns-in-Ok-hear_behind-clause-link_fault : goal.returns-in-Ok-hear_behind-clause-link_fault
returns-in-Ok-hear_behind-clause-link_fault g c =
    link_rises (g.L.Link.fault_count c.args.link.now) (g.L.Link.fault_count c.hear_behind.new.link) (g.L.Link.fault_count c.find.new.link)
    (called_past c.find.result) c.hear_behind.ensures.link_later c.find.ensures.link_fault
