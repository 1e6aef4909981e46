use Rattle.std.proofs.Common.{refl, subst}
use Rattle.sn_rows.specs.Table.{Rows}
use Rattle.sn_client.specs.Calls.{IsOpen, MayHave}
use Rattle.sn_drafts.specs.Refusing.{MayRefuse, none_more}
use Rattle.sn_device.specs.Runs.{IsBadCost, WithAccount, passwd}
use Rattle.sn_device.specs.States.{HasSets}
use Rattle.sn_client.specs.Syncing.{IsOpenSince, MayHaveSince, gives_nothing}
use Rattle.sn_client.specs.declared.called.Called.TheVariants as called
use Rattle.sn_device.specs.declared.error.ClientError.TheVariants as refusal
use Rattle.sn_client.specs.declared.piece_end.PieceEnd.TheVariants.{On, Over}
use Rattle.sn_client.proofs.Moments.{calls_over, moments_over, still_open}
use Rattle.sn_client.proofs.RegisterLemmas.{refused_call}
use Rattle.sn_client.proofs.SyncRuns.{passwd_cost, passwd_goes, passwd_unowned}
use Rattle.sn_client.proofs.device.Device.passwd.Goals as goal

pub returns-in-Err-clause-runs : goal.returns-in-Err-clause-runs
returns-in-Err-clause-runs g c = λ kept opens.
    refused_call {T = Unit {0}} (IsOpen {D = g.row.D.Denot} {g = g.D.Disk}) (MayHave g.D.Disk.told g.D.Disk.may_leave) gives_nothing kept c.args.self.least_cost
    (passwd c.args.password.now c.args.cost) (g.L.Link.asks c.args.link.now c.args.link.now) (g.L.Link.aimed c.args.link.now) c.args.words.now c.args.words.now c.args.self c.in-Err.why opens (g.met.L.Link.asking.none c.args.link.now)
    (passwd_unowned c.args.self.least_cost c.args.password.now c.args.cost kept.rows c.args.words.now c.in-Err.why
    (subst (λ (r : Rows). MayRefuse (WithAccount r (λ owner sets. none_more)) c.in-Err.why) opens.rows_are c.in-Err.ensures.err))

pub returns-in-Err-clause-any_moment : goal.returns-in-Err-clause-any_moment
returns-in-Err-clause-any_moment g c = λ told kept opens.
    moments_over c.args.self kept gives_nothing c.args.self.least_cost (passwd c.args.password.now c.args.cost) (g.L.Link.asks c.args.link.now c.args.link.now) (g.L.Link.aimed c.args.link.now) c.args.words.now c.args.words.now (called.Refused c.args.self c.in-Err.why)
    (refused_call {T = Unit {0}} (IsOpenSince c.args.self kept) (MayHaveSince c.args.self kept) gives_nothing kept c.args.self.least_cost (passwd c.args.password.now c.args.cost) (g.L.Link.asks c.args.link.now c.args.link.now) (g.L.Link.aimed c.args.link.now) c.args.words.now c.args.words.now c.args.self c.in-Err.why
    (still_open c.args.self c.args.self kept refl g.met.D.Disk.only_now opens opens) (g.met.L.Link.asking.none c.args.link.now)
    (passwd_unowned c.args.self.least_cost c.args.password.now c.args.cost kept.rows c.args.words.now c.in-Err.why
    (subst (λ (r : Rows). MayRefuse (WithAccount r (λ owner sets. none_more)) c.in-Err.why) opens.rows_are c.in-Err.ensures.err))) told

pub returns-then-is_bad_cost-clause-runs : goal.returns-then-is_bad_cost-clause-runs
returns-then-is_bad_cost-clause-runs g c = λ kept opens.
    refused_call {T = Unit {0}} (IsOpen {D = g.row.D.Denot} {g = g.D.Disk}) (MayHave g.D.Disk.told g.D.Disk.may_leave) gives_nothing kept c.args.self.least_cost
    (passwd c.args.password.now c.args.cost) (g.L.Link.asks c.args.link.now c.args.link.now) (g.L.Link.aimed c.args.link.now) c.args.words.now c.args.words.now c.args.self (refusal.Cost c.args.cost) opens (g.met.L.Link.asking.none c.args.link.now)
    (passwd_cost c.args.self.least_cost c.args.password.now c.args.cost kept.rows c.args.words.now c.in-Ok.ensures.ok.0 c.in-Ok.sets
    (subst (λ (r : Rows). HasSets r c.in-Ok.ensures.ok.0 c.in-Ok.sets) opens.rows_are c.in-Ok.ensures.ok.1)
    (c.is_bad_cost.ensures.0 c.if-is_bad_cost.true))

pub returns-then-is_bad_cost-clause-any_moment : goal.returns-then-is_bad_cost-clause-any_moment
returns-then-is_bad_cost-clause-any_moment g c = λ told kept opens.
    moments_over c.args.self kept gives_nothing c.args.self.least_cost (passwd c.args.password.now c.args.cost) (g.L.Link.asks c.args.link.now c.args.link.now) (g.L.Link.aimed c.args.link.now) c.args.words.now c.args.words.now (called.Refused c.args.self (refusal.Cost c.args.cost))
    (refused_call {T = Unit {0}} (IsOpenSince c.args.self kept) (MayHaveSince c.args.self kept) gives_nothing kept c.args.self.least_cost (passwd c.args.password.now c.args.cost) (g.L.Link.asks c.args.link.now c.args.link.now) (g.L.Link.aimed c.args.link.now) c.args.words.now c.args.words.now c.args.self (refusal.Cost c.args.cost)
    (still_open c.args.self c.args.self kept refl g.met.D.Disk.only_now opens opens) (g.met.L.Link.asking.none c.args.link.now)
    (passwd_cost c.args.self.least_cost c.args.password.now c.args.cost kept.rows c.args.words.now c.in-Ok.ensures.ok.0 c.in-Ok.sets
    (subst (λ (r : Rows). HasSets r c.in-Ok.ensures.ok.0 c.in-Ok.sets) opens.rows_are c.in-Ok.ensures.ok.1)
    (c.is_bad_cost.ensures.0 c.if-is_bad_cost.true))) told

pub change_to-requires-clause-cost : goal.change_to-requires-clause-cost
change_to-requires-clause-cost g c = λ bad. let is = c.is_bad_cost.ensures.1 bad in let not = c.if-is_bad_cost.false in cc

pub returns-in-On-clause-runs : goal.returns-in-On-clause-runs
returns-in-On-clause-runs g c = λ kept opens.
    let taken : ¬ (IsBadCost c.args.self.least_cost c.args.cost) = λ bad. let is = c.is_bad_cost.ensures.1 bad in let not = c.if-is_bad_cost.false in cc in
    let has : HasSets kept.rows c.in-Ok.ensures.ok.0 c.in-Ok.sets = subst (λ (r : Rows). HasSets r c.in-Ok.ensures.ok.0 c.in-Ok.sets) opens.rows_are c.in-Ok.ensures.ok.1 in
    calls_over c.args.self kept gives_nothing c.args.self.least_cost (passwd c.args.password.now c.args.cost) (g.L.Link.asks c.args.link.now c.change_to.new.link)
    (g.L.Link.aimed c.args.link.now) c.args.words.now c.change_to.new.words (called.Done c.in-On.device tt)
    (passwd_goes (IsOpenSince c.args.self kept) (MayHaveSince c.args.self kept) c.args.self.least_cost kept c.args.words.now (g.L.Link.aimed c.args.link.now)
    (g.L.Link.asks c.args.link.now c.change_to.new.link) c.change_to.new.words c.in-Ok.ensures.ok.0 c.in-Ok.sets has (On c.in-On.device c.in-On.field-1)
    (called.Done c.in-On.device tt) (tt, refl) c.args.password.now c.args.cost taken (c.in-On.ensures.went kept c.in-Ok.ensures.ok.0 opens has))

pub returns-in-On-clause-any_moment : goal.returns-in-On-clause-any_moment
returns-in-On-clause-any_moment g c = λ told kept opens.
    let taken : ¬ (IsBadCost c.args.self.least_cost c.args.cost) = λ bad. let is = c.is_bad_cost.ensures.1 bad in let not = c.if-is_bad_cost.false in cc in
    let has : HasSets kept.rows c.in-Ok.ensures.ok.0 c.in-Ok.sets = subst (λ (r : Rows). HasSets r c.in-Ok.ensures.ok.0 c.in-Ok.sets) opens.rows_are c.in-Ok.ensures.ok.1 in
    moments_over c.args.self kept gives_nothing c.args.self.least_cost (passwd c.args.password.now c.args.cost) (g.L.Link.asks c.args.link.now c.change_to.new.link)
    (g.L.Link.aimed c.args.link.now) c.args.words.now c.change_to.new.words (called.Done c.in-On.device tt)
    (passwd_goes (IsOpenSince c.args.self kept) (MayHaveSince c.args.self kept) c.args.self.least_cost kept c.args.words.now (g.L.Link.aimed c.args.link.now)
    (g.L.Link.asks c.args.link.now c.change_to.new.link) c.change_to.new.words c.in-Ok.ensures.ok.0 c.in-Ok.sets has (On c.in-On.device c.in-On.field-1)
    (called.Done c.in-On.device tt) (tt, refl) c.args.password.now c.args.cost taken (c.in-On.ensures.went kept c.in-Ok.ensures.ok.0 opens has)) told

pub returns-clause-runs : goal.returns-clause-runs
returns-clause-runs g c = λ kept opens.
    let taken : ¬ (IsBadCost c.args.self.least_cost c.args.cost) = λ bad. let is = c.is_bad_cost.ensures.1 bad in let not = c.if-is_bad_cost.false in cc in
    let has : HasSets kept.rows c.in-Ok.ensures.ok.0 c.in-Ok.sets = subst (λ (r : Rows). HasSets r c.in-Ok.ensures.ok.0 c.in-Ok.sets) opens.rows_are c.in-Ok.ensures.ok.1 in
    calls_over c.args.self kept gives_nothing c.args.self.least_cost (passwd c.args.password.now c.args.cost) (g.L.Link.asks c.args.link.now c.change_to.new.link)
    (g.L.Link.aimed c.args.link.now) c.args.words.now c.change_to.new.words c.in-Over.called
    (passwd_goes (IsOpenSince c.args.self kept) (MayHaveSince c.args.self kept) c.args.self.least_cost kept c.args.words.now (g.L.Link.aimed c.args.link.now)
    (g.L.Link.asks c.args.link.now c.change_to.new.link) c.change_to.new.words c.in-Ok.ensures.ok.0 c.in-Ok.sets has (Over c.in-Over.called)
    c.in-Over.called refl c.args.password.now c.args.cost taken (c.in-Over.ensures.went kept c.in-Ok.ensures.ok.0 opens has))

pub returns-clause-any_moment : goal.returns-clause-any_moment
returns-clause-any_moment g c = λ told kept opens.
    let taken : ¬ (IsBadCost c.args.self.least_cost c.args.cost) = λ bad. let is = c.is_bad_cost.ensures.1 bad in let not = c.if-is_bad_cost.false in cc in
    let has : HasSets kept.rows c.in-Ok.ensures.ok.0 c.in-Ok.sets = subst (λ (r : Rows). HasSets r c.in-Ok.ensures.ok.0 c.in-Ok.sets) opens.rows_are c.in-Ok.ensures.ok.1 in
    moments_over c.args.self kept gives_nothing c.args.self.least_cost (passwd c.args.password.now c.args.cost) (g.L.Link.asks c.args.link.now c.change_to.new.link)
    (g.L.Link.aimed c.args.link.now) c.args.words.now c.change_to.new.words c.in-Over.called
    (passwd_goes (IsOpenSince c.args.self kept) (MayHaveSince c.args.self kept) c.args.self.least_cost kept c.args.words.now (g.L.Link.aimed c.args.link.now)
    (g.L.Link.asks c.args.link.now c.change_to.new.link) c.change_to.new.words c.in-Ok.ensures.ok.0 c.in-Ok.sets has (Over c.in-Over.called)
    c.in-Over.called refl c.args.password.now c.args.cost taken (c.in-Over.ensures.went kept c.in-Ok.ensures.ok.0 opens has)) told

pub returns-clause-sound : goal.returns-clause-sound
returns-clause-sound g c = c.in-Over.ensures.device.sound

pub returns-clause-least : goal.returns-clause-least
returns-clause-least g c = c.in-Over.ensures.device.least

pub returns-clause-fault : goal.returns-clause-fault
returns-clause-fault g c = c.in-Over.ensures.device.fault

pub returns-clause-grows : goal.returns-clause-grows
returns-clause-grows g c = c.in-Over.ensures.device.grows

pub returns-clause-later : goal.returns-clause-later
returns-clause-later g c = c.in-Over.ensures.device.later

pub returns-clause-link_fault : goal.returns-clause-link_fault
returns-clause-link_fault g c = c.in-Over.ensures.link_fault
