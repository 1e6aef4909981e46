use Rattle.std.proofs.Common.{refl, subst}
use Rattle.sn_rows.specs.Table.{Rows}
use Rattle.sn_client.specs.Calls.{IsOpen, MayHave}
use Rattle.sn_device.specs.Runs.{sync}
use Rattle.sn_device.specs.States.{HasNoAccount, HasSets}
use Rattle.sn_client.specs.Syncing.{IsOpenSince, MayHaveSince, gives_nothing}
use Rattle.sn_client.specs.declared.called.Called.TheVariants as called
use Rattle.sn_device.specs.declared.error.ClientError.TheVariants as refusal
use Rattle.sn_client.specs.declared.piece_end.PieceEnd.TheVariants.{On, Over}
use Rattle.sn_client.proofs.Moments.{calls_over, moments_over, still_open}
use Rattle.sn_client.proofs.RegisterLemmas.{refused_call}
use Rattle.sn_client.proofs.SyncRuns.{sync_unowned, sync_wanting, syncs_goes}
use Rattle.sn_client.proofs.device.Device.sync.Goals as goal

pub returns-in-On-clause-runs : goal.returns-in-On-clause-runs
returns-in-On-clause-runs g c = λ kept opens.
    let held = rw c.in-Ok-Some.field-0-is at c.in-Ok-Some.ensures.some in
    let has : HasSets kept.rows held.0 c.in-Ok-Some.sets = subst (λ (r : Rows). HasSets r held.0 c.in-Ok-Some.sets) opens.rows_are held.1 in
    calls_over c.args.self kept gives_nothing c.args.self.least_cost sync (g.L.Link.asks c.args.link.now c.bring_together.new.link) (g.L.Link.aimed c.args.link.now)
    c.args.words.now c.bring_together.new.words (called.Done c.in-On.device tt)
    (syncs_goes (IsOpenSince c.args.self kept) (MayHaveSince c.args.self kept) c.args.self.least_cost kept c.args.words.now (g.L.Link.aimed c.args.link.now)
    (g.L.Link.asks c.args.link.now c.bring_together.new.link) c.bring_together.new.words held.0 c.in-Ok-Some.sets has (On c.in-On.device c.in-On.field-1)
    (called.Done c.in-On.device tt) (tt, refl) (c.in-On.ensures.went kept held.0 opens has))

pub returns-in-On-clause-any_moment : goal.returns-in-On-clause-any_moment
returns-in-On-clause-any_moment g c = λ told kept opens.
    let held = rw c.in-Ok-Some.field-0-is at c.in-Ok-Some.ensures.some in
    let has : HasSets kept.rows held.0 c.in-Ok-Some.sets = subst (λ (r : Rows). HasSets r held.0 c.in-Ok-Some.sets) opens.rows_are held.1 in
    moments_over c.args.self kept gives_nothing c.args.self.least_cost sync (g.L.Link.asks c.args.link.now c.bring_together.new.link)
    (g.L.Link.aimed c.args.link.now) c.args.words.now c.bring_together.new.words (called.Done c.in-On.device tt)
    (syncs_goes (IsOpenSince c.args.self kept) (MayHaveSince c.args.self kept) c.args.self.least_cost kept c.args.words.now (g.L.Link.aimed c.args.link.now)
    (g.L.Link.asks c.args.link.now c.bring_together.new.link) c.bring_together.new.words held.0 c.in-Ok-Some.sets has (On c.in-On.device c.in-On.field-1)
    (called.Done c.in-On.device tt) (tt, refl) (c.in-On.ensures.went kept held.0 opens has)) told

pub returns-in-Ok-Some-clause-runs : goal.returns-in-Ok-Some-clause-runs
returns-in-Ok-Some-clause-runs g c = λ kept opens.
    let held = rw c.in-Ok-Some.field-0-is at c.in-Ok-Some.ensures.some in
    let has : HasSets kept.rows held.0 c.in-Ok-Some.sets = subst (λ (r : Rows). HasSets r held.0 c.in-Ok-Some.sets) opens.rows_are held.1 in
    calls_over c.args.self kept gives_nothing c.args.self.least_cost sync (g.L.Link.asks c.args.link.now c.bring_together.new.link) (g.L.Link.aimed c.args.link.now)
    c.args.words.now c.bring_together.new.words c.in-Over.called
    (syncs_goes (IsOpenSince c.args.self kept) (MayHaveSince c.args.self kept) c.args.self.least_cost kept c.args.words.now (g.L.Link.aimed c.args.link.now)
    (g.L.Link.asks c.args.link.now c.bring_together.new.link) c.bring_together.new.words held.0 c.in-Ok-Some.sets has (Over c.in-Over.called)
    c.in-Over.called refl (c.in-Over.ensures.went kept held.0 opens has))

pub returns-in-Ok-Some-clause-any_moment : goal.returns-in-Ok-Some-clause-any_moment
returns-in-Ok-Some-clause-any_moment g c = λ told kept opens.
    let held = rw c.in-Ok-Some.field-0-is at c.in-Ok-Some.ensures.some in
    let has : HasSets kept.rows held.0 c.in-Ok-Some.sets = subst (λ (r : Rows). HasSets r held.0 c.in-Ok-Some.sets) opens.rows_are held.1 in
    moments_over c.args.self kept gives_nothing c.args.self.least_cost sync (g.L.Link.asks c.args.link.now c.bring_together.new.link)
    (g.L.Link.aimed c.args.link.now) c.args.words.now c.bring_together.new.words c.in-Over.called
    (syncs_goes (IsOpenSince c.args.self kept) (MayHaveSince c.args.self kept) c.args.self.least_cost kept c.args.words.now (g.L.Link.aimed c.args.link.now)
    (g.L.Link.asks c.args.link.now c.bring_together.new.link) c.bring_together.new.words held.0 c.in-Ok-Some.sets has (Over c.in-Over.called)
    c.in-Over.called refl (c.in-Over.ensures.went kept held.0 opens has)) told

pub returns-in-Ok-Some-clause-sound : goal.returns-in-Ok-Some-clause-sound
returns-in-Ok-Some-clause-sound g c = c.in-Over.ensures.device.sound

pub returns-in-Ok-Some-clause-least : goal.returns-in-Ok-Some-clause-least
returns-in-Ok-Some-clause-least g c = c.in-Over.ensures.device.least

pub returns-in-Ok-Some-clause-fault : goal.returns-in-Ok-Some-clause-fault
returns-in-Ok-Some-clause-fault g c = c.in-Over.ensures.device.fault

pub returns-in-Ok-Some-clause-grows : goal.returns-in-Ok-Some-clause-grows
returns-in-Ok-Some-clause-grows g c = c.in-Over.ensures.device.grows

pub returns-in-Ok-Some-clause-later : goal.returns-in-Ok-Some-clause-later
returns-in-Ok-Some-clause-later g c = c.in-Over.ensures.device.later

pub returns-in-Ok-Some-clause-link_fault : goal.returns-in-Ok-Some-clause-link_fault
returns-in-Ok-Some-clause-link_fault g c = c.in-Over.ensures.link_fault

pub returns-in-Ok-None-clause-runs : goal.returns-in-Ok-None-clause-runs
returns-in-Ok-None-clause-runs g c = λ kept opens.
    refused_call {T = Unit {0}} (IsOpen {D = g.row.D.Denot} {g = g.D.Disk}) (MayHave g.D.Disk.told g.D.Disk.may_leave) gives_nothing kept c.args.self.least_cost sync
    (g.L.Link.asks c.args.link.now c.args.link.now) (g.L.Link.aimed c.args.link.now) c.args.words.now c.args.words.now c.args.self refusal.NoAccount opens
    (g.met.L.Link.asking.none c.args.link.now)
    (sync_unowned c.args.self.least_cost kept.rows c.args.words.now
    (subst HasNoAccount opens.rows_are (rw c.in-Ok-None.field-0-is at c.in-Ok-None.ensures.none)))

pub returns-in-Ok-None-clause-any_moment : goal.returns-in-Ok-None-clause-any_moment
returns-in-Ok-None-clause-any_moment g c = λ told kept opens.
    moments_over c.args.self kept gives_nothing c.args.self.least_cost sync (g.L.Link.asks c.args.link.now c.args.link.now) (g.L.Link.aimed c.args.link.now)
    c.args.words.now c.args.words.now (called.Refused c.args.self refusal.NoAccount)
    (refused_call {T = Unit {0}} (IsOpenSince c.args.self kept) (MayHaveSince c.args.self kept) gives_nothing kept c.args.self.least_cost sync
    (g.L.Link.asks c.args.link.now c.args.link.now) (g.L.Link.aimed c.args.link.now) c.args.words.now c.args.words.now c.args.self refusal.NoAccount
    (still_open c.args.self c.args.self kept refl g.met.D.Disk.only_now opens opens) (g.met.L.Link.asking.none c.args.link.now)
    (sync_unowned c.args.self.least_cost kept.rows c.args.words.now
    (subst HasNoAccount opens.rows_are (rw c.in-Ok-None.field-0-is at c.in-Ok-None.ensures.none)))) told

pub returns-clause-runs : goal.returns-clause-runs
returns-clause-runs g c = λ kept opens.
    refused_call {T = Unit {0}} (IsOpen {D = g.row.D.Denot} {g = g.D.Disk}) (MayHave g.D.Disk.told g.D.Disk.may_leave) gives_nothing kept c.args.self.least_cost sync
    (g.L.Link.asks c.args.link.now c.args.link.now) (g.L.Link.aimed c.args.link.now) c.args.words.now c.args.words.now c.args.self refusal.Memory opens
    (g.met.L.Link.asking.none c.args.link.now) (sync_wanting c.args.self.least_cost kept.rows c.args.words.now)

pub returns-clause-any_moment : goal.returns-clause-any_moment
returns-clause-any_moment g c = λ told kept opens.
    moments_over c.args.self kept gives_nothing c.args.self.least_cost sync (g.L.Link.asks c.args.link.now c.args.link.now) (g.L.Link.aimed c.args.link.now)
    c.args.words.now c.args.words.now (called.Refused c.args.self refusal.Memory)
    (refused_call {T = Unit {0}} (IsOpenSince c.args.self kept) (MayHaveSince c.args.self kept) gives_nothing kept c.args.self.least_cost sync
    (g.L.Link.asks c.args.link.now c.args.link.now) (g.L.Link.aimed c.args.link.now) c.args.words.now c.args.words.now c.args.self refusal.Memory
    (still_open c.args.self c.args.self kept refl g.met.D.Disk.only_now opens opens) (g.met.L.Link.asking.none c.args.link.now)
    (sync_wanting c.args.self.least_cost kept.rows c.args.words.now)) told
