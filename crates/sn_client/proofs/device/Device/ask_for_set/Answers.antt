use Rattle.std.proofs.Common.{refl, subst, sym}
use Rattle.sn_rows.specs.Table.{Rows, rows_after}
use Rattle.sn_string.specs.declared.params.KeySet.{KeySet}
use Rattle.sn_table.specs.Kept.{Kept, with_batch}
use Rattle.sn_client.specs.Calls.{device_rows}
use Rattle.sn_device.specs.Changing.{HoldsAsked}
use Rattle.sn_device.specs.Runs.{AnswersChange, AsksHost, CommitsStep, change_to}
use Rattle.sn_device.specs.States.{HasSets, IsSound}
use Rattle.sn_device.specs.Steps.{Asks, asks}
use Rattle.sn_client.specs.Syncing.{IsOpenSince, MayHaveSince, WentBy, called_past}
use Rattle.sn_client.specs.declared.called.Called.TheVariants as called
use Rattle.sn_device.specs.declared.error.ClientError.{ClientError}
use Rattle.sn_device.specs.declared.error.ClientError.TheVariants as refusal
use Rattle.sn_client.specs.declared.piece_end.PieceEnd.TheVariants.{Over}
use Rattle.sn_client.proofs.AnswerLemmas.{held_by}
use Rattle.sn_client.proofs.KeepLemmas.{keeps_on}
use Rattle.sn_client.proofs.Moments.{committed_broken, committed_open, still_open}
use Rattle.sn_client.proofs.SettledLemmas.{asks_holds}
use Rattle.sn_device.proofs.Facts.{steps_stay_sound}
use Rattle.sn_client.proofs.PieceLemmas.{commit_behind, commit_broken, commit_refused, commits_none, then_over}
use Rattle.sn_client.proofs.device.Device.ask_for_set.Goals as goal

pub returns-in_default-clause-went : goal.returns-in_default-clause-went
returns-in_default-clause-went g c = λ kept owner opens has.
    then_over (IsOpenSince c.args.self kept) (MayHaveSince c.args.self kept) (CommitsStep (asks c.args.set.now)) (AsksHost (change_to owner c.args.present.now c.args.set.now) (AnswersChange owner c.args.present.now c.args.set.now)) (record { made = c.args.made; rows = kept.rows; words = c.args.words.now }) kept (g.L.Link.aimed c.args.link.now) (g.L.Link.asks c.args.link.now c.args.link.now) c.args.words.now (called.Refused c.args.self refusal.Memory)
    (commits_none {T = Unit {0}} (IsOpenSince c.args.self kept) (MayHaveSince c.args.self kept) (asks c.args.set.now) c.args.made kept c.args.words.now (g.L.Link.aimed c.args.link.now) (g.L.Link.asks c.args.link.now c.args.link.now) c.args.words.now c.args.self (g.met.L.Link.asking.none c.args.link.now)
    (still_open c.args.self c.args.self kept refl g.met.D.Disk.only_now opens opens))

pub send_change-requires-clause-sound : goal.send_change-requires-clause-sound
send_change-requires-clause-sound g c =
    subst IsSound (sym c.in-Done.ensures.rows)
    (steps_stay_sound (device_rows c.args.self) c.args.words.now c.args.words.now (asks c.args.set.now) c.in-Ok.changes.items c.requires.sound ((c.in-Ok.ensures.asks (device_rows c.args.self) c.requires.may.0 c.requires.may.1 c.requires.may.2 c.requires.may.3 c.requires.may.5), refl))

pub send_change-requires-clause-holds : goal.send_change-requires-clause-holds
send_change-requires-clause-holds g c =
    let asked : HoldsAsked (rows_after (device_rows c.args.self) c.in-Ok.changes.items) c.requires.may.0 c.requires.may.1.present c.args.set.now =
    asks_holds (device_rows c.args.self) c.requires.may.0 c.requires.may.1 c.args.set.now c.in-Ok.changes.items c.requires.may.2 (c.in-Ok.ensures.asks (device_rows c.args.self) c.requires.may.0 c.requires.may.1 c.requires.may.2 c.requires.may.3 c.requires.may.5) in (
      c.requires.may.0,
      subst (λ (r : Rows). HoldsAsked r c.requires.may.0 c.args.present.now c.args.set.now) (sym c.in-Done.ensures.rows)
          (subst (λ (present : KeySet). HoldsAsked (rows_after (device_rows c.args.self) c.in-Ok.changes.items) c.requires.may.0 present c.args.set.now) c.requires.may.4 asked),
    )

pub returns-in-Done-clause-went : goal.returns-in-Done-clause-went
returns-in-Done-clause-went g c = λ kept owner opens has.
    let now : Kept = with_batch kept c.in-Ok.changes.items in
    let held : HasSets kept.rows c.requires.may.0 c.requires.may.1 =
    subst (λ (r : Rows). HasSets r c.requires.may.0 c.requires.may.1) opens.rows_are c.requires.may.2 in
    let step : Asks kept.rows c.args.set.now c.in-Ok.changes.items = subst (λ (r : Rows). Asks r c.args.set.now c.in-Ok.changes.items) opens.rows_are (c.in-Ok.ensures.asks (device_rows c.args.self) c.requires.may.0 c.requires.may.1 c.requires.may.2 c.requires.may.3 c.requires.may.5) in
    let asked : HoldsAsked now.rows owner c.requires.may.1.present c.args.set.now =
    asks_holds kept.rows owner c.requires.may.1 c.args.set.now c.in-Ok.changes.items (held_by kept.rows c.requires.may.0 owner c.requires.may.1 held has) step in
    commit_behind c.args.self kept (asks c.args.set.now) (AsksHost (change_to owner c.args.present.now c.args.set.now) (AnswersChange owner c.args.present.now c.args.set.now)) c.args.made c.args.words.now (g.L.Link.aimed c.args.link.now) (g.L.Link.asks c.args.link.now c.send_change.new.link) c.send_change.new.words c.in-Ok.changes.items c.args.words.now
    (step, refl) c.in-Done.device c.send_change.result c.in-Done.ensures.fits.0
    (committed_open c.args.self c.in-Done.device kept c.in-Ok.changes.items (λ told. c.in-Done.ensures.any_moment told kept opens) (c.in-Done.ensures.done kept opens))
    (c.send_change.ensures.went now owner (c.in-Done.ensures.done kept opens) asked.owned)

pub returns-in-Done-clause-device : goal.returns-in-Done-clause-device
returns-in-Done-clause-device g c =
    keeps_on c.args.self c.in-Done.device (called_past c.send_change.result) g.met.D.Disk.growing c.in-Done.ensures.least.0 c.in-Done.ensures.grows
    c.in-Done.ensures.later c.send_change.ensures.device

pub returns-in-Refused-clause-went : goal.returns-in-Refused-clause-went
returns-in-Refused-clause-went g c = λ kept owner opens has.
    then_over (IsOpenSince c.args.self kept) (MayHaveSince c.args.self kept) (CommitsStep (asks c.args.set.now)) (AsksHost (change_to owner c.args.present.now c.args.set.now) (AnswersChange owner c.args.present.now c.args.set.now)) (record { made = c.args.made; rows = kept.rows; words = c.args.words.now }) kept (g.L.Link.aimed c.args.link.now) (g.L.Link.asks c.args.link.now c.args.link.now) c.args.words.now (called.Refused c.in-Refused.device c.of_commit.result)
    (subst (λ (why : ClientError). WentBy {T = Unit {0}} (IsOpenSince c.args.self kept) (MayHaveSince c.args.self kept) (CommitsStep (asks c.args.set.now)) (record { made = c.args.made; rows = kept.rows; words = c.args.words.now }) kept (g.L.Link.aimed c.args.link.now) (g.L.Link.asks c.args.link.now c.args.link.now) c.args.words.now
    (Over (called.Refused c.in-Refused.device why)))
    (sym c.of_commit.ensures)
    (commit_refused {T = Unit {0}} (IsOpenSince c.args.self kept) (MayHaveSince c.args.self kept) (asks c.args.set.now) c.args.made kept c.args.words.now (g.L.Link.aimed c.args.link.now) (g.L.Link.asks c.args.link.now c.args.link.now) c.args.words.now c.in-Ok.changes.items c.args.words.now
    (subst (λ (r : Rows). Asks r c.args.set.now c.in-Ok.changes.items) opens.rows_are (c.in-Ok.ensures.asks (device_rows c.args.self) c.requires.may.0 c.requires.may.1 c.requires.may.2 c.requires.may.3 c.requires.may.5), refl) (g.met.L.Link.asking.none c.args.link.now) c.in-Refused.device c.in-Refused.error c.in-Refused.ensures.cause
    (still_open c.args.self c.in-Refused.device kept c.in-Refused.ensures.still g.met.D.Disk.only_now opens (c.in-Refused.ensures.stays kept opens))))

pub returns-in-Broken-clause-went : goal.returns-in-Broken-clause-went
returns-in-Broken-clause-went g c = λ kept owner opens has.
    then_over (IsOpenSince c.args.self kept) (MayHaveSince c.args.self kept) (CommitsStep (asks c.args.set.now)) (AsksHost (change_to owner c.args.present.now c.args.set.now) (AnswersChange owner c.args.present.now c.args.set.now)) (record { made = c.args.made; rows = kept.rows; words = c.args.words.now }) kept (g.L.Link.aimed c.args.link.now) (g.L.Link.asks c.args.link.now c.args.link.now) c.args.words.now (called.Broken c.in-Broken.disk)
    (commit_broken {T = Unit {0}} (IsOpenSince c.args.self kept) (MayHaveSince c.args.self kept) (asks c.args.set.now) c.args.made kept c.args.words.now (g.L.Link.aimed c.args.link.now) (g.L.Link.asks c.args.link.now c.args.link.now) c.args.words.now c.in-Ok.changes.items c.args.words.now
    (subst (λ (r : Rows). Asks r c.args.set.now c.in-Ok.changes.items) opens.rows_are (c.in-Ok.ensures.asks (device_rows c.args.self) c.requires.may.0 c.requires.may.1 c.requires.may.2 c.requires.may.3 c.requires.may.5), refl) (g.met.L.Link.asking.none c.args.link.now) c.in-Broken.disk c.in-Broken.ensures.fits.1
    (committed_broken c.args.self c.in-Broken.disk kept c.in-Ok.changes.items (λ told. c.in-Broken.ensures.any_moment told kept opens) (c.in-Broken.ensures.broken kept opens)))
