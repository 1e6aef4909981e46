use Rattle.std.proofs.Common.{refl, subst, sym}
use Rattle.sn_rows.specs.Table.{Rows}
use Rattle.sn_client.specs.Calls.{device_rows}
use Rattle.sn_device.specs.Runs.{CommitsStep}
use Rattle.sn_device.specs.States.{IsSound, HasNoneAsked}
use Rattle.sn_device.specs.Steps.{Adopts, adopts}
use Rattle.sn_client.specs.Syncing.{IsOpenSince, MayHaveSince, WentBy, none_asked}
use Rattle.sn_client.specs.declared.called.Called.TheVariants as called
use Rattle.sn_device.specs.declared.error.ClientError.{ClientError}
use Rattle.sn_client.specs.declared.piece_end.PieceEnd.TheVariants.{Over}
use Rattle.sn_client.proofs.Moments.{committed_broken, committed_open, still_open}
use Rattle.sn_client.proofs.SettledLemmas.{HoldsOwner, adopts_owned, adopts_settled}
use Rattle.sn_device.proofs.Facts.{steps_stay_sound}
use Rattle.sn_client.proofs.PieceLemmas.{commit_broken, commit_made, commit_refused, commits_none}
use Rattle.sn_client.proofs.device.Device.adopt.Goals as goal

pub returns-in_default-clause-went : goal.returns-in_default-clause-went
returns-in_default-clause-went g c = λ kept host opens.
    commits_none {T = Unit {0}} (IsOpenSince c.args.self kept) (MayHaveSince c.args.self kept) (adopts c.args.set.now c.args.token) c.args.made kept c.args.words.now host none_asked c.adoption.new.words c.args.self refl
    (still_open c.args.self c.args.self kept refl g.met.D.Disk.only_now opens opens)

pub returns-in-Done-clause-went : goal.returns-in-Done-clause-went
returns-in-Done-clause-went g c = λ kept host opens.
    commit_made (IsOpenSince c.args.self kept) (adopts c.args.set.now c.args.token) c.args.made kept c.args.words.now host none_asked c.adoption.new.words c.in-Ok.changes.items c.adoption.new.words
    (subst (λ (r : Rows). Adopts r c.args.words.now c.args.set.now c.args.token c.in-Ok.changes.items c.adoption.new.words) opens.rows_are c.in-Ok.ensures.adopts) refl c.in-Done.device refl c.in-Done.ensures.fits.0
    (committed_open c.args.self c.in-Done.device kept c.in-Ok.changes.items (λ told. c.in-Done.ensures.any_moment told kept opens) (c.in-Done.ensures.done kept opens))

pub returns-in-Done-clause-device : goal.returns-in-Done-clause-device
returns-in-Done-clause-device g c = record {
  sound = subst IsSound (sym c.in-Done.ensures.rows)
      (steps_stay_sound (device_rows c.args.self) c.args.words.now c.adoption.new.words (adopts c.args.set.now c.args.token) c.in-Ok.changes.items c.requires.sound c.in-Ok.ensures.adopts);
  least = c.in-Done.ensures.least.0;
  fault = tt;
  grows = c.in-Done.ensures.grows;
  later = c.in-Done.ensures.later;
}

pub returns-in-Done-clause-owned : goal.returns-in-Done-clause-owned
returns-in-Done-clause-owned g c =
    subst HoldsOwner (sym c.in-Done.ensures.rows)
    (adopts_owned (device_rows c.args.self) c.args.words.now c.adoption.new.words c.args.set.now c.args.token c.in-Ok.changes.items c.in-Ok.ensures.adopts)

pub returns-in-Done-clause-none_asked : goal.returns-in-Done-clause-none_asked
returns-in-Done-clause-none_asked g c =
    subst HasNoneAsked (sym c.in-Done.ensures.rows)
    (adopts_settled (device_rows c.args.self) c.args.words.now c.adoption.new.words c.args.set.now c.args.token c.in-Ok.changes.items c.in-Ok.ensures.adopts)

pub returns-in-Refused-clause-went : goal.returns-in-Refused-clause-went
returns-in-Refused-clause-went g c = λ kept host opens.
    subst (λ (why : ClientError). WentBy {T = Unit {0}} (IsOpenSince c.args.self kept) (MayHaveSince c.args.self kept) (CommitsStep (adopts c.args.set.now c.args.token)) (record { made = c.args.made; rows = kept.rows; words = c.args.words.now }) kept host none_asked c.adoption.new.words
    (Over (called.Refused c.in-Refused.device why)))
    (sym c.of_commit.ensures)
    (commit_refused {T = Unit {0}} (IsOpenSince c.args.self kept) (MayHaveSince c.args.self kept) (adopts c.args.set.now c.args.token) c.args.made kept c.args.words.now host none_asked c.adoption.new.words c.in-Ok.changes.items c.adoption.new.words
    (subst (λ (r : Rows). Adopts r c.args.words.now c.args.set.now c.args.token c.in-Ok.changes.items c.adoption.new.words) opens.rows_are c.in-Ok.ensures.adopts) refl c.in-Refused.device c.in-Refused.error c.in-Refused.ensures.cause
    (still_open c.args.self c.in-Refused.device kept c.in-Refused.ensures.still g.met.D.Disk.only_now opens (c.in-Refused.ensures.stays kept opens)))

pub returns-in-Broken-clause-went : goal.returns-in-Broken-clause-went
returns-in-Broken-clause-went g c = λ kept host opens.
    commit_broken {T = Unit {0}} (IsOpenSince c.args.self kept) (MayHaveSince c.args.self kept) (adopts c.args.set.now c.args.token) c.args.made kept c.args.words.now host none_asked c.adoption.new.words c.in-Ok.changes.items c.adoption.new.words
    (subst (λ (r : Rows). Adopts r c.args.words.now c.args.set.now c.args.token c.in-Ok.changes.items c.adoption.new.words) opens.rows_are c.in-Ok.ensures.adopts) refl c.in-Broken.disk c.in-Broken.ensures.fits.1
    (committed_broken c.args.self c.in-Broken.disk kept c.in-Ok.changes.items (λ told. c.in-Broken.ensures.any_moment told kept opens) (c.in-Broken.ensures.broken kept opens))
