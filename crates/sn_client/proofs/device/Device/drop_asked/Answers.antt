use Rattle.std.proofs.Common.{refl, subst, sym, []}
use Rattle.rand_chacha.specs.ChaCha.{of_seed}
use Rattle.sn_rows.specs.Table.{Rows}
use Rattle.sn_rows.specs.declared.key.Slot.TheVariants.{Asked}
use Rattle.sn_client.specs.Calls.{device_rows}
use Rattle.sn_device.specs.Runs.{CommitsStep, EndsBy}
use Rattle.sn_device.specs.States.{HasSet, IsSound}
use Rattle.sn_device.specs.Steps.{forgets}
use Rattle.sn_client.specs.Syncing.{IsOpenSince, MayHaveSince, WentBy, none_asked}
use Rattle.sn_client.specs.declared.called.Called.TheVariants as called
use Rattle.sn_device.specs.declared.error.ClientError.{ClientError}
use Rattle.sn_device.specs.declared.error.ClientError.TheVariants as refusal
use Rattle.sn_client.specs.declared.piece_end.PieceEnd.TheVariants.{Over}
use Rattle.sn_client.proofs.Moments.{committed_broken, committed_open, still_open}
use Rattle.sn_device.proofs.Facts.{steps_stay_sound}
use Rattle.sn_client.proofs.PieceLemmas.{commit_and_refused, commit_broken, commit_refused, commits_none, then_over}
use Rattle.sn_client.proofs.device.Device.drop_asked.Goals as goal

pub returns-in_default-clause-went : goal.returns-in_default-clause-went
returns-in_default-clause-went g c = λ kept host words made opens.
    then_over (IsOpenSince c.args.self kept) (MayHaveSince c.args.self kept) (CommitsStep forgets) (EndsBy c.args.why) (record { made = made; rows = kept.rows; words = words }) kept host none_asked words (called.Refused c.args.self refusal.Memory)
    (commits_none {T = Unit {0}} (IsOpenSince c.args.self kept) (MayHaveSince c.args.self kept) forgets made kept words host none_asked words c.args.self refl
    (still_open c.args.self c.args.self kept refl g.met.D.Disk.only_now opens opens))

pub returns-in-Done-clause-went : goal.returns-in-Done-clause-went
returns-in-Done-clause-went g c = λ kept host words made opens.
    commit_and_refused {T = Unit {0}} (IsOpenSince c.args.self kept) (MayHaveSince c.args.self kept) forgets made kept words host none_asked words c.in-Ok.changes.items words
    (c.in-Ok.ensures.forgets kept.rows c.requires.asked.0 (subst (λ (r : Rows). HasSet r Asked c.requires.asked.0) opens.rows_are c.requires.asked.1), refl) refl c.in-Done.device c.args.why c.in-Done.ensures.fits.0
    (committed_open c.args.self c.in-Done.device kept c.in-Ok.changes.items (λ told. c.in-Done.ensures.any_moment told kept opens) (c.in-Done.ensures.done kept opens))

pub returns-in-Done-clause-device : goal.returns-in-Done-clause-device
returns-in-Done-clause-device g c = record {
  sound = subst IsSound (sym c.in-Done.ensures.rows)
      (steps_stay_sound (device_rows c.args.self) (of_seed []) (of_seed []) forgets c.in-Ok.changes.items c.requires.sound (c.in-Ok.ensures.forgets (device_rows c.args.self) c.requires.asked.0 c.requires.asked.1, refl));
  least = c.in-Done.ensures.least.0;
  fault = tt;
  grows = c.in-Done.ensures.grows;
  later = c.in-Done.ensures.later;
}

pub returns-in-Refused-clause-went : goal.returns-in-Refused-clause-went
returns-in-Refused-clause-went g c = λ kept host words made opens.
    then_over (IsOpenSince c.args.self kept) (MayHaveSince c.args.self kept) (CommitsStep forgets) (EndsBy c.args.why) (record { made = made; rows = kept.rows; words = words }) kept host none_asked words (called.Refused c.in-Refused.device c.of_commit.result)
    (subst (λ (why : ClientError). WentBy {T = Unit {0}} (IsOpenSince c.args.self kept) (MayHaveSince c.args.self kept) (CommitsStep forgets) (record { made = made; rows = kept.rows; words = words }) kept host none_asked words
    (Over (called.Refused c.in-Refused.device why)))
    (sym c.of_commit.ensures)
    (commit_refused {T = Unit {0}} (IsOpenSince c.args.self kept) (MayHaveSince c.args.self kept) forgets made kept words host none_asked words c.in-Ok.changes.items words
    (c.in-Ok.ensures.forgets kept.rows c.requires.asked.0 (subst (λ (r : Rows). HasSet r Asked c.requires.asked.0) opens.rows_are c.requires.asked.1), refl) refl c.in-Refused.device c.in-Refused.error c.in-Refused.ensures.cause
    (still_open c.args.self c.in-Refused.device kept c.in-Refused.ensures.still g.met.D.Disk.only_now opens (c.in-Refused.ensures.stays kept opens))))

pub returns-in-Broken-clause-went : goal.returns-in-Broken-clause-went
returns-in-Broken-clause-went g c = λ kept host words made opens.
    then_over (IsOpenSince c.args.self kept) (MayHaveSince c.args.self kept) (CommitsStep forgets) (EndsBy c.args.why) (record { made = made; rows = kept.rows; words = words }) kept host none_asked words (called.Broken c.in-Broken.disk)
    (commit_broken {T = Unit {0}} (IsOpenSince c.args.self kept) (MayHaveSince c.args.self kept) forgets made kept words host none_asked words c.in-Ok.changes.items words
    (c.in-Ok.ensures.forgets kept.rows c.requires.asked.0 (subst (λ (r : Rows). HasSet r Asked c.requires.asked.0) opens.rows_are c.requires.asked.1), refl) refl c.in-Broken.disk c.in-Broken.ensures.fits.1
    (committed_broken c.args.self c.in-Broken.disk kept c.in-Ok.changes.items (λ told. c.in-Broken.ensures.any_moment told kept opens) (c.in-Broken.ensures.broken kept opens)))
