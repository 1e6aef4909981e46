use Rattle.std.proofs.Common.{◌≡◌, ◌⊎◌, ◌↔◌, ◌∙◌, IsTrue, ap, refl, subst, sym}
use Rattle.sn_rows.specs.Table.{Rows, rows_after}
use Rattle.sn_client.specs.Calls.{device_rows}
use Rattle.sn_device.specs.Runs.{IsLeft, IsUnapplied, items_of}
use Rattle.sn_device.specs.States.{IsSound, HasNoneAsked}
use Rattle.sn_device.specs.Steps.{AppliesTo, applies}
use Rattle.sn_client.specs.Syncing.{IsApplied, IsOpenSince, MayHaveSince}
use Rattle.sn_client.specs.declared.called.Called.TheVariants as called
use Rattle.sn_device.specs.declared.error.ClientError.{ClientError}
use Rattle.sn_device.specs.declared.error.ClientError.TheVariants as refusal
use Rattle.sn_client.specs.declared.syncing.Exchanged.TheVariants as exchanged
use Rattle.sn_client.proofs.AnswerLemmas.{more_by_cursor, more_by_item}
use Rattle.sn_client.proofs.Moments.{committed_broken, committed_open, still_open}
use Rattle.sn_client.proofs.SettledLemmas.{HoldsOwner, owned_applied, settled_applied}
use Rattle.sn_device.proofs.Facts.{steps_stay_sound}
use Rattle.sn_client.proofs.SyncLemmas.{broken_off, not_applied, not_committed}
use Rattle.sn_client.proofs.device.Device.apply.Goals as goal
use Rattle.sn_client.proofs.device.Device.apply.Goals.{then-has_cursor, else-has_cursor}

pub returns-after-has_cursor-clause-applied : goal.returns-after-has_cursor-clause-applied
returns-after-has_cursor-clause-applied g c = λ kept opens.
    let left : IsTrue c.if-has_cursor.more ↔ IsLeft (device_rows c.in-Done.device) c.args.answer.now = elim c.if-has_cursor.branch [
      | then-has_cursor w ↦ more_by_cursor (device_rows c.in-Done.device) c.args.answer.now c.if-has_cursor.more (w.more-is ∙ w.if-has_cursor.true) (c.has_cursor.ensures.0 w.if-has_cursor.true)
      | else-has_cursor w ↦ more_by_item (device_rows c.in-Done.device) c.args.answer.now c.if-has_cursor.more
          (λ has. let is = c.has_cursor.ensures.1 has in let not = w.if-has_cursor.false in cc)
          (λ is. w.is_left-more.ensures.some (sym w.more-is ∙ is)) (λ is. w.is_left-more.ensures.none (sym w.more-is ∙ is)) c.requires.fits
    ] in
    record {
      changes = c.in-Ok.changes.items;
      step = subst (λ (r : Rows). AppliesTo r c.args.words.now c.args.request.now c.args.answer.now c.in-Ok.changes.items c.changes_of.new.words) opens.rows_are c.in-Ok.ensures.ok;
      batch = c.in-Done.ensures.fits.0;
      stands = committed_open c.args.self c.in-Done.device kept c.in-Ok.changes.items (λ told. c.in-Done.ensures.any_moment told kept opens) (c.in-Done.ensures.done kept opens);
      is_more = subst (λ (r : Rows). IsTrue c.if-has_cursor.more ↔ IsLeft r c.args.answer.now)
          (c.in-Done.ensures.rows ∙ ap (λ (r : Rows). rows_after r c.in-Ok.changes.items) opens.rows_are) left;
    }

pub returns-after-has_cursor-clause-device : goal.returns-after-has_cursor-clause-device
returns-after-has_cursor-clause-device g c = record {
  sound = subst IsSound (sym c.in-Done.ensures.rows)
      (steps_stay_sound (device_rows c.args.self) c.args.words.now c.changes_of.new.words (applies c.args.request.now c.args.answer.now) c.in-Ok.changes.items
      c.requires.sound c.in-Ok.ensures.ok);
  least = c.in-Done.ensures.least.0;
  fault = tt;
  grows = c.in-Done.ensures.grows;
  later = c.in-Done.ensures.later;
}

pub returns-after-has_cursor-clause-owned : goal.returns-after-has_cursor-clause-owned
returns-after-has_cursor-clause-owned g c =
    subst HoldsOwner (sym c.in-Done.ensures.rows)
    (owned_applied (device_rows c.args.self) c.args.words.now c.changes_of.new.words c.args.request.now c.args.answer.now c.in-Ok.changes.items c.in-Ok.ensures.ok)

pub returns-after-has_cursor-clause-none_asked : goal.returns-after-has_cursor-clause-none_asked
returns-after-has_cursor-clause-none_asked g c = λ none.
    subst HasNoneAsked (sym c.in-Done.ensures.rows)
    (settled_applied (device_rows c.args.self) c.args.words.now c.changes_of.new.words c.args.request.now c.args.answer.now c.in-Ok.changes.items
    c.in-Ok.ensures.ok none)

pub returns-in-Err-clause-applied : goal.returns-in-Err-clause-applied
returns-in-Err-clause-applied g c = λ kept opens.
    not_applied (IsOpenSince c.args.self kept) (MayHaveSince c.args.self kept) kept c.args.words.now c.args.request.now c.args.answer.now c.changes_of.new.words
    c.args.self c.in-Err.why (still_open c.args.self c.args.self kept refl g.met.D.Disk.only_now opens opens)
    (subst (λ (r : Rows). (c.in-Err.why ≡ refusal.Memory) ⊎ IsUnapplied r c.args.words.now (items_of c.args.request.now) c.args.answer.now c.in-Err.why) opens.rows_are
    c.in-Err.ensures.err)

pub returns-in-Refused-clause-applied : goal.returns-in-Refused-clause-applied
returns-in-Refused-clause-applied g c = λ kept opens.
    subst (λ (why : ClientError). IsApplied {T = Unit {0}} (IsOpenSince c.args.self kept) (MayHaveSince c.args.self kept) kept c.args.words.now c.args.request.now
    c.args.answer.now c.changes_of.new.words (exchanged.Ended (called.Refused c.in-Refused.device why)))
    (sym c.of_commit.ensures)
    (not_committed (IsOpenSince c.args.self kept) (MayHaveSince c.args.self kept) kept c.args.words.now c.args.request.now c.args.answer.now
    c.changes_of.new.words c.in-Refused.device c.in-Ok.changes.items c.in-Refused.error
    (subst (λ (r : Rows). AppliesTo r c.args.words.now c.args.request.now c.args.answer.now c.in-Ok.changes.items c.changes_of.new.words) opens.rows_are c.in-Ok.ensures.ok)
    c.in-Refused.ensures.cause
    (still_open c.args.self c.in-Refused.device kept c.in-Refused.ensures.still g.met.D.Disk.only_now opens (c.in-Refused.ensures.stays kept opens)))

pub returns-in-Refused-clause-owned : goal.returns-in-Refused-clause-owned
returns-in-Refused-clause-owned g c = subst HoldsOwner (sym c.in-Refused.ensures.same) c.requires.owned

pub returns-in-Refused-clause-none_asked : goal.returns-in-Refused-clause-none_asked
returns-in-Refused-clause-none_asked g c = λ none. subst HasNoneAsked (sym c.in-Refused.ensures.same) none

pub returns-in-Broken-clause-applied : goal.returns-in-Broken-clause-applied
returns-in-Broken-clause-applied g c = λ kept opens.
    broken_off (IsOpenSince c.args.self kept) (MayHaveSince c.args.self kept) kept c.args.words.now c.args.request.now c.args.answer.now
    c.changes_of.new.words c.in-Broken.disk c.in-Ok.changes.items
    (subst (λ (r : Rows). AppliesTo r c.args.words.now c.args.request.now c.args.answer.now c.in-Ok.changes.items c.changes_of.new.words) opens.rows_are c.in-Ok.ensures.ok)
    c.in-Broken.ensures.fits.1
    (committed_broken c.args.self c.in-Broken.disk kept c.in-Ok.changes.items (λ told. c.in-Broken.ensures.any_moment told kept opens) (c.in-Broken.ensures.broken kept opens))
