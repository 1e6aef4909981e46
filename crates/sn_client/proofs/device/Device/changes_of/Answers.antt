use Rattle.std.proofs.Common.{◌≡◌, ◌⊎◌, ◌∙◌, List, ap, subst, sym}
use Rattle.sn_row_map.specs.RowMaps.{row_in}
use Rattle.sn_row_map.specs.declared.row_map.RowMap.{RowMap}
use Rattle.sn_sync.specs.declared.answer.Answer.{Answer}
use Rattle.sn_sync.specs.declared.answer.Answer.TheVariants as answer
use Rattle.sn_sync.specs.declared.item.Item.{Item}
use Rattle.sn_client.specs.Calls.{device_rows}
use Rattle.sn_local.specs.Index.{Indexes}
use Rattle.sn_device.specs.Runs.{IsUnapplied, items_of}
use Rattle.sn_device.specs.Sending.{AreOfRows}
use Rattle.sn_device.specs.States.{HasSets, AreApart}
use Rattle.sn_taking.specs.Taken.{refusal_of}
use Rattle.sn_device.specs.declared.error.ClientError.{ClientError}
use Rattle.sn_device.specs.declared.error.ClientError.TheVariants as refusal
use Rattle.sn_client.proofs.AnswerLemmas.{check_fails, held_by, no_link_of, runs_out}
use Rattle.sn_client.proofs.device.Device.changes_of.Goals as goal

pub returns-in-Err-clause-err : goal.returns-in-Err-clause-err
returns-in-Err-clause-err g c =
    let sent : items_of c.args.request.now ≡ c.as_slice-sent.result.now = ap items_of c.in-Sync.is ∙ sym c.as_slice-sent.ensures in
    let given : c.args.answer.now ≡ answer.Sync c.as_slice-conflicts.result.now c.in-Sync-answer.cursor_token c.as_slice-retrieved.result.now c.as_slice-saved.result.now c.in-Sync-answer.sync_token = cc in
    subst (λ (i : List Item). (c.of_check.result ≡ refusal.Memory) ⊎ IsUnapplied (device_rows c.args.self.now) c.args.words.now i c.args.answer.now c.of_check.result) (sym sent)
    (subst (λ (a : Answer). (c.of_check.result ≡ refusal.Memory) ⊎ IsUnapplied (device_rows c.args.self.now) c.args.words.now c.as_slice-sent.result.now a c.of_check.result) (sym given)
    (check_fails (device_rows c.args.self.now) c.args.words.now c.as_slice-sent.result.now c.as_slice-saved.result.now c.as_slice-conflicts.result.now
    c.as_slice-retrieved.result.now c.in-Sync-answer.cursor_token c.in-Sync-answer.sync_token c.in-Err.error c.of_check.result c.in-Err.ensures.err c.of_check.ensures))

pub applied-requires-clause-found : goal.applied-requires-clause-found
applied-requires-clause-found g c = record {
  kinds = c.rows.ensures.kinds;
  indexed = subst (λ (m : RowMap). Indexes c.args.self.now.index (row_in m)) (sym c.rows.ensures.rows) c.args.self.now.indexed;
  apart = subst (λ (m : RowMap). AreApart (row_in m)) (sym c.rows.ensures.rows) c.requires.sound.locals.apart;
}

pub applied-requires-clause-holds : goal.applied-requires-clause-holds
applied-requires-clause-holds g c =
    let held = rw c.in-Some-2.is at c.in_ok-sets.ensures.some in
    subst (λ (m : RowMap). HasSets (row_in m) c.in-Some-owner.account.now c.in-Some-2.sets) (sym c.rows.ensures.rows)
    (held_by (device_rows c.args.self.now) held.0 c.in-Some-owner.account.now c.in-Some-2.sets held.1 c.in-Some-owner.ensures.some)

pub applied-requires-clause-sent_of_rows : goal.applied-requires-clause-sent_of_rows
applied-requires-clause-sent_of_rows g c =
    let same : c.requires.sent.items ≡ c.as_slice-sent.result.now = ap items_of (sym c.requires.sent.is ∙ c.in-Sync.is) ∙ sym c.as_slice-sent.ensures in
    subst (λ (m : RowMap). AreOfRows (row_in m) c.as_slice-sent.result.now) (sym c.rows.ensures.rows)
    (subst (AreOfRows (device_rows c.args.self.now)) same c.requires.sent.of_rows)

pub returns-clause-err : goal.returns-clause-err
returns-clause-err g c =
    let sent : items_of c.args.request.now ≡ c.as_slice-sent.result.now = ap items_of c.in-Sync.is ∙ sym c.as_slice-sent.ensures in
    let given : c.args.answer.now ≡ answer.Sync c.as_slice-conflicts.result.now c.in-Sync-answer.cursor_token c.as_slice-retrieved.result.now c.as_slice-saved.result.now c.in-Sync-answer.sync_token = cc in
    subst (λ (why : ClientError). (why ≡ refusal.Memory) ⊎ IsUnapplied (device_rows c.args.self.now) c.args.words.now (items_of c.args.request.now) c.args.answer.now why)
    (sym c.refusal.ensures)
    (subst (λ (i : List Item). (refusal_of c.in-Err-applied.stop ≡ refusal.Memory) ⊎ IsUnapplied (device_rows c.args.self.now) c.args.words.now i c.args.answer.now (refusal_of c.in-Err-applied.stop)) (sym sent)
    (subst (λ (a : Answer). (refusal_of c.in-Err-applied.stop ≡ refusal.Memory) ⊎ IsUnapplied (device_rows c.args.self.now) c.args.words.now c.as_slice-sent.result.now a (refusal_of c.in-Err-applied.stop)) (sym given)
    (subst (λ (m : RowMap). (refusal_of c.in-Err-applied.stop ≡ refusal.Memory) ⊎ IsUnapplied (row_in m) c.args.words.now c.as_slice-sent.result.now (answer.Sync c.as_slice-conflicts.result.now c.in-Sync-answer.cursor_token c.as_slice-retrieved.result.now c.as_slice-saved.result.now c.in-Sync-answer.sync_token) (refusal_of c.in-Err-applied.stop)) c.rows.ensures.rows
    (runs_out (row_in c.rows.result.now) c.args.words.now c.as_slice-sent.result.now c.as_slice-saved.result.now c.as_slice-conflicts.result.now
    c.as_slice-retrieved.result.now c.in-Sync-answer.cursor_token c.in-Sync-answer.sync_token c.in-Some-owner.account.now c.in-Some-2.sets c.in-Err-applied.stop
    c.in_default-check.ensures.ok
    (subst (λ (m : RowMap). HasSets (row_in m) c.in-Some-owner.account.now c.in-Some-2.sets) (sym c.rows.ensures.rows)
    (let held = rw c.in-Some-2.is at c.in_ok-sets.ensures.some in
    held_by (device_rows c.args.self.now) held.0 c.in-Some-owner.account.now c.in-Some-2.sets held.1 c.in-Some-owner.ensures.some))
    c.in-Err-applied.ensures.err))))

pub returns-clause-no_link : goal.returns-clause-no_link
returns-clause-no_link g c = λ is. no_link_of c.in-Err-applied.stop (sym c.refusal.ensures ∙ is)
