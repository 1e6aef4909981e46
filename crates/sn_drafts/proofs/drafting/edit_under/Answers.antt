use Rattle.std.specs.Prelude.{◌≡◌}
use Rattle.sn_row_map.specs.RowMaps.{row_in}
use Rattle.sn_table.specs.Tables.{table_rows}
use Rattle.sn_drafts.specs.Making.{RefusesEdit}
use Rattle.sn_drafts.specs.Refusing.{MayRefuse}
use Rattle.sn_device.specs.Runs.{IsGone, RunsEdit}
use Rattle.sn_device.specs.declared.error.ClientError.{ClientError}
use Rattle.sn_device.specs.declared.error.ClientError.TheVariants as refusal
use Rattle.sn_drafts.proofs.DraftLemmas.{edit_gone, edit_made, edit_refused, edit_runs}
use Rattle.sn_drafts.proofs.LookLemmas.{exits}
use Rattle.sn_drafts.proofs.drafting.edit_under.Goals as goal

pub returns-in_err-number-clause-err : goal.returns-in_err-number-clause-err
returns-in_err-number-clause-err g c =
    let rows = row_in (table_rows c.args.table.now) in
    exits (λ (e : ClientError). IsGone rows c.args.uuid × (e ≡ refusal.NoItem c.args.uuid)) (MayRefuse (RunsEdit c.args.uuid c.args.text.now rows c.args.words.now))
    c.from_residual.result c.in_err-number.field-0.0 c.from_residual.ensures.1
    (edit_gone rows c.args.words.now c.args.uuid c.args.text.now c.requires.holds.0 c.args.sets.now c.requires.holds.1 c.in_err-number.field-0.0)
    c.in_err-number.ensures.err

pub check_edit-requires-clause-sound : goal.check_edit-requires-clause-sound
check_edit-requires-clause-sound g c = c.requires.sound.locals.items c.in_ok-number.number c.in_ok-number.item.now c.in_ok-number.ensures.ok.0.0

pub returns-in_err-check_edit-clause-err : goal.returns-in_err-check_edit-clause-err
returns-in_err-check_edit-clause-err g c =
    let rows = row_in (table_rows c.args.table.now) in
    exits (RefusesEdit c.args.sets.now c.in_ok-number.item.now c.args.text.now) (MayRefuse (RunsEdit c.args.uuid c.args.text.now rows c.args.words.now))
    c.from_residual-in_err-check_edit.result c.in_err-check_edit.field-0.0 c.from_residual-in_err-check_edit.ensures.1
    (edit_refused rows c.args.words.now c.args.uuid c.args.text.now c.requires.holds.0 c.args.sets.now c.requires.holds.1 c.in_ok-number.number c.in_ok-number.item.now
    c.in_ok-number.ensures.ok.0 c.in_ok-number.ensures.ok.1 c.in_err-check_edit.field-0.0)
    c.in_err-check_edit.ensures.err

pub returns-clause-step : goal.returns-clause-step
returns-clause-step g c =
    let made = c.in_ok-changes.ensures.made in
    edit_made (row_in (table_rows c.args.table.now)) c.args.words.now c.args.uuid c.args.text.now c.requires.holds.0 c.args.sets.now c.requires.holds.1
    c.in_ok-number.number c.in_ok-number.item.now c.in_ok-number.ensures.ok.0 c.in_ok-number.ensures.ok.1 c.draft_changes.new.words made.0 c.in_ok-changes.changes.items
    c.in_ok-check_edit.ensures.ok.content made.1 made.2

pub returns-clause-runs : goal.returns-clause-runs
returns-clause-runs g c =
    let rows = row_in (table_rows c.args.table.now) in
    let made = c.in_ok-changes.ensures.made in
    let may = c.in_ok-check_edit.ensures.ok in
    let step = edit_made rows c.args.words.now c.args.uuid c.args.text.now c.requires.holds.0 c.args.sets.now c.requires.holds.1
    c.in_ok-number.number c.in_ok-number.item.now c.in_ok-number.ensures.ok.0 c.in_ok-number.ensures.ok.1 c.draft_changes.new.words made.0 c.in_ok-changes.changes.items
    may.content made.1 made.2 in
    edit_runs rows c.args.words.now c.args.uuid c.args.text.now c.requires.holds.0 c.args.sets.now c.requires.holds.1 c.in_ok-number.number c.in_ok-number.item.now
    c.in_ok-number.ensures.ok.0 c.in_ok-number.ensures.ok.1 c.draft_changes.new.words c.in_ok-changes.changes.items may.shown may.shows step
