use Rattle.std.proofs.Common.{refl}
use Rattle.sn_row_map.specs.RowMaps.{row_in}
use Rattle.sn_table.specs.Tables.{table_rows}
use Rattle.sn_sets.proofs.Facts.{later_again}
use Rattle.sn_drafts.specs.Making.{DrawsNone}
use Rattle.sn_drafts.specs.Refusing.{MayRefuse, none_more}
use Rattle.sn_device.specs.Runs.{RunsPut, WithContent}
use Rattle.sn_drafts.proofs.DraftLemmas.{put_content, put_drawn, put_full, put_made, sets_with}
use Rattle.sn_drafts.proofs.LookLemmas.{exits}
use Rattle.sn_drafts.proofs.drafting.put_under.Goals as goal

pub returns-in_err-check_content-clause-err : goal.returns-in_err-check_content-clause-err
returns-in_err-check_content-clause-err g c =
    let rows = row_in (table_rows c.args.table.now) in
    let holds = sets_with rows c.requires.holds.0 c.in-Some.owner.now c.args.sets.now c.requires.holds.1 c.in-Some.ensures.some in
    exits (MayRefuse (WithContent c.args.text.now none_more)) (MayRefuse (RunsPut c.args.kind.now c.args.text.now rows c.args.words.now))
    c.from_residual.result c.in_err-check_content.field-0.0 c.from_residual.ensures.1
    (put_content rows c.args.words.now c.args.kind.now c.args.text.now c.in-Some.owner.now c.args.sets.now holds c.in_err-check_content.field-0.0)
    c.in_err-check_content.ensures.err

pub returns-then-owner-clause-err : goal.returns-then-owner-clause-err
returns-then-owner-clause-err g c =
    let rows = row_in (table_rows c.args.table.now) in
    let holds = sets_with rows c.requires.holds.0 c.in-Some.owner.now c.args.sets.now c.requires.holds.1 c.in-Some.ensures.some in
    put_full rows c.args.words.now c.args.kind.now c.args.text.now c.in-Some.owner.now c.args.sets.now holds c.in-Some.owner.now.next c.in_ok-check_content.ensures.ok refl
    c.if-owner.true

pub returns-in_err-uuid-clause-err : goal.returns-in_err-uuid-clause-err
returns-in_err-uuid-clause-err g c =
    let rows = row_in (table_rows c.args.table.now) in
    let holds = sets_with rows c.requires.holds.0 c.in-Some.owner.now c.args.sets.now c.requires.holds.1 c.in-Some.ensures.some in
    exits (DrawsNone rows c.args.words.now) (MayRefuse (RunsPut c.args.kind.now c.args.text.now rows c.args.words.now))
    c.from_residual-in_err-uuid.result c.in_err-uuid.field-0.0 c.from_residual-in_err-uuid.ensures.1
    (put_drawn rows c.args.words.now c.args.kind.now c.args.text.now c.in-Some.owner.now c.args.sets.now holds c.in_err-uuid.field-0.0 c.in_ok-check_content.ensures.ok c.if-owner.false)
    c.in_err-uuid.ensures.err

pub returns-in_err-changes-clause-words : goal.returns-in_err-changes-clause-words
returns-in_err-changes-clause-words g c = later_again c.args.words.now c.drawn_uuid.new.words c.new_changes.new.words c.drawn_uuid.ensures.words c.new_changes.ensures.words

pub returns-clause-words : goal.returns-clause-words
returns-clause-words g c = later_again c.args.words.now c.drawn_uuid.new.words c.new_changes.new.words c.drawn_uuid.ensures.words c.new_changes.ensures.words

pub returns-clause-step : goal.returns-clause-step
returns-clause-step g c =
    let rows = row_in (table_rows c.args.table.now) in
    let holds = sets_with rows c.requires.holds.0 c.in-Some.owner.now c.args.sets.now c.requires.holds.1 c.in-Some.ensures.some in
    let made = c.in_ok-changes.ensures.made in
    put_made rows c.args.words.now c.args.kind.now c.args.text.now c.in-Some.owner.now c.args.sets.now holds c.in_ok-uuid.uuid c.drawn_uuid.new.words c.new_changes.new.words
    made.0 c.in_ok-changes.changes.items c.in_ok-check_content.ensures.ok c.if-owner.false c.in_ok-uuid.ensures.ok made.1 made.2
