use Rattle.std.proofs.Common.{◌≤◌, List, ℕ, Option, IfSome, IfNone, String, Global, subst, sym, length, string_bytes}
use Rattle.sn_conflict.proofs.Facts.{not_holds}
use Rattle.sn_row_map.specs.RowMaps.{row_in}
use Rattle.sn_sets.proofs.Facts.{opened_is_short}
use Rattle.sn_sets.specs.Seals.{longest_sealed}
use Rattle.sn_taking.specs.Taken.{FindsNoFresh, HasText, IsReadable, StopsBy, so_far}
use Rattle.sn_taking.proofs.RenamedLemmas.{readable_stops, renamed, renames_unread}
use Rattle.sn_taking.proofs.TakingLemmas.{err_as}
use Rattle.sn_taking.proofs.renaming.rename.Goals as goal

pub put_anew-requires-clause-short : goal.put_anew-requires-clause-short
put_anew-requires-clause-short c =
    let local = c.args.local.now in
    let text = string_bytes c.in-Some.text in
    let has : HasText c.args.sets.now local text =
    subst (λ (o : Option (String Global)). IfSome o (λ t. HasText c.args.sets.now local (string_bytes t))) c.in-Some.is c.in_ok-text.ensures.some in
    let strings = has.0 in
    let drafted = has.1 in
    let opens = has.2 in
    subst (λ (t : List ℕ). length t ≤ longest_sealed) (sym c.deref.ensures) (opened_is_short c.args.sets.now local.uuid strings text opens)

pub returns-in_err-change-clause-err : goal.returns-in_err-change-clause-err
returns-in_err-change-clause-err c =
    let local = c.args.local.now in
    let text = string_bytes c.in-Some.text in
    let has : HasText c.args.sets.now local text =
    subst (λ (o : Option (String Global)). IfSome o (λ t. HasText c.args.sets.now local (string_bytes t))) c.in-Some.is c.in_ok-text.ensures.some in
    let strings = has.0 in
    let drafted = has.1 in
    let opens = has.2 in
    err_as c.from_residual-in_err-change.result c.in_err-change.field-0.0
    (StopsBy (λ why. IsReadable c.args.sets.now local × FindsNoFresh (so_far (row_in c.args.rows.now) c.args.taken.now c.args.words.now) why))
    c.from_residual-in_err-change.ensures.1
    (readable_stops c.args.sets.now (row_in c.args.rows.now) c.args.taken.now c.args.words.now c.as_slice-changes.result.now local c.in_err-change.field-0.0
    c.as_slice-changes.ensures (strings, drafted, (text, opens)) c.in_err-change.ensures.err)

pub returns-clause-ok : goal.returns-clause-ok
returns-clause-ok c =
    let local = c.args.local.now in
    let text = string_bytes c.in-Some.text in
    let has : HasText c.args.sets.now local text =
    subst (λ (o : Option (String Global)). IfSome o (λ t. HasText c.args.sets.now local (string_bytes t))) c.in-Some.is c.in_ok-text.ensures.some in
    let strings = has.0 in
    let drafted = has.1 in
    let opens = has.2 in
    renamed c.args.sets.now (row_in c.args.rows.now) c.args.taken.now c.args.words.now c.as_slice-changes.result.now c.args.number local strings text
    c.deref.result.now c.in_ok-change.change c.put_anew.new.words c.as_slice-changes.ensures c.deref.ensures drafted opens c.in_ok-change.ensures.ok

pub returns-in_default-clause-ok : goal.returns-in_default-clause-ok
returns-in_default-clause-ok c =
    renames_unread c.args.sets.now (so_far (row_in c.args.rows.now) c.args.taken.now c.args.words.now) c.args.number c.args.local.now
    (subst (λ (o : Option (String Global)). IfNone o (¬ (IsReadable c.args.sets.now c.args.local.now))) c.in_default.is c.in_ok-text.ensures.none)
    (not_holds c.is_deletion.result c.is_deletion.ensures c.if-is_deletion.false)
