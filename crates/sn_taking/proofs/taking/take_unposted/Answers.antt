use Rattle.std.proofs.Common.{◌∙◌, inl, refl, sym}
use Rattle.sn_row_map.specs.RowMaps.{row_in}
use Rattle.sn_taking.proofs.TakingLemmas.{stands_at}
use Rattle.sn_taking.proofs.taking.take_unposted.Goals as goal

pub returns-in_ok-unpost-in-Some-clause-ok : goal.returns-in_ok-unpost-in-Some-clause-ok
returns-in_ok-unpost-in-Some-clause-ok c = λ sets words unsaved same.
    let has = stands_at (row_in c.args.rows.now) c.as_slice-changes.result.now c.args.taken.now.changes c.args.uuid c.in-Some.number c.in-Some.local.now
    c.as_slice-changes.ensures c.in-Some.ensures.some in
    inl (c.in-Some.number, c.in-Some.local.now, (has.0, has.1 ∙ sym same), (c.in_ok-unpost-in-Some.field-0, c.in_ok-unpost-in-Some.ensures, refl))
