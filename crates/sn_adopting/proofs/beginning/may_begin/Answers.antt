use Rattle.std.proofs.Common.{inl, inr, refl}
use Rattle.sn_row_map.specs.RowMaps.{row_in}
use Rattle.sn_rekey.specs.declared.error.Running.TheVariants as running
use Rattle.sn_device.specs.Changing.{NoneRuns}
use Rattle.sn_local.proofs.Facts.{is_nothing}
use Rattle.sn_adopting.proofs.beginning.may_begin.Goals as goal

pub returns-in-Some-clause-err : goal.returns-in-Some-clause-err
returns-in-Some-clause-err c =
    inr (inl (running.Older c.in_ok-nonce.nonce, (c.in-Some.older, c.in-Some.is, c.in_ok-nonce.ensures), c.running.ensures))

pub returns-in-Some-2-clause-err : goal.returns-in-Some-2-clause-err
returns-in-Some-2-clause-err c =
    let first = rw c.in-Some-2.is at c.in_ok-uuid.ensures.some in
    inr (inl (running.Item c.in-Some-2.uuid, (is_nothing c.args.sets.now.older c.in_default.not-Some, first), c.running-in-Some-2.ensures))

pub returns-in-Some-first_sent-clause-err : goal.returns-in-Some-first_sent-clause-err
returns-in-Some-first_sent-clause-err c =
    let runs : NoneRuns (row_in c.args.rows.now) c.args.sets.now =
    record { none_older = is_nothing c.args.sets.now.older c.in_default.not-Some; present = rw c.in_default-2.is at c.in_ok-uuid.ensures.none } in
    inr (inr (c.in-Some-first_sent.uuid, runs, c.in-Some-first_sent.ensures.some, refl))

pub returns-in-None-clause-ok : goal.returns-in-None-clause-ok
returns-in-None-clause-ok c =
    let runs : NoneRuns (row_in c.args.rows.now) c.args.sets.now =
    record { none_older = is_nothing c.args.sets.now.older c.in_default.not-Some; present = rw c.in_default-2.is at c.in_ok-uuid.ensures.none } in
    (runs, c.in-None.ensures.none)
