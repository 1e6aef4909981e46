use Rattle.std.proofs.Common.{refl}
use Rattle.std.proofs.lemmas.Result.{err_from_is_err_and}
use Rattle.sn_table.proofs.ReadLemmas.{taken_none, taken_more, all_taken, taken_kinds, taken_owned, not_taken}
use Rattle.sn_table.proofs.reading.rows_of.Goals as goal

pub payloads-init : goal.payloads-init
payloads-init c = record { taken = rw c.payloads-payloads.ensures (taken_none c.args.owner c.args.batches.now c.new-rows.result c.new-rows.ensures.empty); tidy = c.new-rows.ensures.tidy }

pub payloads-preserved : goal.payloads-preserved
payloads-preserved c = record {
  tidy = c.in_ok-add_batch-in-Some.ensures.tidy c.payloads.invariant.tidy;
  taken = taken_more c.args.owner c.args.batches.now c.payloads.payloads c.in-Some.payload.now c.next.new.self c.payloads.rows c.add_batch.new.rows c.payloads.gate c.saturating_add.result c.saturating_add-gate.result _
      c.payloads.invariant.taken c.in-Some.ensures.some.0 c.in-Some.ensures.some.1 c.in_ok-add_batch-in-Some.ensures.added c.saturating_add.ensures c.saturating_add-gate.ensures refl;
}

pub returns-in_err-add_batch-in-Some-clause-refused : goal.returns-in_err-add_batch-in-Some-clause-refused
returns-in_err-add_batch-in-Some-clause-refused c = λ payloads are fits.
    let p = err_from_is_err_and c.from_residual.result c.from_residual.ensures.1 in
    rw (p.1, p.2) (not_taken c.args.owner c.args.batches.now c.payloads.payloads c.in-Some.payload.now c.next.new.self c.payloads.rows c.payloads.gate c.in_err-add_batch-in-Some.field-0.0 payloads
    c.payloads.invariant.taken c.in-Some.ensures.some.0 c.in-Some.ensures.some.1 c.in_err-add_batch-in-Some.ensures.refused are fits)

pub returns-in-None-clause-read : goal.returns-in-None-clause-read
returns-in-None-clause-read c = λ payloads are. all_taken c.args.owner c.args.batches.now c.payloads.payloads c.payloads.rows c.payloads.gate payloads c.payloads.invariant.taken c.in-None.ensures.none.1 are

pub returns-in-None-clause-kinds : goal.returns-in-None-clause-kinds
returns-in-None-clause-kinds c = taken_kinds c.args.owner c.args.batches.now c.payloads.payloads c.payloads.rows c.payloads.gate c.payloads.invariant.taken

pub returns-in-None-clause-owned : goal.returns-in-None-clause-owned
returns-in-None-clause-owned c = taken_owned c.args.owner c.args.batches.now c.payloads.payloads c.payloads.rows c.payloads.gate c.payloads.invariant.taken
