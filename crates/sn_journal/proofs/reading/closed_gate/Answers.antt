use Rattle.std.proofs.Common.{arith, length-append, append_assoc, ap, ◌∙◌, ◌++◌, ◌∷◌, [], sym, length, List, ℕ}
use Rattle.std.specs.List.{flat_map}
use Rattle.sn_journal.specs.Image.{batch}
use Rattle.sn_journal.specs.Facts.{few_batches}
use Rattle.sn_journal.proofs.Passing.{one_passed}
use Rattle.sn_journal.proofs.reading.closed_gate.Goals as goal

pub overflow_add-count : goal.overflow_add-count
overflow_add-count c =
    let passed = c.batches.invariant in
    omega (arith, passed.count_is, few_batches passed.payloads, ap length passed.split, length-append (flat_map batch passed.payloads) c.batches.payloads)

pub batches-preserved : goal.batches-preserved
batches-preserved c = one_passed c.args.bytes.now c.batches.payloads c.next.new.self c.in-Some._payload.now c.batches.count c.batches.invariant c.in-Some.ensures.some.0 c.in-Some.ensures.some.1
