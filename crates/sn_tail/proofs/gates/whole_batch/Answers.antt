use Rattle.std.proofs.Common.{◌≡◌, ℕ, slice_index_or, arith, length-take, length-drop}
use Rattle.sn_journal.proofs.Facts.{whole}
use Rattle.sn_tail.proofs.gates.whole_batch.Goals as goal

pub returns-clause-some : goal.returns-clause-some
returns-clause-some c =
    let bytes = c.args.bytes.now in
    let gate : slice_index_or bytes 0 0 ≡ 1 = omega arith in
    whole bytes c.from_be_bytes-size.result c.in-1.len_at_least (λ i. omega (arith, c.type_inv.bytes i)) gate c.from_be_bytes-size.ensures (omega (arith, length-take {A = ℕ}, length-drop {A = ℕ})) (omega arith)
