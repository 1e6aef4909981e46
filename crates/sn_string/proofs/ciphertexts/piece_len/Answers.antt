use Rattle.std.proofs.Common.{arith, ◌≤◌, length}
use Rattle.sn_string.proofs.Pieces.{decoded, refused}
use Rattle.sn_string.proofs.ciphertexts.piece_len.Goals as goal

pub returns-in-Ok-clause-some : goal.returns-in-Ok-clause-some
returns-in-Ok-clause-some c =
    let within : c.in-Ok.count ≤ length c.decode_slice_unchecked.new.output = omega (arith, c.in-Ok.ensures.ok.2) in
    decoded c.args.text.now c.decode_slice_unchecked.new.output c.in-Ok.count
    (λ i. let fits = c.type_inv.text i in omega arith) (λ i. let fits = c.type_inv.room i in omega arith) within c.in-Ok.ensures.ok.0

pub returns-in-Err-clause-none : goal.returns-in-Err-clause-none
returns-in-Err-clause-none c = refused c.args.text.now _ c.in-Err.ensures.err
