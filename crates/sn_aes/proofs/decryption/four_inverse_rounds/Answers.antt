use Rattle.std.proofs.Common.{◌+◌, ◌-◌, arith}
use Rattle.sn_aes.proofs.Words.{inverse_rounds_more}
use Rattle.sn_aes.proofs.decryption.four_inverse_rounds.Goals as goal

pub returns : goal.returns
returns c = λ b h.
    let keys = c.args.keys.now in
    let n = c.args.n in
    let one = inverse_rounds_more keys b _ _ n (n + 1) (13 - n) (omega arith) (omega arith) h c.inverse_round-s.ensures in
    let two = inverse_rounds_more keys b _ _ (n + 1) (n + 2) (12 - n) (omega arith) (omega arith) one c.inverse_round-s-2.ensures in
    let three = inverse_rounds_more keys b _ _ (n + 2) (n + 3) (11 - n) (omega arith) (omega arith) two c.inverse_round-s-3.ensures in
    inverse_rounds_more keys b _ _ (n + 3) (n + 4) (10 - n) (omega arith) (omega arith) three c.inverse_round.ensures
