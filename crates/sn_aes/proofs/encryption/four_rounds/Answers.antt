use Rattle.std.proofs.Common.{◌+◌, arith}
use Rattle.sn_aes.proofs.Words.{rounds_more}
use Rattle.sn_aes.proofs.encryption.four_rounds.Goals as goal

pub returns : goal.returns
returns c = λ b h.
    let keys = c.args.keys.now in
    let n = c.args.n in
    let one = rounds_more keys b _ _ n (n + 1) (omega arith) h c.round-s.ensures in
    let two = rounds_more keys b _ _ (n + 1) (n + 2) (omega arith) one c.round-s-2.ensures in
    let three = rounds_more keys b _ _ (n + 2) (n + 3) (omega arith) two c.round-s-3.ensures in
    rounds_more keys b _ _ (n + 3) (n + 4) (omega arith) three c.round.ensures
