use Rattle.std.proofs.Common.{◌-◌, length}
use Rattle.sn_string.proofs.Pieces.{IsFront}
use Rattle.sn_string.proofs.ciphertexts.decoded_len.Given as goal

abbrev pub invariant-loop-done : goal.invariant-loop-done
invariant-loop-done l = IsFront l.text l.done l.count

abbrev pub decreases-loop-done : goal.decreases-loop-done
decreases-loop-done l = length l.text - l.done
