use Rattle.std.proofs.Common.{subst, ℕ, List}
use Rattle.sn_items.specs.Refusals.{HasCause}
use Rattle.sn_rekey.proofs.RewrapLemmas.{key_is_read}
use Rattle.sn_rekey.proofs.rewrapping.key_digits.Goals as goal

pub unreachable-requires : goal.unreachable-requires
unreachable-requires c =
    c.in_ok-refused-in-Err.ensures
    (key_is_read c.args.sealed.now c.args.uuid c.args.set.now c.requires.0 c.in-Err.error c.requires.1
    (subst (λ (text : List ℕ). HasCause text c.args.uuid c.args.set.now.mk c.args.set.now.ak c.in-Err.error) c.as_str.ensures c.in-Err.ensures.err))
