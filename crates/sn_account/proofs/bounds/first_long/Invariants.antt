use Rattle.std.proofs.Common.{take}
use Rattle.sn_account.specs.Syncs.{NoneLong}
use Rattle.sn_account.proofs.bounds.first_long.Given as goal

abbrev pub invariant-items : goal.invariant-items
invariant-items l = NoneLong (take l.item-index l.items)
