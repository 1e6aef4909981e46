use Rattle.std.proofs.Common.{◌≡◌, take}
use Rattle.sn_string.proofs.try_clone.OwnedListTryClone.try_clone.Given as goal

abbrev pub invariant-loop-element : goal.invariant-loop-element
invariant-loop-element g l = l.elements ≡ take l.element-index l.element-items
