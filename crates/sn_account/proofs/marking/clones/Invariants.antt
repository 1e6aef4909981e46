use Rattle.std.proofs.Common.{◌≡◌, take}
use Rattle.sn_account.proofs.marking.clones.Given as goal

abbrev pub invariant-changes : goal.invariant-changes
invariant-changes l = l.copies ≡ take l.change-index l.changes
