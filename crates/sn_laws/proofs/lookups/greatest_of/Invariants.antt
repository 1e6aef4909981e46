use Rattle.std.proofs.Common.{◌≡◌, drop}
use Rattle.sn_laws.specs.Lookups.{greatest}
use Rattle.sn_laws.proofs.lookups.greatest_of.Given as goal

abbrev pub invariant-loop-number : goal.invariant-loop-number
invariant-loop-number l = greatest l.most (drop l.number-index l.numbers) ≡ greatest 0 l.numbers
