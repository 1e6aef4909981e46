use Rattle.std.proofs.Common.{arith, inl, inr, refl}
use Rattle.sn_exchange.proofs.asking.hear_behind.Goals as goal

pub returns-then-used-clause-heard : goal.returns-then-used-clause-heard
returns-then-used-clause-heard g c = inl (omega (arith, c.if-used.true, c.requires.few), g.met.L.Link.asking.none c.args.link.now, refl)

pub returns-clause-heard : goal.returns-clause-heard
returns-clause-heard g c = inr (omega (arith, c.if-used.false), c.hear.ensures.heard)
