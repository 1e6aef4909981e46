use Rattle.std.proofs.Common.{ℕ, List, length, sym, ap, arith}
use Rattle.sn_rows.proofs.TextLemmas.{colon_found, colon_absent}
use Rattle.sn_rows.proofs.texts.colon_lengths.Goals as goal

pub returns-in-Some-clause-before : goal.returns-in-Some-clause-before
returns-in-Some-clause-before c = sym (colon_found c.args.bytes.now c.in-Some.place c.in-Some.ensures).0

pub returns-in-Some-clause-after : goal.returns-in-Some-clause-after
returns-in-Some-clause-after c = omega (arith, (colon_found c.args.bytes.now c.in-Some.place c.in-Some.ensures).1)

pub returns-in-None-clause-before : goal.returns-in-None-clause-before
returns-in-None-clause-before c =
    sym (ap (λ (t : List ℕ). length t) (colon_absent c.args.bytes.now c.in-None.ensures).0)

pub returns-in-None-clause-after : goal.returns-in-None-clause-after
returns-in-None-clause-after c =
    sym (ap (λ (t : List ℕ). length t) (colon_absent c.args.bytes.now c.in-None.ensures).1)
