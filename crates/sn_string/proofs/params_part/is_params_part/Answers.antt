use Rattle.std.proofs.Common.{rules, ◌↔◌, IsTrue}
use Rattle.std.specs.Prelude.{IsSome}
use Rattle.sn_string.proofs.PartFacts.{part_lent, part_read}
use Rattle.sn_string.proofs.params_part.is_params_part.Goals as goal

pub returns-then-is_some : goal.returns-then-is_some
returns-then-is_some c =
    let some : IsSome c.plain_params.result = search rules in
    part_lent c.args.part.now c.plain_params.result c.plain_params.ensures some

pub returns : goal.returns
returns c =
    let test : IsTrue c.is_some-2.result ↔ IsSome c.in_ok-found.found = search rules in
    part_read c.args.part.now c.in_ok-found.found c.is_some-2.result c.in_ok-found.ensures.some c.in_ok-found.ensures.none test
