use Rattle.std.proofs.Common.{rules, arith, ◌-◌, ◌%◌, ◌≤◌, length}
use Rattle.std.proofs.lemmas.List.{take-replicate}
use Rattle.sn_cbc.proofs.padding.padded_text.Goals as goal

pub returns-clause-text : goal.returns-clause-text
returns-clause-text c =
    let few : 16 - length c.args.plain.items % 16 ≤ 16 = omega arith in
    search (rules, take-replicate (16 - length c.args.plain.items % 16) 16 (16 - length c.args.plain.items % 16) few)
