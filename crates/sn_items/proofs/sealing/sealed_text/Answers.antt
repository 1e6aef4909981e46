use Rattle.std.proofs.Common.{rules}
use Rattle.sn_cbc.specs.Cbc.{IsCbc}
use Rattle.sn_items.proofs.sealing.sealed_text.Goals as goal

pub returns-clause-opens : goal.returns-clause-opens
returns-clause-opens c params last =
    let cbc : IsCbc c.args.encryption_key.now c.args.iv.now c.args.plain.now c.deref.result.now = search rules in
    c.string_of.ensures.opens c.args.encryption_key.now c.args.plain.now params cbc last c.utf8.plain

pub returns-clause-carries : goal.returns-clause-carries
returns-clause-carries c params last =
    let cbc : IsCbc c.args.encryption_key.now c.args.iv.now c.args.plain.now c.deref.result.now = search rules in
    c.string_of.ensures.carries c.args.encryption_key.now c.args.plain.now params cbc last
