use Rattle.std.proofs.Common.{◌∙◌}
use Rattle.sn_device.specs.Taking.{new_columns}
use Rattle.sn_local.proofs.ChangeLemmas.{puts_columns}
use Rattle.sn_local.proofs.changes.put_new.Goals as goal

pub returns : goal.returns
returns c =
    let parts = c.in-Some.ensures.parts in
    let kind_is = parts.1 ∙ c.in_ok-kind.ensures in
    puts_columns c.put_local.result c.args.number c.in-Some.item (new_columns c.args.uuid c.args.kind.now c.args.strings) c.put_local.ensures (λ i. record {
      uuid = parts.0 i;
      kind = kind_is i;
      base = parts.2 i;
      stale = parts.3 i;
      body = parts.4 i;
      latest = parts.5 i;
      posted = parts.6 i;
    })
