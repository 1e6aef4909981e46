use Rattle.std.specs.Prelude.{None}
use Rattle.sn_device.specs.States.{columns}
use Rattle.sn_device.specs.Taking.{unposted}
use Rattle.sn_local.proofs.Facts.{puts_columns}
use Rattle.sn_taking.proofs.renaming.unpost.Goals as goal

pub returns : goal.returns
returns c =
    puts_columns c.put_local.result c.args.number _ (unposted (columns c.args.local.now)) c.put_local.ensures (λ i. record {
      uuid = c.args.local.now.uuid;
      kind = c.in_ok-kind.ensures i;
      base = c.args.local.now.base;
      stale = c.args.local.now.stale;
      body = c.in_ok-body.ensures i;
      latest = c.in_ok-latest.ensures i;
      posted = None;
    })
