use Rattle.sn_device.specs.Sending.{as_posted}
use Rattle.sn_device.specs.States.{columns}
use Rattle.sn_local.proofs.Facts.{puts_columns}
use Rattle.sn_sending.proofs.sending.posted.Goals as goal

pub returns : goal.returns
returns c =
    puts_columns c.put_local.result c.args.number _ (as_posted (columns c.args.item.now)) c.put_local.ensures (λ i. record {
      uuid = c.args.item.now.uuid;
      kind = c.in_ok-kind.ensures i;
      base = c.args.item.now.base;
      stale = c.args.item.now.stale;
      body = c.in_ok-body.ensures i;
      latest = c.in_ok-latest.ensures i;
      posted = c.in_ok-posted.ensures i;
    })
