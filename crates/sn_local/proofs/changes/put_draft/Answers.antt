use Rattle.std.specs.Prelude.{Some}
use Rattle.sn_device.specs.States.{columns}
use Rattle.sn_device.specs.Steps.{drafted}
use Rattle.sn_local.proofs.ChangeLemmas.{puts_columns}
use Rattle.sn_local.proofs.changes.put_draft.Goals as goal

pub returns : goal.returns
returns c =
    puts_columns c.put_local.result c.args.number _ (drafted (Some c.args.draft) (columns c.args.item.now)) c.put_local.ensures (λ i. record {
      uuid = c.args.item.now.uuid;
      kind = c.in_ok-kind.ensures i;
      base = c.args.item.now.base;
      stale = c.args.item.now.stale;
      body = c.in_ok-body.ensures i;
      latest = Some c.args.draft;
      posted = c.in_ok-posted.ensures i;
    })
