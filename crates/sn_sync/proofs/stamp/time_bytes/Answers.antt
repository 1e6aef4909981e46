use Rattle.sn_sync.proofs.Spelled.{time_written}
use Rattle.sn_sync.proofs.stamp.time_bytes.Goals as goal

pub returns : goal.returns
returns c = time_written _ _ _ _ _ _ _ _ _ _ _ _ c.args.since c.requires c.two_digits-a.ensures c.two_digits-c.ensures c.two_digits-e.ensures
    c.two_digits-g.ensures c.two_digits-i.ensures c.two_digits-k.ensures
