use Rattle.sn_summary.proofs.drafts.remove.Goals as goal

pub returns : goal.returns
returns c = record {
  key = c.in_ok-key.key;
  device_is = c.in_ok-key.ensures.device;
  uuid_is = c.in_ok-key.ensures.uuid;
  updates = c.remove.ensures.updates.0;
  len = cc (c.remove.ensures.test, c.remove.ensures.len);
}
