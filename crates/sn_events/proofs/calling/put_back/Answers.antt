use Rattle.sn_events.proofs.calling.put_back.Goals as goal

pub returns : goal.returns
returns g c = record {
  server = c.in_ok-link.ensures.0;
  device = _;
  gate = _;
  own = c.in_ok-put.ensures.own;
  gives = c.in_ok-device.ensures.gives;
  behind = c.in_ok-batches.ensures;
  exchanged_are = c.in_ok-link.ensures.1;
  others = c.in_ok-put.ensures.others;
}
