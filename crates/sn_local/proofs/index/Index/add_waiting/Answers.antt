use Rattle.sn_local.proofs.IndexLemmas.{waiting_stay}
use Rattle.sn_local.proofs.index.Index.add_waiting.Goals as goal

pub returns-in-Ok-clause-kept : goal.returns-in-Ok-clause-kept
returns-in-Ok-clause-kept c = record {
  names = λ uuid n h. h;
  waiting = waiting_stay c.args.self.now.waiting c.insert.new.self c.args.number c.in-Ok.ensures.updates.0;
}
