use Rattle.std.proofs.Common.{ap}
use Rattle.sn_sync.specs.Standings.{standing_of}
use Rattle.sn_sync.proofs.item_reader.updated_in.Goals as goal

pub returns-in-Sent-clause-err : goal.returns-in-Sent-clause-err
returns-in-Sent-clause-err c = rw (ap standing_of c.in-Sent.is) c.optional_in.ensures.err
