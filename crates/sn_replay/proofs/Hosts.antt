-- The host that devices ask has a name that a server reads.
use Rattle.std.proofs.Common.{arith, rules}
use Rattle.sn_events.specs.Calling.{host}
use Rattle.sn_readable.specs.Laws.{IsHostName}

pub host_named : IsHostName host
host_named = search rules
