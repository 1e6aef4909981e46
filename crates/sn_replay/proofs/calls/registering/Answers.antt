use Rattle.std.proofs.Common.{Some, ap}
use Rattle.sn_laws.specs.Lookups.{Bytes}
use Rattle.sn_telling.specs.declared.calling.Calling.TheVariants as calling
use Rattle.sn_replay.proofs.calls.registering.Goals as goal

pub returns : goal.returns
returns c = (c.in_ok-set.set, ap (λ (i : Bytes). calling.Register i (Some c.in_ok-set.set)) c.in_ok-try_clone.ensures, c.in_ok-set.ensures)
