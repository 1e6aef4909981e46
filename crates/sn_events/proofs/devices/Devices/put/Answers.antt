use Rattle.std.proofs.Common.{arith}
use Rattle.std.proofs.lemmas.Map.Text.{text_keys}
use Rattle.sn_events.specs.Devices.{device_of}
use Rattle.sn_events.proofs.devices.Devices.put.Goals as goal

pub returns-in-Ok-clause-own : goal.returns-in-Ok-clause-own
unfolding device_of
returns-in-Ok-clause-own c = grind (arith, text_keys)

pub returns-in-Ok-clause-others : goal.returns-in-Ok-clause-others
unfolding device_of
returns-in-Ok-clause-others c = grind (arith, text_keys)
