use Rattle.std.proofs.Common.{arith}
use Rattle.std.proofs.lemmas.Map.Text.{text_keys}
use Rattle.sn_events.specs.Devices.{device_of}
use Rattle.sn_events.proofs.devices.Devices.take.Goals as goal

pub returns-in-Some-clause-others : goal.returns-in-Some-clause-others
unfolding device_of
returns-in-Some-clause-others c = grind (arith, text_keys)
