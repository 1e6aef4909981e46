use Rattle.std.specs.Prelude.{◌≡◌, None, take}
use Rattle.sn_course.specs.Lines.{losses_from}
use Rattle.sn_replay.proofs.losses.losses_of.Given as goal

abbrev pub invariant-fates : goal.invariant-fates
invariant-fates l = l.losses ≡ losses_from (record { request = None; reply = None }) (take l.fate-index l.fates)
