use Rattle.std.specs.Prelude.{take}
use Rattle.sn_replay.specs.Playing.{IsPlayed}
use Rattle.sn_replay.proofs.run.play.Given as goal

abbrev pub invariant-lines : goal.invariant-lines
invariant-lines l = IsPlayed l.script l.initial.state.settings (take l.index l.line-items) l.state
