use Rattle.sn_account.specs.Sound.{IsSound}
use Rattle.sn_account.specs.States.{IsUnmarked, state_rows}
use Rattle.sn_bench_ends.proofs.rules.served.Given as goal

abbrev pub invariant-requests : goal.invariant-requests
invariant-requests l = IsUnmarked l.state.value × IsSound (state_rows l.state.value)
