use Rattle.std.proofs.Common.{rules, ◌≡◌, true, false}
use Rattle.std.specs.Prelude.{is_some}
use Rattle.sn_account.specs.States.{state_rows}
use Rattle.sn_account.proofs.RegisterLemmas.{free, full_or_room, taken}
use Rattle.sn_account.proofs.accounts.register_cause.Goals as goal

pub returns-then-is_some : goal.returns-then-is_some
returns-then-is_some c =
    let there : is_some c.number_of.result ≡ true = search rules in
    λ store stands pw. taken (state_rows c.args.state.now) store c.args.params.now c.as_str.result.now pw c.number_of.result c.refused.result
    c.as_str.ensures c.number_of.ensures.some there c.refused.ensures

pub returns : goal.returns
returns c =
    let gone : is_some c.number_of.result ≡ false = search rules in
    let unknown = free (state_rows c.args.state.now) c.args.params.now c.as_str.result.now c.number_of.result c.as_str.ensures c.number_of.ensures.none
    gone
    in
    λ store stands. full_or_room (state_rows c.args.state.now) store c.store_of.result.now c.args.params.now c.full_cause.result c.requires.sound stands
    c.store_of.ensures unknown c.full_cause.ensures.some c.full_cause.ensures.none
