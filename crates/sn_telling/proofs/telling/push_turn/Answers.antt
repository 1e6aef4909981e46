use Rattle.std.proofs.Common.{◌≡◌, ◌∙◌, Bool, List, ap, refl, rules, subst}
use Rattle.sn_row_map.specs.RowMaps.{row_in}
use Rattle.sn_rows.specs.declared.change.Change.{Change}
use Rattle.sn_telling.specs.Turns.{SaysTurn}
use Rattle.sn_telling.specs.Walking.{asks_sync, front, rest}
use Rattle.sn_telling.proofs.telling.push_turn.Goals as goal

pub returns : goal.returns
returns c =
    let at = c.args.walk.now in
    let found = c.args.request.now in
    let turn = c.in_ok-push_said.ensures.turn in
    let same : c.asks_sync-syncs.result ≡ asks_sync found = c.asks_sync-syncs.ensures in
    λ read. record {
      found = found;
      said = turn.0;
      begins = turn.1;
      read = read;
      turn = subst (λ (batches : List (List Change)). SaysTurn c.args.calling.now (row_in c.args.server.now) (row_in c.args.device.now) c.args.name.now at.answer batches found
          c.args.exchange.batches turn.0 turn.1 (row_in c.push_said.new.server) (row_in c.push_said.new.device))
          (c.in_ok-first.ensures.front ∙ ap (λ (b : Bool). front at.heard b at.left.items) same) turn.4;
      moves_are = turn.2;
      begun_are = turn.3;
      requests_are = search rules;
      heard_is = same;
      answer_is = refl;
      left_are = c.in_ok-first.ensures.rest ∙ ap (λ (b : Bool). rest at.heard b at.left.items) same;
    }
