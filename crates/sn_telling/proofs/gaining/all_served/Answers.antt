use Rattle.std.proofs.Common.{◌≡◌, ◌∙◌, List, Some, ap, length, map-id, refl, sym}
use Rattle.std.proofs.lemmas.Iterator.Adapters.{YieldsList-from_vec}
use Rattle.std.proofs.lemmas.Iterator.Consumers.{YieldsList-end}
use Rattle.std.specs.Option.{option_copied}
use Rattle.sn_laws.specs.declared.moves.Move.{Move}
use Rattle.sn_row_map.specs.RowMaps.{row_in}
use Rattle.sn_rows.specs.Table.{Rows}
use Rattle.sn_rows.specs.declared.change.Change.{Change}
use Rattle.sn_telling.specs.Walking.{IsServingKnown, SaysGained}
use Rattle.sn_telling.proofs.WalkLemmas.{rows_more, says_end, says_more}
use Rattle.sn_telling.proofs.gaining.all_served.Goals as goal

pub batches-preserved : goal.batches-preserved
batches-preserved c = record {
  says = says_more
      (λ (server : Rows) (batch : List Change) (moves : List Move). IsServingKnown server (row_in c.args.device.now) c.args.name.now (option_copied c.args.begins)
      c.args.request.now batch moves)
      (λ (server : Rows) (batches : List (List Change)) (moves : List Move). SaysGained server (row_in c.args.device.now) c.args.name.now
      (option_copied c.args.begins) (Some c.args.request.now) batches moves)
      (λ server batch batches first later one others. (first, later, one, others, refl)) (row_in c.args.server.now) c.batches.yielded (row_in c.batches.server)
      (row_in c.batch_served.new.server) c.in-Some.batch c.batches.moves c.in_ok-said.said c.push_all.new.moves c.in_ok-said.ensures.moves
      c.in_ok-push_all.ensures c.in_ok-said.ensures.rows c.batches.invariant.says;
  rows = rows_more (row_in c.args.server.now) (row_in c.batches.server) (row_in c.batch_served.new.server) c.batches.yielded c.in-Some.batch c.batches.invariant.rows
      c.in_ok-said.ensures.rows;
}

pub returns-clause-moves : goal.returns-clause-moves
returns-clause-moves c =
    let given = c.into_iter-batch-iterator.result in
    let same : given.rest.items ≡ c.args.batches = cc in
    let long : given.rest.len ≡ length c.args.batches = cc (ap length same) in
    let all = YieldsList-end (YieldsList-from_vec {s = given} c.args.batches same long) c.batches.yielded c.batches.batch-iterator c.batches.yielded_by c.next.result
    c.next.new.self c.in-None.is c.next.ensures.steps in
    says_end
    (λ (server : Rows) (batches : List (List Change)) (moves : List Move). SaysGained server (row_in c.args.device.now) c.args.name.now
    (option_copied c.args.begins) (Some c.args.request.now) batches moves)
    (λ server. refl) (row_in c.args.server.now) c.args.batches c.batches.yielded (row_in c.batches.server) c.batches.moves (sym (map-id c.batches.yielded) ∙ all.0)
    c.batches.invariant.says
