use Rattle.std.proofs.Common.{◌≡◌, ◌∙◌, List, ap, length, map-id, refl, subst, sym}
use Rattle.std.proofs.lemmas.Iterator.Adapters.{YieldsList-from_vec}
use Rattle.std.proofs.lemmas.Iterator.Consumers.{YieldsList-end}
use Rattle.sn_laws.specs.declared.moves.Move.{Move}
use Rattle.sn_row_map.specs.RowMaps.{row_in}
use Rattle.sn_rows.specs.Table.{Rows}
use Rattle.sn_rows.specs.declared.change.Change.{Change}
use Rattle.sn_telling.specs.Walking.{SaysBatch, SaysBatches}
use Rattle.sn_telling.proofs.WalkLemmas.{rows_more, says_end, says_more}
use Rattle.sn_telling.proofs.committing.committed.Goals as goal

pub batches-preserved : goal.batches-preserved
batches-preserved c = record {
  says = says_more
      (λ (rows : Rows) (batch : List Change) (moves : List Move). SaysBatch c.args.calling.now (row_in c.args.server.now) rows c.args.name.now c.args.answer.now batch moves)
      (λ (rows : Rows) (batches : List (List Change)) (moves : List Move). SaysBatches c.args.calling.now (row_in c.args.server.now) rows c.args.name.now
      c.args.answer.now batches moves)
      (λ rows batch batches first later one others. (first, later, one, others, refl)) (row_in c.args.device.now) c.batches.yielded (row_in c.batches.device)
      (row_in c.change_rows.new.rows) c.in-Some.batch c.batches.moves c.in_ok-said.said c.push_all.new.moves
      (subst (λ (batch : List Change). SaysBatch c.args.calling.now (row_in c.args.server.now) (row_in c.batches.device) c.args.name.now c.args.answer.now batch
      c.in_ok-said.said) c.as_slice-changes.ensures c.in_ok-said.ensures)
      c.in_ok-push_all.ensures c.in_ok-change_rows.ensures c.batches.invariant.says;
  rows = rows_more (row_in c.args.device.now) (row_in c.batches.device) (row_in c.change_rows.new.rows) c.batches.yielded c.in-Some.batch c.batches.invariant.rows
      c.in_ok-change_rows.ensures;
}

pub returns-clause-moves : goal.returns-clause-moves
returns-clause-moves c =
    let given = c.into_iter-batch-iterator.result in
    let same : given.rest.items ≡ c.args.batches.items = cc in
    let long : given.rest.len ≡ length c.args.batches.items = cc (ap length same) in
    let all = YieldsList-end (YieldsList-from_vec {s = given} c.args.batches.items same long) c.batches.yielded c.batches.batch-iterator c.batches.yielded_by c.next.result
    c.next.new.self c.in-None.is c.next.ensures.steps in
    says_end
    (λ (rows : Rows) (batches : List (List Change)) (moves : List Move). SaysBatches c.args.calling.now (row_in c.args.server.now) rows c.args.name.now
    c.args.answer.now batches moves)
    (λ rows. refl) (row_in c.args.device.now) c.args.batches.items c.batches.yielded (row_in c.batches.device) c.batches.moves (sym (map-id c.batches.yielded) ∙ all.0)
    c.batches.invariant.says
