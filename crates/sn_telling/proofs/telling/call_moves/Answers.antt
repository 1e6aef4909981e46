use Rattle.std.proofs.Common.{◌≡◌, ◌++◌, ◌∷◌, [], ◌∙◌, List, None, ap, false, length, map-id, sym}
use Rattle.std.proofs.lemmas.Iterator.Adapters.{YieldsList-from_vec}
use Rattle.std.proofs.lemmas.Iterator.Consumers.{YieldsList-end}
use Rattle.std.proofs.lemmas.Result.{IfOk-weaker}
use Rattle.sn_laws.specs.Lookups.{Bytes}
use Rattle.sn_row_map.specs.RowMaps.{row_in}
use Rattle.sn_telling.specs.Walking.{SaysWalk}
use Rattle.sn_telling.proofs.WalkTurns.{Stands, requests_more, walk_ends, walk_more}
use Rattle.sn_telling.proofs.telling.call_moves.Goals as goal

pub exchanges-preserved : goal.exchanges-preserved
exchanges-preserved c =
    let start : Stands = record { server = row_in c.args.server.now; rows = row_in c.args.device.now; heard = false; answer = None; left = c.args.batches } in
    let old = c.exchanges.walk in
    let new = c.push_exchange.new.walk in
    let at : Stands = record {
      server = row_in c.exchanges.server;
      rows = row_in c.exchanges.device;
      heard = old.heard;
      answer = old.answer;
      left = old.left.items;
    } in
    let now : Stands = record {
      server = row_in c.push_exchange.new.server;
      rows = row_in c.push_exchange.new.device;
      heard = new.heard;
      answer = new.answer;
      left = new.left.items;
    } in
    let on = c.in_ok-push_exchange.ensures in
    record {
      walk = walk_more c.args.calling.now c.args.name.now start c.exchanges.yielded at old.told.moves old.told.begun c.in-Some.exchange on.found on.said on.begins now
          new.told.moves new.told.begun on.read on.turn on.heard_is on.answer_is on.left_are on.moves_are on.begun_are c.exchanges.invariant.walk;
      requests = on.requests_are ∙ ap (λ (rs : List Bytes). rs ++ c.in-Some.exchange.request ∷ []) c.exchanges.invariant.requests
          ∙ sym (requests_more c.exchanges.yielded c.in-Some.exchange);
    }

pub returns-clause-walk : goal.returns-clause-walk
returns-clause-walk c =
    let start : Stands = record { server = row_in c.args.server.now; rows = row_in c.args.device.now; heard = false; answer = None; left = c.args.batches } in
    let old = c.exchanges.walk in
    let at : Stands = record {
      server = row_in c.exchanges.server;
      rows = row_in c.exchanges.device;
      heard = old.heard;
      answer = old.answer;
      left = old.left.items;
    } in
    let given = c.into_iter-exchange-iterator.result in
    let same : given.rest.items ≡ c.args.exchanged = cc in
    let long : given.rest.len ≡ length c.args.exchanged = cc (ap length same) in
    let all = YieldsList-end (YieldsList-from_vec {s = given} c.args.exchanged same long) c.exchanges.yielded c.exchanges.exchange-iterator c.exchanges.yielded_by
    c.next.result c.next.new.self c.in-None.is c.next.ensures.steps in
    let end = row_in c.ended_walk.new.device in
    IfOk-weaker c.ended_walk.result _
    (λ told. SaysWalk c.args.calling.now c.args.name.now start.server start.rows false None c.args.batches c.args.exchanged told.moves told.begun at.server end)
    (λ told x.
    walk_ends c.args.calling.now c.args.name.now start c.exchanges.yielded at old.told.moves old.told.begun c.args.exchanged x.0 end told.moves told.begun
    (sym (map-id c.exchanges.yielded) ∙ all.0) x.2 x.4 x.1 x.3 c.exchanges.invariant.walk)
    c.ended_walk.ensures.said
