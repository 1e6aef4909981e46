use Rattle.std.proofs.Common.{List, ℕ, ◌++◌, refl, ap, subst, ◌∙◌}
use Rattle.std.specs.List.{flat_map}
use Rattle.std.specs.Io.KnownBytes.{Appends}
use Rattle.sn_http.specs.Lines.{line}
use Rattle.sn_http.specs.Answers.{allowed, answer}
use Rattle.sn_http.proofs.Writing.{on_err, part_as, part_more, pass_part, pass_all, answer_is, answer_end}
use Rattle.sn_http.proofs.answer.write_answer.Goals as goal

pub returns-in_err-put_allow-clause-err : goal.returns-in_err-put_allow-clause-err
returns-in_err-put_allow-clause-err g c =
    let start = c.start_of-block.result in
    let allow = c.as_bytes.result.now in
    let line_of = flat_map line (allowed allow) in
    let piece = answer_end c.args.status c.args.closing in
    let body = c.args.body.now in
    let is = answer_is start piece c.args.status allow c.args.closing body c.start_of-block.ensures (refl) ∙ ap (λ (l : List ℕ). answer c.args.status l c.args.closing body) c.as_bytes.ensures.value in
    let before = g.K.Sink.held c.args.sink.now in
    let first = g.K.Sink.held c.put_allow.new.sink in
    on_err _ c.from_residual.result (part_as before first _ _ is (part_more before first start line_of (piece ++ body) c.in_err-put_allow.ensures.err))

pub returns-in_err-put-clause-err : goal.returns-in_err-put-clause-err
returns-in_err-put-clause-err g c =
    let start = c.start_of-block.result in
    let allow = c.as_bytes.result.now in
    let line_of = flat_map line (allowed allow) in
    let piece = c.bytes.result.now in
    let body = c.args.body.now in
    let is = answer_is start piece c.args.status allow c.args.closing body c.start_of-block.ensures (c.bytes.ensures.is ∙ c.end_of-end.ensures) ∙ ap (λ (l : List ℕ). answer c.args.status l c.args.closing body) c.as_bytes.ensures.value in
    let before = g.K.Sink.held c.args.sink.now in
    let first = g.K.Sink.held c.put_allow.new.sink in
    let second = g.K.Sink.held c.put.new.sink in
    on_err _ c.from_residual-in_err-put.result (part_as before second _ _ is
    (pass_part before first second start c.put_allow.new.block line_of (piece ++ body) c.in_ok-put_allow.ensures.ok
    (part_more first second c.put_allow.new.block piece body c.in_err-put.ensures.err)))

pub returns-in_err-send-clause-err : goal.returns-in_err-send-clause-err
returns-in_err-send-clause-err g c =
    let start = c.start_of-block.result in
    let allow = c.as_bytes.result.now in
    let line_of = flat_map line (allowed allow) in
    let piece = c.bytes.result.now in
    let body = c.args.body.now in
    let is = answer_is start piece c.args.status allow c.args.closing body c.start_of-block.ensures (c.bytes.ensures.is ∙ c.end_of-end.ensures) ∙ ap (λ (l : List ℕ). answer c.args.status l c.args.closing body) c.as_bytes.ensures.value in
    let before = g.K.Sink.held c.args.sink.now in
    let first = g.K.Sink.held c.put_allow.new.sink in
    let second = g.K.Sink.held c.put.new.sink in
    let third = g.K.Sink.held c.send.new.sink in
    on_err _ c.from_residual-in_err-send.result (part_as before third _ _ is
    (pass_part before first third start c.put_allow.new.block line_of (piece ++ body) c.in_ok-put_allow.ensures.ok
    (pass_part first second third c.put_allow.new.block c.put.new.block piece body c.in_ok-put.ensures.ok c.in_err-send.ensures.err)))

pub returns-clause-ok : goal.returns-clause-ok
returns-clause-ok g c =
    let start = c.start_of-block.result in
    let allow = c.as_bytes.result.now in
    let line_of = flat_map line (allowed allow) in
    let piece = c.bytes.result.now in
    let body = c.args.body.now in
    let is = answer_is start piece c.args.status allow c.args.closing body c.start_of-block.ensures (c.bytes.ensures.is ∙ c.end_of-end.ensures) ∙ ap (λ (l : List ℕ). answer c.args.status l c.args.closing body) c.as_bytes.ensures.value in
    let before = g.K.Sink.held c.args.sink.now in
    let first = g.K.Sink.held c.put_allow.new.sink in
    let second = g.K.Sink.held c.put.new.sink in
    let third = g.K.Sink.held c.send.new.sink in
    subst (λ (l : List ℕ). Appends before third l) is
    (pass_all before first third start c.put_allow.new.block line_of (piece ++ body) c.in_ok-put_allow.ensures.ok
    (pass_all first second third c.put_allow.new.block c.put.new.block piece body c.in_ok-put.ensures.ok c.in_ok-send.ensures.ok))
