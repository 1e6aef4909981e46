use Rattle.std.proofs.Common.{◌<◌, List, ℕ, ◌++◌, codes, length, sym, ap, subst, arith}
use Rattle.sn_http.specs.Answers.{Passes}
use Rattle.sn_http.proofs.Writing.{on_err, part_as, part_more, pass_part, pass_two, allowed_line}
use Rattle.sn_http.proofs.answer.put_allow.Goals as goal

pub returns-in_err-put-clause-err : goal.returns-in_err-put-clause-err
returns-in_err-put-clause-err g c =
    let allow = c.args.allow.now in
    let some : 0 < length allow = grind arith in
    let old = c.args.block.now in
    let name = codes "Allow: " in
    let end = codes "\r\n" in
    let is = ap (λ (l : List ℕ). old ++ l) (sym (allowed_line allow some)) in
    let before = g.K.Sink.held c.args.sink.now in
    let first = g.K.Sink.held c.put.new.sink in
    on_err _ c.from_residual.result (part_as before first _ _ is (part_more before first old name (allow ++ end) c.in_err-put.ensures.err))

pub returns-in_err-put-2-clause-err : goal.returns-in_err-put-2-clause-err
returns-in_err-put-2-clause-err g c =
    let allow = c.args.allow.now in
    let some : 0 < length allow = grind arith in
    let old = c.args.block.now in
    let name = codes "Allow: " in
    let end = codes "\r\n" in
    let is = ap (λ (l : List ℕ). old ++ l) (sym (allowed_line allow some)) in
    let before = g.K.Sink.held c.args.sink.now in
    let first = g.K.Sink.held c.put.new.sink in
    let second = g.K.Sink.held c.put-2.new.sink in
    on_err _ c.from_residual-in_err-put-2.result (part_as before second _ _ is
    (pass_part before first second old c.put.new.block name (allow ++ end) c.in_ok-put.ensures.ok (part_more first second c.put.new.block allow end c.in_err-put-2.ensures.err)))

pub returns-in_err-put-3-clause-err : goal.returns-in_err-put-3-clause-err
returns-in_err-put-3-clause-err g c =
    let allow = c.args.allow.now in
    let some : 0 < length allow = grind arith in
    let old = c.args.block.now in
    let name = codes "Allow: " in
    let end = codes "\r\n" in
    let is = ap (λ (l : List ℕ). old ++ l) (sym (allowed_line allow some)) in
    let before = g.K.Sink.held c.args.sink.now in
    let first = g.K.Sink.held c.put.new.sink in
    let second = g.K.Sink.held c.put-2.new.sink in
    let third = g.K.Sink.held c.put-3.new.sink in
    on_err _ c.from_residual-in_err-put-3.result (part_as before third _ _ is
    (pass_part before first third old c.put.new.block name (allow ++ end) c.in_ok-put.ensures.ok
    (pass_part first second third c.put.new.block c.put-2.new.block allow end c.in_ok-put-2.ensures.ok c.in_err-put-3.ensures.err)))

pub returns-clause-ok : goal.returns-clause-ok
returns-clause-ok g c =
    let allow = c.args.allow.now in
    let some : 0 < length allow = grind arith in
    let old = c.args.block.now in
    let name = codes "Allow: " in
    let end = codes "\r\n" in
    let before = g.K.Sink.held c.args.sink.now in
    let first = g.K.Sink.held c.put.new.sink in
    let second = g.K.Sink.held c.put-2.new.sink in
    let third = g.K.Sink.held c.put-3.new.sink in
    subst (λ (l : List ℕ). Passes before third old c.put-3.new.block l) (sym (allowed_line allow some))
    (pass_two before first third old c.put.new.block c.put-3.new.block name (allow ++ end) c.in_ok-put.ensures.ok
    (pass_two first second third c.put.new.block c.put-2.new.block c.put-3.new.block allow end c.in_ok-put-2.ensures.ok c.in_ok-put-3.ensures.ok))
