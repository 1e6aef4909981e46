use Rattle.std.proofs.Common.{◌∙◌, ap, Bor, List, ℕ, [], get_or, map}
use Rattle.sn_script.specs.Scripts.{without_last}
use Rattle.sn_script.proofs.ScriptFacts.{next, first_wrong, line_absent, line_found}
use Rattle.sn_script.proofs.reader.read_script.Goals as goal

pub returns-in_default-clause-err : goal.returns-in_default-clause-err
returns-in_default-clause-err c =
    let texts = c.without_empty_last-texts.result.now in
    let place = c.loop-place.place in
    let d : Bor (List ℕ) = record { ref_ptr = (0, 0); now = [] } in
    first_wrong (λ t. t.now) c.args.text.now texts c.loop-place.lines place d
    (c.without_empty_last-texts.ensures ∙ ap (λ all. without_last (map (λ t. t.now) all)) c.as_slice.ensures.value
    ∙ ap without_last c.in_ok-parts.ensures)
    c.loop-place-test.true c.loop-place.invariant
    (line_absent place (get_or texts place d).now c.in_ok-line.field-0 c.in_ok-line.ensures c.in_default.not-Some)

pub loop-place-preserved : goal.loop-place-preserved
loop-place-preserved c =
    let texts = c.without_empty_last-texts.result.now in
    let place = c.loop-place.place in
    let d : Bor (List ℕ) = record { ref_ptr = (0, 0); now = [] } in
    next (λ t. t.now) texts c.loop-place.lines c.push.new.self place d c.in-Some.line c.loop-place-test.true c.loop-place.invariant
    (line_found place (get_or texts place d).now c.in_ok-line.field-0 c.in-Some.line c.in_ok-line.ensures c.in-Some.is)
    c.in_ok-push.ensures.ok
