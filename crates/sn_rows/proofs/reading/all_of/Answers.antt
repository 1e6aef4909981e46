use Rattle.std.proofs.Common.{rules, ◌≡◌, ◌<◌, ◌+◌, ◌-◌, length, [], ◌∷◌, ◌++◌, ap, arith, length-append}
use Rattle.std.proofs.lemmas.Result.{err_from_is_err_and}
use Rattle.sn_rows.specs.Spelling.{entries_of}
use Rattle.sn_rows.specs.Reading.{spot, payload_at}
use Rattle.sn_rows.proofs.ReadingOn.{goes_on, ends, is_done, some_left, none_left}
use Rattle.sn_rows.proofs.reading.all_of.Goals as goal

pub returns-in_err-change : goal.returns-in_err-change
returns-in_err-change c =
    let p = err_from_is_err_and c.from_residual.result c.from_residual.ensures.1 in
    let some : 0 < length c.loop-rest.rest.now = some_left c.loop-rest.rest.now c.is_empty.result c.is_empty.ensures c.loop-rest-test.true in
    rw (p.1, p.2) (ends c.in_err-change.field-0.0 (entries_of c.loop-rest.changes) (length c.args.bytes.now) (length c.loop-rest.changes) (spot c.loop-rest.place c.loop-rest.rest.now) (payload_at c.args.bytes.now)
    some c.loop-rest.invariant.fewer c.in_err-change.ensures.gives c.loop-rest.invariant.told)

pub loop-rest-preserved : goal.loop-rest-preserved
loop-rest-preserved c =
    let some : 0 < length c.loop-rest.rest.now = some_left c.loop-rest.rest.now c.is_empty.result c.is_empty.ensures c.loop-rest-test.true in
    let e : c.push.new.self ≡ c.loop-rest.changes ++ c.in_ok-change.change ∷ [] = search rules in
    let more : length c.push.new.self ≡ length c.loop-rest.changes + 1 = omega (arith, ap length e, length-append c.loop-rest.changes (c.in_ok-change.change ∷ [])) in
    record {
      told = rw (more, e) (goes_on c.loop-rest.changes c.in_ok-change.change (length c.args.bytes.now) (spot c.loop-rest.place c.loop-rest.rest.now) (spot c.in_ok-change.next.place c.in_ok-change.next.rest.now) (payload_at c.args.bytes.now)
          some c.loop-rest.invariant.fewer c.in_ok-change.ensures.gives c.loop-rest.invariant.told);
      fewer = omega (arith, more, c.in_ok-change.ensures.less, c.loop-rest.invariant.fewer);
      inside = c.in_ok-change.next.inside;
    }

pub returns : goal.returns
returns c = is_done (entries_of c.loop-rest.changes) (length c.args.bytes.now - length c.loop-rest.changes) (spot c.loop-rest.place c.loop-rest.rest.now) (payload_at c.args.bytes.now)
    (none_left c.loop-rest.rest.now c.is_empty.result c.is_empty.ensures c.loop-rest-test.false) c.loop-rest.invariant.told
