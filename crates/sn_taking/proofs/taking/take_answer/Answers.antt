use Rattle.std.proofs.Common.{◌++◌, [], map, subst}
use Rattle.sn_row_map.specs.RowMaps.{row_in}
use Rattle.sn_sets.proofs.Facts.{later_again}
use Rattle.sn_taking.specs.Taken.{StopsBy, so_far}
use Rattle.sn_device.specs.Taking.{Progress, RunsOut, TakesAll, is_conflict, is_retrieved, is_saved}
use Rattle.sn_taking.proofs.TakingLemmas.{err_as, out_before, out_behind, stops_more, takes_both}
use Rattle.sn_taking.proofs.taking.take_answer.Goals as goal

pub returns-in_err-take_saved-clause-err : goal.returns-in_err-take_saved-clause-err
returns-in_err-take_saved-clause-err c =
    let rows = row_in c.args.rows.now in
    let sets = c.args.sets.now in
    let saved = c.args.saved.now in
    let first : Progress = record { rows = rows; changes = []; next = c.args.next; words = c.args.words.now } in
    let q = so_far rows c.none-taken.result c.args.words.now in
    let s = map is_saved saved in
    let later = map is_conflict c.args.conflicts.now ++ map is_retrieved c.args.retrieved.now in
    err_as c.from_residual.result c.in_err-take_saved.field-0.0 (StopsBy (RunsOut sets saved first (s ++ later))) c.from_residual.ensures.1
    (stops_more (RunsOut sets saved q s) (RunsOut sets saved first (s ++ later)) c.in_err-take_saved.field-0.0
    (λ why out. subst (λ (z : Progress). RunsOut sets saved z (s ++ later) why) (c.none-taken.ensures rows c.args.words.now) (out_before sets saved q s later why out))
    c.in_err-take_saved.ensures.err)

pub returns-in_err-take_conflicts-clause-err : goal.returns-in_err-take_conflicts-clause-err
returns-in_err-take_conflicts-clause-err c =
    let rows = row_in c.args.rows.now in
    let sets = c.args.sets.now in
    let saved = c.args.saved.now in
    let first : Progress = record { rows = rows; changes = []; next = c.args.next; words = c.args.words.now } in
    let q = so_far rows c.none-taken.result c.args.words.now in
    let q1 = so_far rows c.take_saved.new.taken c.take_saved.new.words in
    let s = map is_saved saved in
    let k = map is_conflict c.args.conflicts.now in
    let later = map is_retrieved c.args.retrieved.now in
    err_as c.from_residual-in_err-take_conflicts.result c.in_err-take_conflicts.field-0.0 (StopsBy (RunsOut sets saved first (s ++ (k ++ later))))
    c.from_residual-in_err-take_conflicts.ensures.1
    (stops_more (RunsOut sets saved q1 k) (RunsOut sets saved first (s ++ (k ++ later))) c.in_err-take_conflicts.field-0.0
    (λ why out.
    subst (λ (z : Progress). RunsOut sets saved z (s ++ (k ++ later)) why) (c.none-taken.ensures rows c.args.words.now)
    (out_behind sets saved q q1 s (k ++ later) why c.in_ok-take_saved.ensures.ok (out_before sets saved q1 k later why out)))
    c.in_err-take_conflicts.ensures.err)

pub returns-in_err-take_conflicts-clause-words : goal.returns-in_err-take_conflicts-clause-words
returns-in_err-take_conflicts-clause-words c =
    later_again c.args.words.now c.take_saved.new.words c.take_conflicts.new.words c.take_saved.ensures.words c.take_conflicts.ensures.words

pub returns-in_err-take_retrieved-clause-err : goal.returns-in_err-take_retrieved-clause-err
returns-in_err-take_retrieved-clause-err c =
    let rows = row_in c.args.rows.now in
    let sets = c.args.sets.now in
    let saved = c.args.saved.now in
    let first : Progress = record { rows = rows; changes = []; next = c.args.next; words = c.args.words.now } in
    let q = so_far rows c.none-taken.result c.args.words.now in
    let q1 = so_far rows c.take_saved.new.taken c.take_saved.new.words in
    let q2 = so_far rows c.take_conflicts.new.taken c.take_conflicts.new.words in
    let s = map is_saved saved in
    let k = map is_conflict c.args.conflicts.now in
    let later = map is_retrieved c.args.retrieved.now in
    err_as c.from_residual-in_err-take_retrieved.result c.in_err-take_retrieved.field-0.0 (StopsBy (RunsOut sets saved first (s ++ (k ++ later))))
    c.from_residual-in_err-take_retrieved.ensures.1
    (stops_more (RunsOut sets saved q2 later) (RunsOut sets saved first (s ++ (k ++ later))) c.in_err-take_retrieved.field-0.0
    (λ why out.
    subst (λ (z : Progress). RunsOut sets saved z (s ++ (k ++ later)) why) (c.none-taken.ensures rows c.args.words.now)
    (out_behind sets saved q q1 s (k ++ later) why c.in_ok-take_saved.ensures.ok
    (out_behind sets saved q1 q2 k later why c.in_ok-take_conflicts.ensures.ok out)))
    c.in_err-take_retrieved.ensures.err)

pub returns-in_err-take_retrieved-clause-words : goal.returns-in_err-take_retrieved-clause-words
returns-in_err-take_retrieved-clause-words c =
    later_again c.args.words.now c.take_conflicts.new.words c.take_retrieved.new.words
    (later_again c.args.words.now c.take_saved.new.words c.take_conflicts.new.words c.take_saved.ensures.words c.take_conflicts.ensures.words)
    c.take_retrieved.ensures.words

pub returns-clause-ok : goal.returns-clause-ok
returns-clause-ok c =
    let rows = row_in c.args.rows.now in
    let sets = c.args.sets.now in
    let saved = c.args.saved.now in
    let q = so_far rows c.none-taken.result c.args.words.now in
    let q1 = so_far rows c.take_saved.new.taken c.take_saved.new.words in
    let q2 = so_far rows c.take_conflicts.new.taken c.take_conflicts.new.words in
    let q3 = so_far rows c.take_retrieved.new.taken c.take_retrieved.new.words in
    let s = map is_saved saved in
    let k = map is_conflict c.args.conflicts.now in
    let later = map is_retrieved c.args.retrieved.now in
    subst (λ (z : Progress). TakesAll sets saved z (s ++ (k ++ later)) q3) (c.none-taken.ensures rows c.args.words.now)
    (takes_both sets saved q q1 q3 s (k ++ later) c.in_ok-take_saved.ensures.ok
    (takes_both sets saved q1 q2 q3 k later c.in_ok-take_conflicts.ensures.ok c.in_ok-take_retrieved.ensures.ok))

pub returns-clause-words : goal.returns-clause-words
returns-clause-words c =
    later_again c.args.words.now c.take_conflicts.new.words c.take_retrieved.new.words
    (later_again c.args.words.now c.take_saved.new.words c.take_conflicts.new.words c.take_saved.ensures.words c.take_conflicts.ensures.words)
    c.take_retrieved.ensures.words
