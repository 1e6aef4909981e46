use Rattle.std.proofs.Common.{◌≡◌}
use Rattle.sn_rekey.proofs.RowLemmas.{found_none, none_of_row}
use Rattle.sn_sets.specs.Sets.{OpensNot, sealed_of}
use Rattle.sn_rekey.proofs.rewrapping.rewrap_held.Goals as goal

pub rewrap_under-requires : goal.rewrap_under-requires
rewrap_under-requires c = (c.args.strings.now, c.in_ok-sealed.ensures)

pub rewrap_under_older-requires-clause-of_row : goal.rewrap_under_older-requires-clause-of_row
rewrap_under_older-requires-clause-of_row c = (c.args.strings.now, c.in_ok-sealed.ensures)

pub returns-clause-none : goal.returns-clause-none
returns-clause-none c =
    let closed = found_none (OpensNot c.args.sets.now.present c.args.uuid c.in_ok-sealed.sealed × (c.rewrap_under.new.words ≡ c.args.words.now))
    c.in_ok-again.field-0 c.in-None.is c.in_ok-again.ensures.none in
    none_of_row c.rewrap_under_older.result c.args.sets.now c.args.words.now c.rewrap_under.new.words c.args.uuid c.in_ok-sealed.sealed (sealed_of c.args.strings.now)
    c.rewrap_under_older.new.words closed.1 c.in_ok-sealed.ensures c.rewrap_under_older.ensures.none
