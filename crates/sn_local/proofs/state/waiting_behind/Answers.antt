use Rattle.std.proofs.Common.{subst}
use Rattle.sn_row_map.specs.RowMaps.{row_in}
use Rattle.sn_local.proofs.StateLemmas.{AreAhead, ahead_first, ahead_more}
use Rattle.sn_local.proofs.state.waiting_behind.Goals as goal

pub numbers-init : goal.numbers-init
numbers-init c =
    ahead_first c.args.index.now (row_in c.args.rows.now) c.args.behind c.next_listed-next.result c.requires.indexed c.next_listed-next.ensures.some
    c.next_listed-next.ensures.none

pub numbers-preserved : goal.numbers-preserved
numbers-preserved c =
    ahead_more c.args.index.now (row_in c.args.rows.now) c.args.behind c.next_listed-next-in-Some.result c.in-Some.number c.requires.indexed
    (subst (AreAhead (row_in c.args.rows.now) c.args.behind) c.in-Some.is c.numbers.invariant) c.in_default-waiting_item.ensures.none
    c.next_listed-next-in-Some.ensures.some c.next_listed-next-in-Some.ensures.none
