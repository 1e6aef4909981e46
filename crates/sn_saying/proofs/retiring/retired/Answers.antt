use Rattle.std.proofs.Common.{sym, ◌∙◌}
use Rattle.sn_row_map.specs.RowMaps.{row_in}
use Rattle.sn_saying.proofs.RetireLemmas.{not_retired, retired_so}
use Rattle.sn_saying.proofs.retiring.retired.Goals as goal

pub returns-then-not-gives_up : goal.returns-then-not-gives_up
returns-then-not-gives_up c =
    not_retired (row_in c.args.server.now) (row_in c.args.rows.now) c.args.name.now c.args.changes.now _ (sym c.gives_up.ensures ∙ c.if-not-gives_up.true)
    c.new.ensures

pub returns : goal.returns
returns c =
    retired_so (row_in c.args.server.now) (row_in c.args.rows.now) c.args.name.now c.args.changes.now c.older_held.result c.in_ok-moves.moves
    (sym c.gives_up.ensures ∙ c.if-not-gives_up.false) c.older_held.ensures c.in_ok-moves.ensures
