use Rattle.std.proofs.Common.{IfErr, IfOk, subst, sym}
use Rattle.sn_row_map.specs.RowMaps.{row_in}
use Rattle.sn_row_map.specs.declared.row_map.RowMap.{RowMap}
use Rattle.sn_device.specs.Draws.{DrawsFresh, DrawsNoFresh}
use Rattle.sn_local.specs.Index.{Indexes}
use Rattle.sn_device.specs.States.{AreApart}
use Rattle.sn_local.proofs.fresh.fresh_uuid.Goals as goal

pub draw_fresh-requires : goal.draw_fresh-requires
draw_fresh-requires g c = record {
  kinds = c.rows.ensures.kinds;
  indexed = subst (λ (m : RowMap). Indexes c.args.index.now (row_in m)) (sym c.rows.ensures.rows) c.requires.indexed;
  apart = subst (λ (m : RowMap). AreApart (row_in m)) (sym c.rows.ensures.rows) c.requires.sound.locals.apart;
}

pub returns-clause-ok : goal.returns-clause-ok
returns-clause-ok g c =
    subst (λ (m : RowMap). IfOk c.draw_fresh.result (λ uuid. DrawsFresh (row_in m) c.args.words.now uuid c.draw_fresh.new.words)) c.rows.ensures.rows c.draw_fresh.ensures.ok

pub returns-clause-err : goal.returns-clause-err
returns-clause-err g c =
    subst (λ (m : RowMap). IfErr c.draw_fresh.result (DrawsNoFresh (row_in m) c.args.words.now)) c.rows.ensures.rows c.draw_fresh.ensures.err
