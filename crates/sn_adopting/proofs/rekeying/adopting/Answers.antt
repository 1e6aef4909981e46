use Rattle.std.proofs.Common.{◌∙◌}
use Rattle.sn_row_map.specs.RowMaps.{row_in}
use Rattle.sn_adopting.proofs.RekeyLemmas.{adds_up, adopted_owned, adopts_all}
use Rattle.sn_adopting.proofs.rekeying.adopting.Goals as goal

pub returns-clause-adopts : goal.returns-clause-adopts
returns-clause-adopts c =
    let dropped = c.in_ok-drop_asked.ensures.0 in
    adopts_all (row_in c.args.rows.now) c.args.owner.now c.in_ok-renewed.renewed c.args.sets.now c.args.set.now c.args.token c.in_ok-changes.changes dropped
    c.into_vec.result.items c.in_ok-counted.counted c.in_ok-present.present c.in_ok-older.older c.args.words.now c.rekeyed.new.words c.requires.holds c.requires.named
    c.in_ok-changes.ensures.rekeys c.in_ok-renewed.ensures c.in_ok-counted.ensures c.in_ok-present.ensures c.in_ok-older.ensures c.in_ok-drop_asked.ensures.1
    (c.into_vec.ensures ∙ adds_up c.in_ok-changes.changes c.push.new.self c.push-2.new.self c.push-3.new.self dropped c.drop_asked.new.changes
    c.in_ok-counted.counted c.in_ok-present.present c.in_ok-older.older c.in_ok-push.ensures.ok c.in_ok-push-2.ensures.ok c.in_ok-push-3.ensures.ok
    c.in_ok-drop_asked.ensures.2)

pub returns-clause-owned : goal.returns-clause-owned
returns-clause-owned c =
    let dropped = c.in_ok-drop_asked.ensures.0 in
    adopted_owned (row_in c.args.rows.now) c.args.owner.now c.in_ok-renewed.renewed c.args.sets.now c.args.set.now c.args.token c.in_ok-changes.changes dropped
    c.into_vec.result.items c.in_ok-counted.counted c.in_ok-present.present c.in_ok-older.older c.in_ok-changes.ensures.owned c.in_ok-counted.ensures
    c.in_ok-present.ensures c.in_ok-older.ensures c.in_ok-drop_asked.ensures.1
    (c.into_vec.ensures ∙ adds_up c.in_ok-changes.changes c.push.new.self c.push-2.new.self c.push-3.new.self dropped c.drop_asked.new.changes
    c.in_ok-counted.counted c.in_ok-present.present c.in_ok-older.older c.in_ok-push.ensures.ok c.in_ok-push-2.ensures.ok c.in_ok-push-3.ensures.ok
    c.in_ok-drop_asked.ensures.2)
