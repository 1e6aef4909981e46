use Rattle.serde_json.specs.Events.{items_len}
use Rattle.sn_json.specs.Views.{items_view}
use Rattle.sn_sync.specs.Items.{AreItems, RefusesItems}
use Rattle.sn_sync.specs.Standings.{standing_of}
use Rattle.sn_sync.proofs.Lists.{GoesOn, Refuses}
use Rattle.sn_sync.proofs.item_reader.items.Given as goal

abbrev pub invariant-values : goal.invariant-values
invariant-values l = record {
  items : GoesOn (AreItems (standing_of l.standing)) (items_view l.left) (items_view l.values) l.items;
  refusals : Refuses (RefusesItems (standing_of l.standing) l.outer) (items_view l.left) (items_view l.values);
}

abbrev pub decreases-values : goal.decreases-values
decreases-values l = items_len (items_view l.left)
