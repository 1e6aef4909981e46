use Rattle.std.proofs.Common.{sym, ◌∙◌}
use Rattle.sn_row_map.specs.RowMaps.{HasRoom}
use Rattle.sn_row_map.proofs.row_map.RowMap.has_room.Goals as goal

pub returns : goal.returns
unfolding HasRoom
returns c = (λ t. sym c.contains_key.ensures ∙ t, λ h. c.contains_key.ensures ∙ h)
