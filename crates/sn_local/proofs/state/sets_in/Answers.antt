use Rattle.std.proofs.Common.{subst}
use Rattle.sn_row_map.specs.RowMaps.{row_in}
use Rattle.sn_rows.specs.declared.key.Slot.TheVariants.{Present}
use Rattle.sn_device.specs.States.{IsInSlot}
use Rattle.sn_local.proofs.state.sets_in.Goals as goal

pub returns-clause-some : goal.returns-clause-some
returns-clause-some c = (
  c.in-Some.owner.now,
  record {
    owned = c.in-Some.ensures.some;
    in_use = subst (IsInSlot (row_in c.args.rows.now) c.in-Some.owner.now.identifier Present) c.in-Some-2.is c.in_ok-present.ensures;
    before = c.in_ok-older.ensures;
    wanted = c.in_ok-asked.ensures;
  },
)
