use Rattle.std.proofs.Common.{◌≡◌, take}
use Rattle.std.specs.Option.{option_copied}
use Rattle.sn_rows.specs.Table.{row_after}
use Rattle.sn_rows.specs.declared.key.Key.TheVariants as key
use Rattle.sn_account.specs.States.{state_rows}
use Rattle.sn_account.specs.Taking.{item_in}
use Rattle.sn_account.proofs.taking.stored.Given as goal

abbrev pub invariant-changes : goal.invariant-changes
invariant-changes l =
    option_copied l.found ≡ item_in (row_after (state_rows l.state (key.Item l.uuid)) (key.Item l.uuid) (take l.change-index l.change-items))
