use Rattle.std.proofs.Common.{◌≡◌, take}
use Rattle.sn_rows.specs.declared.server_rows.StoreRow.{StoreRow}
use Rattle.sn_account.specs.Incoming.{TakesAll}
use Rattle.sn_account.specs.States.{state_rows}
use Rattle.sn_account.specs.Syncs.{start}
use Rattle.sn_account.specs.Taking.{progress}
use Rattle.sn_account.proofs.incoming.take_all.Given as goal

abbrev pub invariant-items : goal.invariant-items
invariant-items l = (store : StoreRow) → store.last ≡ l.last
    → TakesAll l.present l.now l.number (start (state_rows l.state) store) (take l.item-index l.items) (progress (state_rows l.state) l.taken)
