use Rattle.std.proofs.Common.{OnOk, subst}
use Rattle.std.proofs.lemmas.Result.{on_ok_weaker}
use Rattle.sn_rows.specs.declared.device_rows.LocalItem.{LocalItem}
use Rattle.sn_adopting.specs.Adopting.{RekeysOne}
use Rattle.sn_local.specs.Found.{IsItemRow}
use Rattle.sn_adopting.proofs.RekeyLemmas.{rekeys_row}
use Rattle.sn_adopting.proofs.rekeying.rekey_row.Goals as goal

pub returns-in-Local-Local-clause-added : goal.returns-in-Local-Local-clause-added
returns-in-Local-Local-clause-added c =
    let is : IsItemRow c.args.key.now c.args.value.now c.in-Local-Local.number c.in-Local-Local.item = (c.in-Local-Local.is-0, c.in-Local-Local.is-1) in
    on_ok_weaker c.rekey_local.result
    (λ one. rekeys_row c.args.sets.now c.args.set.now c.args.words.now c.in-Local-Local.number c.in-Local-Local.item c.args.key.now c.args.value.now
    c.args.changes.now c.rekey_local.new.changes c.rekey_local.new.words is one)
    (subst (λ (local : LocalItem). OnOk c.rekey_local.result (RekeysOne c.args.sets.now c.args.set.now c.args.words.now c.in-Local-Local.number local
    c.args.changes.now c.rekey_local.new.changes c.rekey_local.new.words)) c.get.ensures c.rekey_local.ensures.added)
