use Rattle.std.proofs.Common.{◌≡◌, ◌∙◌, ap, rules}
use Rattle.sn_conflict.proofs.CheckLemmas.{conflict_of_uuid}
use Rattle.sn_sync.specs.declared.item.Item.{Item}
use Rattle.sn_conflict.proofs.checking.is_conflict_of.Goals as goal

pub returns-in-Uuid : goal.returns-in-Uuid
returns-in-Uuid c =
    let named : c.args.posted.now.uuid ≡ c.item_of.result.now.uuid = search rules in
    conflict_of_uuid c.args.posted.now c.args.conflict.now c.in-Uuid.unsaved c.is_new.result c.in-Uuid.is
    (named ∙ ap (λ (i : Item). i.uuid) c.item_of.ensures) c.is_new.ensures
