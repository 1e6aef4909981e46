use Rattle.std.proofs.Common.{◌∙◌}
use Rattle.sn_rows.proofs.EqualColumns.{item_same}
use Rattle.sn_rows.proofs.server_rows.ItemRowTryClone.try_clone.Goals as goal

pub returns : goal.returns
returns c =
    item_same _ _ (c.in_ok-row.ensures.account ∙ c.account.ensures) (c.in_ok-row.ensures.kind ∙ c.texts.ensures.kind)
    (c.in_ok-row.ensures.created ∙ c.created.ensures) (c.in_ok-row.ensures.updated ∙ c.updated.ensures)
    (c.in_ok-row.ensures.deleted ∙ c.is_deleted.ensures) (c.in_ok-row.ensures.content ∙ c.texts.ensures.content)
    (c.in_ok-row.ensures.enc ∙ c.texts.ensures.enc)
