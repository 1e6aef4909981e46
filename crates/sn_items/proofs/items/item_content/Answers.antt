use Rattle.std.proofs.Common.{string_bytes, subst}
use Rattle.sn_items.specs.Items.{authentication_half}
use Rattle.sn_items.specs.Opens.{Opens}
use Rattle.sn_items.proofs.items.item_content.Goals as goal

pub returns-then-branch-clause-ok : goal.returns-then-branch-clause-ok
returns-then-branch-clause-ok c text reads =
    let plain = string_bytes c.in_ok-text.text in
    subst (λ key. Opens text c.args.uuid key (authentication_half c.args.key.now) plain) c.halves.ensures.first
    (subst (λ key. Opens text c.args.uuid c.halves.result.0 key plain) c.halves.ensures.second (c.in_ok-text.ensures.ok text reads))
