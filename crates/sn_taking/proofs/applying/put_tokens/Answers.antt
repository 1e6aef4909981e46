use Rattle.std.proofs.Common.{◌∙◌}
use Rattle.sn_device.specs.States.{owner_columns}
use Rattle.sn_device.specs.Steps.{with_tokens}
use Rattle.sn_local.proofs.Facts.{puts_owner}
use Rattle.sn_taking.proofs.applying.put_tokens.Goals as goal

pub returns : goal.returns
returns c =
    let parts = c.in-Some.ensures.parts in
    let identifier_is = parts.0 ∙ c.in_ok-identifier.ensures in
    let token_is = parts.2 ∙ c.in_ok-session.ensures in
    let sync_token_is = parts.3 ∙ c.in_ok-token.ensures in
    let cursor_token_is = parts.4 ∙ c.in_ok-cursor.ensures in
    puts_owner c.put_owner.result c.in-Some.row (with_tokens c.args.next c.args.token.now c.args.cursor.now (owner_columns c.args.owner.now)) c.put_owner.ensures
    (λ i. record {
      identifier = identifier_is i;
      account = parts.1 i;
      token = token_is i;
      sync_token = sync_token_is i;
      cursor_token = cursor_token_is i;
      next = parts.5 i;
    })
