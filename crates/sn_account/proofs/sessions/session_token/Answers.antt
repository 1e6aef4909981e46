use Rattle.std.proofs.Common.{◌∙◌, ap}
use Rattle.std.specs.String.{string_bytes}
use Rattle.hex.specs.Hex.{encode_lower}
use Rattle.sn_hmac.specs.Hmac.{hmac_sha256}
use Rattle.sn_string.specs.Uuids.{uuid_text}
use Rattle.sn_account.proofs.SessionTokens.{token_written}
use Rattle.sn_account.proofs.sessions.session_token.Goals as goal

pub returns : goal.returns
returns c =
    token_written c.args.secret.now c.of_string.result (string_bytes c.in_ok-uuid.uuid) (string_bytes c.in_ok-signed.signed) (string_bytes c.in_ok-mac.mac) c.args.number c.args.generation
    (c.in_ok-uuid.ensures.spelled ∙ ap uuid_text c.account_uuid.ensures)
    c.in_ok-signed.ensures.ok
    (c.in_ok-mac.ensures.spelled ∙ ap encode_lower (c.hmac_sha256.ensures ∙ ap (hmac_sha256 c.args.secret.now) c.as_bytes.ensures.value))
    (c.of_string.ensures ∙ c.in_ok-format.ensures.ok)
