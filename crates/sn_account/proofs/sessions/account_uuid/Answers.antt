use Rattle.std.proofs.Common.{◌∙◌}
use Rattle.sn_account.proofs.AccountUuids.{to_be_bytes-account}
use Rattle.sn_account.proofs.sessions.account_uuid.Goals as goal

pub returns : goal.returns
returns c = c.from_u64_pair.ensures ∙ to_be_bytes-account c.args.number c.requires
