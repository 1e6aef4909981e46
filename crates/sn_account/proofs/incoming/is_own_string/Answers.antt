use Rattle.sn_account.proofs.IncomingLemmas.{own_string}
use Rattle.sn_account.proofs.incoming.is_own_string.Goals as goal

pub returns : goal.returns
returns c = own_string c.args.text.now c.args.uuid c.args.present.now c.names_uuid_under.result c.requires c.names_uuid_under.ensures
