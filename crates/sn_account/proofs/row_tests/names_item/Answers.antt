use Rattle.sn_account.proofs.IncomingLemmas.{item_string}
use Rattle.sn_account.proofs.row_tests.names_item.Goals as goal

pub returns : goal.returns
returns c = item_string c.args.text.now c.args.uuid.now c.names_uuid.result c.requires c.names_uuid.ensures
