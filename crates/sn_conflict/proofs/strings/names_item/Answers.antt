use Rattle.sn_conflict.proofs.StringLemmas.{named_item}
use Rattle.sn_conflict.proofs.strings.names_item.Goals as goal

pub returns : goal.returns
returns c = named_item c.args.uuid c.args.text.now c.names_uuid.result c.names_uuid.ensures
