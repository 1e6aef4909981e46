use Rattle.std.proofs.Common.{rules}
use Rattle.sn_items.proofs.ObjectLemmas.{object_read, none_read}
use Rattle.sn_items.proofs.objects.is_object.Goals as goal

pub returns-in-Ok : goal.returns-in-Ok
returns-in-Ok c = search (rules, object_read)

pub returns-in-Err-NotJson : goal.returns-in-Err-NotJson
returns-in-Err-NotJson c = search (rules, none_read)
