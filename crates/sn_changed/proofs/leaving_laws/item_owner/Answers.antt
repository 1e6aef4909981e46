use Rattle.sn_changed.proofs.Found.{owner_of}
use Rattle.sn_changed.proofs.leaving_laws.item_owner.Goals as goal

pub returns : goal.returns
returns c = owner_of
