use Rattle.std.proofs.Common.{rules}
use Rattle.sn_notes.specs.Copies.{marked}
use Rattle.sn_notes.proofs.copies.marked.Goals as goal

pub returns : goal.returns
unfolding marked
returns c = search rules
