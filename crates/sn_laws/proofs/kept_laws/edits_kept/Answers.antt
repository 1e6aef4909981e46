use Rattle.sn_laws.proofs.EditLemmas.{edits_stay}
use Rattle.sn_laws.proofs.kept_laws.edits_kept.Goals as goal

pub returns : goal.returns
returns c = edits_stay
