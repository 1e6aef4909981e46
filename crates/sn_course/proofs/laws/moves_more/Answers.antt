use Rattle.sn_course.proofs.StageLemmas.{moves_more}
use Rattle.sn_course.proofs.laws.moves_more.Goals as goal

pub returns : goal.returns
returns c = moves_more
