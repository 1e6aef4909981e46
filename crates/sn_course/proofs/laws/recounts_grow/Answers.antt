use Rattle.sn_course.proofs.StageLemmas.{recounts_grow}
use Rattle.sn_course.proofs.laws.recounts_grow.Goals as goal

pub returns : goal.returns
returns c = recounts_grow c.reads_then.ensures.rows
