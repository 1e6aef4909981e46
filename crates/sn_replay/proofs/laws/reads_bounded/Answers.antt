use Rattle.sn_replay.proofs.ReadLemmas.{read_bounded}
use Rattle.sn_replay.proofs.laws.reads_bounded.Goals as goal

pub returns : goal.returns
returns c text lines is = read_bounded text lines is
