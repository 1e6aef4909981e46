use Rattle.sn_rows.proofs.EqualColumns.{read_back}
use Rattle.sn_rows.proofs.laws.read_back.Goals as goal

pub returns : goal.returns
returns c = λ changes bytes x answer is. read_back changes bytes x answer is
