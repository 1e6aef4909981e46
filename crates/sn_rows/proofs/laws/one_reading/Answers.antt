use Rattle.sn_rows.proofs.EqualColumns.{one_reading}
use Rattle.sn_rows.proofs.laws.one_reading.Goals as goal

pub returns : goal.returns
returns c = λ bytes a b x y. one_reading bytes a b x y
