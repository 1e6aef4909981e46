use Rattle.std.proofs.Common.{sym, ◌∙◌}
use Rattle.sn_rows.proofs.laws.one_spelling.Goals as goal

pub returns : goal.returns
returns c = λ changes bytes written x y. x.0 ∙ sym y.0
