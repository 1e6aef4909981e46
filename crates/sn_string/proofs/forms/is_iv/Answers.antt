use Rattle.std.proofs.Common.{refl}
use Rattle.sn_string.proofs.forms.is_iv.Goals as goal

pub returns : goal.returns
returns c = c.are_digits.ensures 16 refl
