use Rattle.std.proofs.Common.{refl}
use Rattle.sn_string.proofs.forms.is_hash.Goals as goal

pub returns : goal.returns
returns c = c.are_digits.ensures 32 refl
