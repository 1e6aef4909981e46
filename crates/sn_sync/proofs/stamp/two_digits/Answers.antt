use Rattle.sn_sync.proofs.Spelled.{padded_2}
use Rattle.sn_sync.proofs.stamp.two_digits.Goals as goal

pub returns : goal.returns
returns c = padded_2 c.args.number c.requires
