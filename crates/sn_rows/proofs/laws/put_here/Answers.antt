use Rattle.sn_rows.specs.Facts.{put_here}
use Rattle.sn_rows.proofs.laws.put_here.Goals as goal

pub returns : goal.returns
returns c = put_here
