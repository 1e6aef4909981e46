use Rattle.sn_rows.specs.Facts.{put_elsewhere}
use Rattle.sn_rows.proofs.laws.put_elsewhere.Goals as goal

pub returns : goal.returns
returns c = put_elsewhere
