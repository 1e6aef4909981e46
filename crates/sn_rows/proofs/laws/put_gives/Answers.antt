use Rattle.sn_rows.specs.Facts.{put_gives}
use Rattle.sn_rows.proofs.laws.put_gives.Goals as goal

pub returns : goal.returns
returns c = put_gives
