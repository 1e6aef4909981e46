use Rattle.std.proofs.Common.{length}
use Rattle.sn_disk.proofs.history.+image_behind.Given as goal

abbrev pub decreases-image_behind : goal.decreases-image_behind
decreases-image_behind l = length l.undos.now
