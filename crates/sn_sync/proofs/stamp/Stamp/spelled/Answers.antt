use Rattle.sn_sync.proofs.StampAscii.{IsUtf8-stamp}
use Rattle.sn_sync.proofs.stamp.Stamp.spelled.Goals as goal

pub unreachable-requires : goal.unreachable-requires
unreachable-requires c = c.in_default.ensures.cases.0 (IsUtf8-stamp _ c.requires.0 c.requires.1)
