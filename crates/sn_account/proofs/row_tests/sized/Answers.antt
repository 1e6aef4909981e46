use Rattle.std.proofs.Common.{subst}
use Rattle.sn_sync.specs.Laws.{AreBytes}
use Rattle.sn_account.proofs.row_tests.sized.Goals as goal

pub returns : goal.returns
returns c = subst (AreBytes 16) c.as_bytes.ensures c.of_bytes.ensures
