-- What holds of all legal lists of moves.
use Rattle.std.proofs.Common.{List}
use Rattle.sn_laws.specs.Runs.{Legal, end}
use Rattle.sn_laws.specs.declared.moves.Move.{Move}
use Rattle.sn_laws.proofs.Facts.{devices_all_hold, nonces_differ}
use Rattle.sn_shows.proofs.Facts.{accounts_apart}
use Rattle.sn_shown.specs.Shown.{IsRegular}

pub regular : (moves : List Move) → Legal moves → IsRegular (end moves)
regular moves legal =
    record {
      identifiers = accounts_apart moves legal;
      nonces = nonces_differ moves legal;
      held = λ name d named. devices_all_hold moves name d legal named;
    }
