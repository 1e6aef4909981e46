use Rattle.sn_account.specs.Places.{PlacesRows}
use Rattle.sn_account.proofs.places.Places.sweep.Given as goal

abbrev pub invariant-touched : goal.invariant-touched
invariant-touched l = PlacesRows l.fn.self l.rows → PlacesRows l.self l.rows
