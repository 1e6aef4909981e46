-- What holds of the sets of an account, however many it has: no two have one nonce, so strings open under one of them at most.
use Rattle.std.proofs.Common.{◌≡◌, ℕ, Some, sym, subst}
use Rattle.sn_laws.proofs.Facts.{nonces_differ}
use Rattle.sn_laws.specs.Each.{Each}
use Rattle.sn_laws.specs.Reached.{NoncesApart}
use Rattle.sn_laws.specs.declared.ideal.Account.{Account}
use Rattle.sn_laws.specs.declared.ideal.Ideal.{Ideal}
use Rattle.sn_shows.proofs.Facts.{one_set as one_set_of}
use Rattle.sn_shows.specs.Servers.{account_at}
use Rattle.sn_world.proofs.ShowsLemmas.{each_at}
use Rattle.sn_world.specs.Holds.{Reached}
use Rattle.sn_world.specs.Settling.{OneSet}

pub nonces_apart : (s : Ideal) → Reached s → (n : ℕ) (a : Account) → account_at n s.accounts ≡ Some a → NoncesApart a
nonces_apart s r n a at =
    each_at NoncesApart s.accounts n a (subst (λ (t : Ideal). Each NoncesApart t.accounts) (sym r.is) (nonces_differ r.moves r.legal)) at

pub one_set : (s : Ideal) → Reached s → (n : ℕ) (a : Account) → account_at n s.accounts ≡ Some a → OneSet a.sets
one_set s r n a at sealed uuid k m text other opens opens_too =
    one_set_of a k m uuid sealed text other (nonces_apart s r n a at) opens opens_too
