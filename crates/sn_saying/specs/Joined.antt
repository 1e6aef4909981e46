-- What a device says that takes up an account.
use Rattle.std.specs.Prelude.{◌≡◌, List, [], ◌∷◌, length, Some}
use Rattle.sn_laws.specs.Lookups.{Bytes, account_named}
use Rattle.sn_laws.specs.declared.ideal.Account.{Account}
use Rattle.sn_laws.specs.declared.ideal.Ideal.{Ideal}
use Rattle.sn_laws.specs.declared.moves.Move.{Move}
use Rattle.sn_laws.specs.declared.moves.Move.TheVariants.{Join}
use Rattle.sn_rows.specs.Table.{Rows}
use Rattle.sn_shows.specs.Servers.{ShowsServer}
use Rattle.sn_world.specs.Holds.{Reached}

-- it joins the last set of the account of this identifier, in every state that legal moves lead to and that the server's rows show
abbrev pub IsJoining : Rows → Bytes → Bytes → List Move → Type 0
IsJoining server name identifier moves = (s : Ideal) (a : Account) → Reached s → ShowsServer server s.accounts → account_named s identifier ≡ Some a
    → moves ≡ Join name identifier (length a.sets) ∷ []
