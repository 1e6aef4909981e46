-- What is computed of a device that takes up an account is what it says.
use Rattle.std.proofs.Common.{◌≡◌, ℕ, List, [], ◌∷◌, ap, ◌∙◌}
use Rattle.sn_laws.specs.Lookups.{Bytes}
use Rattle.sn_laws.specs.declared.moves.Move.{Move}
use Rattle.sn_laws.specs.declared.moves.Move.TheVariants.{Join}
use Rattle.sn_rows.specs.Table.{Rows}
use Rattle.sn_saying.specs.Adopted.{HasNoAccountOf, IsAccount}
use Rattle.sn_saying.specs.Joined.{IsJoining}
use Rattle.sn_saying.proofs.AccountLemmas.{account_shown, lost_named, named_account}

-- where no account has the identifier, none is named by it
pub not_joined : (server : Rows) (name identifier : Bytes) (moves : List Move) → HasNoAccountOf server identifier → IsJoining server name identifier moves
not_joined server name identifier moves none s a reached shows named = absurd (lost_named server s identifier a shows named none)

pub joined_so : (server : Rows) (name identifier : Bytes) (number generation : ℕ) (moves : List Move) → IsAccount server identifier number generation
    → moves ≡ Join name identifier generation ∷ [] → IsJoining server name identifier moves
joined_so server name identifier number generation moves account is s a reached shows named =
    let its = named_account s identifier a number generation reached named (account_shown server s.accounts identifier number generation shows.all account) in
    is ∙ ap (λ (k : ℕ). Join name identifier k ∷ []) its.1
