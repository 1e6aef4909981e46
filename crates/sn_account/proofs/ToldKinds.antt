-- No kind is told just of sound rows.
use Rattle.std.proofs.Common.{◌≡◌, ◌↔◌, Option, Some, None, refl, subst}
use Rattle.sn_rows.specs.Table.{Rows}
use Rattle.sn_rows.specs.declared.kind.RowKind.{RowKind}
use Rattle.sn_rows.specs.declared.kind.RowKind.TheVariants as kind
use Rattle.sn_rows.specs.declared.server_rows.StoreRow.{StoreRow}
use Rattle.sn_account.specs.Sound.{IsSound}
use Rattle.sn_account.specs.Unsound.{AreSoundAccounts, AreSoundGenerations, AreSoundItems, IsFirstUnsound, IsSoundKind}
use Rattle.sn_account.proofs.NamedLemmas.{one_store}
use Rattle.sn_account.proofs.SoundKinds.{has_accounts}

accounts_of : (rows : Rows) (s : IsSound rows) → AreSoundAccounts rows s.store.accounts
accounts_of rows s = record {
  accounts = λ n from upto. (
      let at = s.accounts n from upto in
      let within = s.generation n at.0 at.1 in
      (at.0, at.1, within.0, within.1)
      );
  numbered = s.numbered;
  apart = s.apart;
}

generations_of : (rows : Rows) → IsSound rows → AreSoundGenerations rows
generations_of rows s = record { params = s.params; no_more = s.no_more; fresh = s.fresh }

items_of : (rows : Rows) (s : IsSound rows) → AreSoundItems rows s.store.last
items_of rows s = record {
  items = λ u i has. record { named = s.named u i has; owned = s.owned u i has; item = s.items u i has };
  stamps = s.stamps;
}

has_items : (rows : Rows) → IsSound rows → IsSoundKind rows kind.Item
has_items rows s store has = subst (λ (x : StoreRow). AreSoundItems rows x.last) (one_store rows s.store store s.stands has) (items_of rows s)

is_told : (k : RowKind) → Some k ≡ None → ⊥
is_told k is = cc

pub tells_soundness : (rows : Rows) (found : Option RowKind) → IsFirstUnsound rows found → (found ≡ None) ↔ IsSound rows
tells_soundness rows None first = (λ _. first, λ _. refl)
tells_soundness rows (Some kind.Store) first = (λ none. absurd (is_told kind.Store none), λ s. absurd (first (s.store, s.stands, s.bound)))
tells_soundness rows (Some kind.Account) first =
    (λ none. absurd (is_told kind.Account none), λ s. absurd (first.1 (has_accounts rows s.store s.stands (accounts_of rows s))))
tells_soundness rows (Some kind.Generation) first = (λ none. absurd (is_told kind.Generation none), λ s. absurd (first.2 (generations_of rows s)))
tells_soundness rows (Some kind.Item) first = (λ none. absurd (is_told kind.Item none), λ s. absurd (first.3 (has_items rows s)))
tells_soundness rows (Some kind.Owner) first = absurd first
tells_soundness rows (Some kind.Set) first = absurd first
tells_soundness rows (Some kind.Local) first = absurd first
