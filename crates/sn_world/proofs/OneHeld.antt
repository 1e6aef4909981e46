-- Whose device it is, and that its session token is alive where it holds its account's last set.
use Rattle.std.proofs.Common.{◌≡◌, ℕ, length, Option, Some, None, refl, sym, ap, ◌∙◌}
use Rattle.sn_account.specs.Lookups.{HasStore}
use Rattle.sn_account.specs.Sessions.{IsSession, session_token}
use Rattle.sn_account.specs.Syncs.{IsStampOf}
use Rattle.sn_device.specs.States.{HasOwner}
use Rattle.sn_laws.specs.Lookups.{Bytes, greatest}
use Rattle.sn_laws.specs.declared.ideal.Account.{Account}
use Rattle.sn_laws.specs.declared.ideal.Device.{Device}
use Rattle.sn_laws.specs.declared.ideal.Ideal.{Ideal}
use Rattle.sn_rows.specs.Table.{Rows}
use Rattle.sn_rows.specs.declared.device_rows.OwnerRow.{OwnerRow}
use Rattle.sn_rows.specs.declared.key.Key.TheVariants as key
use Rattle.sn_rows.specs.declared.server_rows.StoreRow.{StoreRow}
use Rattle.sn_rows.specs.declared.value.Value.{Value}
use Rattle.sn_rows.specs.declared.value.Value.TheVariants as value
use Rattle.sn_shows.specs.Laws.{AccountsApart, HasAccount}
use Rattle.sn_shows.specs.Servers.{ShowsIdentity, ShowsStore, account_at}
use Rattle.sn_world.proofs.DeviceRows.{one_owner}
use Rattle.sn_world.proofs.ShowsLemmas.{holder_from}
use Rattle.sn_world.proofs.Started.{nobody}
use Rattle.sn_world.proofs.Tokens.{device_account}
use Rattle.sn_world.specs.Holds.{DeviceToken, Holds, IsTokenBelow}
use Rattle.sn_world.specs.World.{World}

module _ (secret : Bytes) (w : World) (s : Ideal) (h : Holds secret w s) (name : Bytes) (owner : OwnerRow) where
  abbrev rows : Rows
  rows = w.devices name

  -- whose device it is
  pub holder_at : HasOwner rows owner → (d : Device) × (a : Account) × HasAccount s name d a
  holder_at owned = holder_from rows s name key.Owner (value.Owner owner) (h.devices name) owned

  -- ---- its session

  -- the server has a store where it has an account
  pub store_at : (n : ℕ) (a : Account) → account_at n s.accounts ≡ Some a → (store : StoreRow) × HasStore w.server store
  store_at n a at = by (w.server key.Store) refl h.server.store
    where
      by : (found : Option Value) → w.server key.Store ≡ found → ShowsStore found s.accounts → (store : StoreRow) × HasStore w.server store
      by None e none = absurd (nobody n s.accounts a none at)
      by (Some v) e (row, is, last, count) = (row, e ∙ ap Some is)

  -- it is alive where the device holds its account's last set
  pub alive_session : AccountsApart → HasOwner rows owner → ((d : Device) (a : Account) → HasAccount s name d a → greatest 0 d.held ≡ length a.sets)
      → (n : ℕ) × IsSession w.server owner.token n
  alive_session apart owned last =
      let own = holder_at owned in
      let d : Device = own.0 in
      let its : DeviceToken secret rows s.accounts d = h.own_tokens name d own.2.device in
      let has : HasAccount s name d its.account = device_account apart secret w s h name its.number its.account d its.at own.2.device its.own in
      let generation : greatest 0 d.held ≡ length its.account.sets = last d its.account has in
      let identity : ShowsIdentity w.server its.number its.account = (h.server.all.each its.number its.account its.at).identity in
      let store = store_at its.number its.account its.at in
      let same : its.owner ≡ owner = one_owner its.owner owner (rows key.Owner) its.has owned in
      let spelled : owner.token ≡ session_token secret its.number (greatest 0 d.held) = ap (λ (o : OwnerRow). o.token) (sym same) ∙ its.is in (
        its.number,
        record {
          store = store.0;
          stands = store.1;
          account = identity.row;
          there = identity.stands;
          is = spelled ∙ ap (λ (g : ℕ). session_token secret its.number g) (generation ∙ sym identity.generation)
              ∙ ap (λ (z : Bytes). session_token z its.number identity.row.generation) (sym (h.keeps_secret store.0 store.1));
        },
      )

-- ---- its tokens of a sync

pub stamp_below : (given : Option Bytes) (last : ℕ) → IsTokenBelow given last → (stamp : Option ℕ) × IsStampOf given stamp
stamp_below None last below = (None, refl)
stamp_below (Some text) last (stamp, token, within) = (Some stamp, token)
