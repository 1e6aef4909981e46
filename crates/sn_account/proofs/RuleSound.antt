-- Sound rows are sound after any request.
use Rattle.std.proofs.Common.{◌≡◌, ◌⊎◌, ℕ, List, [], Option, All, subst, inl, inr}
use Rattle.sn_rows.specs.Table.{Rows, rows_after}
use Rattle.sn_rows.specs.declared.change.Change.{Change}
use Rattle.sn_rows.specs.declared.server_rows.StoreRow.{StoreRow}
use Rattle.sn_string.specs.declared.params.Params.{Params}
use Rattle.sn_sync.specs.Laws.{FitsSent}
use Rattle.sn_sync.specs.declared.answer.Answer.{Answer}
use Rattle.sn_sync.specs.declared.item.Item.{Item}
use Rattle.sn_sync.specs.declared.request.Request.TheVariants as request
use Rattle.sn_account.specs.Lookups.{Bytes, HasStore}
use Rattle.sn_account.specs.RuleLaws.{StaysSound}
use Rattle.sn_account.specs.Sessions.{IsSession}
use Rattle.sn_account.specs.Sound.{IsSound}
use Rattle.sn_account.specs.Syncs.{Serves, ServesBounded, ServesFrom, Synced, Syncs}
use Rattle.sn_account.proofs.SoundChanging.{changes_soundly}
use Rattle.sn_account.proofs.SoundRegistering.{one_store, registers_soundly, sound_unchanged}
use Rattle.sn_account.proofs.SoundSync.{synced_sound}

-- a sync that isn't refused, of the account of this number
pub record Served (rows : Rows) (store : StoreRow) (token : Bytes) (items : List Item) (limit now : ℕ) (changes : List Change) (given : Answer) : Type 0 where
  pub n : ℕ
  pub session : IsSession rows token n
  pub present : Params
  pub sync : Option ℕ
  pub cursor : Option ℕ
  pub synced : Synced rows store n present items limit sync cursor now changes given

module _ (rows : Rows) (store : StoreRow) (token : Bytes) (items : List Item) (limit now : ℕ) (changes : List Change) (given : Answer) where
  serves_or_not : (n : ℕ) (sync cursor : Option ℕ) → IsSession rows token n → Serves rows store n items limit sync cursor now changes given
      → (changes ≡ []) ⊎ Served rows store token items limit now changes given
  serves_or_not n sync cursor session (present, is, inl (out, refused)) = inl refused.0
  serves_or_not n sync cursor session (present, is, inr synced) =
      inr (record { n = n; session = session; present = present; sync = sync; cursor = cursor; synced = synced })

  bounded_or_not : (n : ℕ) (sync cursor : Option ℕ) → IsSession rows token n → ServesBounded rows store n items limit sync cursor now changes given
      → (changes ≡ []) ⊎ Served rows store token items limit now changes given
  bounded_or_not n sync cursor session (inl (wide, refused)) = inl refused.0
  bounded_or_not n sync cursor session (inr (inl (few, uuid, size, long, refused))) = inl refused.0
  bounded_or_not n sync cursor session (inr (inr (few, short, serves))) = serves_or_not n sync cursor session serves

  from_or_not : (n : ℕ) (sync_token cursor_token : Option Bytes) → IsSession rows token n → ServesFrom rows store n items limit sync_token cursor_token now changes given
      → (changes ≡ []) ⊎ Served rows store token items limit now changes given
  from_or_not n sync_token cursor_token session (inl (bad, refused)) = inl refused.0
  from_or_not n sync_token cursor_token session (inr (inl (sync, is, bad, refused))) = inl refused.0
  from_or_not n sync_token cursor_token session (inr (inr (sync, cursor, is, is_too, serves))) = bounded_or_not n sync cursor session serves

  -- a sync changes nothing, or is served
  pub served_or_not : (sync_token cursor_token : Option Bytes) → Syncs rows store token items limit sync_token cursor_token now changes given
      → (changes ≡ []) ⊎ Served rows store token items limit now changes given
  served_or_not sync_token cursor_token (inl (bad, refused)) = inl refused.0
  served_or_not sync_token cursor_token (inr (n, session, serves)) = from_or_not n sync_token cursor_token session serves

-- of the rows' own store
pub own_synced : (rows : Rows) (s : IsSound rows) (store : StoreRow) → HasStore rows store → (token : Bytes) (items : List Item) (limit now : ℕ) (changes : List Change) (given : Answer)
    → (v : Served rows store token items limit now changes given) → Synced rows s.store v.n v.present items limit v.sync v.cursor now changes given
own_synced rows s store has token items limit now changes given v =
    subst (λ (x : StoreRow). Synced rows x v.n v.present items limit v.sync v.cursor now changes given) (one_store rows store s.store has s.stands) v.synced

syncs_soundly : (rows : Rows) (s : IsSound rows) (store : StoreRow) → HasStore rows store → (token : Bytes) (items : List Item) (limit now : ℕ) (changes : List Change) (given : Answer)
    → All FitsSent items → (changes ≡ []) ⊎ Served rows store token items limit now changes given → IsSound (rows_after rows changes)
syncs_soundly rows s store has token items limit now changes given sized (inl none) = sound_unchanged rows changes s none
syncs_soundly rows s store has token items limit now changes given sized (inr v) =
    synced_sound rows s v.n (v.session.account, v.session.there) v.present items limit v.sync v.cursor now changes given sized
    (own_synced rows s store has token items limit now changes given v)

pub stays_sound : StaysSound
stays_sound rows (request.Register params pw) now changes given s fits (store, has, ruled) = registers_soundly rows store params pw changes given s has ruled
stays_sound rows (request.Params identifier) now changes given s fits (store, has, ruled) = sound_unchanged rows changes s ruled.0
stays_sound rows (request.SignIn identifier pw) now changes given s fits (store, has, ruled) = sound_unchanged rows changes s ruled.0
stays_sound rows (request.ChangePw token current pw cost nonce) now changes given s fits (store, has, ruled) =
    changes_soundly rows store token current pw cost nonce changes given s has ruled
stays_sound rows (request.Sync token items limit sync_token cursor_token) now changes given s (sized, low, high) (store, has, ruled) =
    syncs_soundly rows s store has token items limit now changes given sized
    (served_or_not rows store token items limit now changes given sync_token cursor_token ruled)
