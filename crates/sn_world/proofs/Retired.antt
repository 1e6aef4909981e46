-- The older of a device's two sets ends: what its commit has left holds of the rows without it, and of the state after that.
use Rattle.std.proofs.Common.{◌≡◌, ◌≢◌, ◌<◌, ◌≤◌, ℕ, List, [], ◌∷◌, Option, Some, None, Bool, true, false, refl, sym, ap, ◌∙◌, subst, arith}
use Rattle.std.proofs.lemmas.Bool.Decides.{nat_tests}
use Rattle.std.specs.Prelude.{◌==◌, IsTrue, find}
use Rattle.std.specs.Str.{bytes_eq}
use Rattle.sn_account.specs.Sessions.{IsSession, session_token}
use Rattle.sn_device.specs.States.{IsSound}
use Rattle.sn_laws.proofs.Facts.{clash, one_there, retired, same_text, text_same}
use Rattle.sn_laws.specs.Lookups.{Bytes, device_named, greatest, is_account, is_device}
use Rattle.sn_laws.specs.Moves.{after, allows, without}
use Rattle.sn_laws.specs.Relation.{IsOnLast}
use Rattle.sn_laws.specs.declared.ideal.Account.{Account}
use Rattle.sn_laws.specs.declared.ideal.Device.{Device}
use Rattle.sn_laws.specs.declared.ideal.Ideal.{Ideal}
use Rattle.sn_laws.specs.declared.moves.Move.TheVariants.{Retire}
use Rattle.sn_rows.specs.Facts.{removed_elsewhere}
use Rattle.sn_rows.specs.Table.{Removes, Rows, rows_after}
use Rattle.sn_rows.specs.declared.change.Change.{Change}
use Rattle.sn_rows.specs.declared.key.Key.{Key}
use Rattle.sn_rows.specs.declared.key.Key.TheVariants as key
use Rattle.sn_rows.specs.declared.key.Slot.TheVariants.{Older}
use Rattle.sn_adopted.specs.Moves.{OlderStale}
use Rattle.sn_shows.proofs.Facts.{find_changed, find_past_changed, greatest_of_one, greatest_of_two, not_device, retire_keeps, retired_shows}
use Rattle.sn_shows.specs.Devices.{ShowsDevice}
use Rattle.sn_shows.specs.Laws.{HasAccount}
use Rattle.sn_shows.specs.Servers.{stamps_in}
use Rattle.sn_sync.specs.declared.item.Item.{Item}
use Rattle.sn_world.proofs.DeviceRows.{posted_same, sync_tokens_same}
use Rattle.sn_world.proofs.Frames.{DeviceFrame, HasPulled, live_kept}
use Rattle.sn_world.proofs.Pulls.{stays_on, stays_same}
use Rattle.sn_world.proofs.Steps.{reached_more}
use Rattle.sn_world.specs.Holds.{DeviceToken, HasToken, NumbersOf, Reached, StaleOf, TokensBelow}
use Rattle.sn_world.specs.Live.{LiveItem}
use Rattle.sn_world.specs.Pulled.{PulledTo}
use Rattle.sn_world.specs.World.{World}

-- what a commit of a device leaves, but for the soundness of its rows and those of an older set
pub record Leaves (secret : Bytes) (w : World) (rows : Rows) (s later : Ideal) (name : Bytes) : Type 0 where
  pub reached : Reached later
  pub accounts : later.accounts ≡ s.accounts
  pub others : (other : Bytes) → other ≢ name → device_named later other ≡ device_named s other
  pub shows : ShowsDevice rows later name
  pub shows_others : (at : Rows) (other : Bytes) → other ≢ name → ShowsDevice at s other → ShowsDevice at later other
  pub numbers : (other : Bytes) → NumbersOf later other
  pub sync_tokens : TokensBelow rows (greatest 0 (stamps_in s.accounts))
  pub pulls : HasPulled rows s.accounts (device_named later name)
  pub own_token : (d : Device) → device_named later name ≡ Some d → DeviceToken secret rows s.accounts d
  pub tokens : (token : Bytes) → HasToken secret s.accounts (device_named s name) token → HasToken secret s.accounts (device_named later name) token
  pub live : (token : Bytes) (n : ℕ) → HasToken secret s.accounts (device_named s name) token → IsSession w.server token n → (i : Item)
      → LiveItem (w.server (key.Item i.uuid)) (w.devices name) s.accounts n i → LiveItem (w.server (key.Item i.uuid)) rows s.accounts n i

pub framed : (secret : Bytes) (w : World) (rows : Rows) (s later : Ideal) (name : Bytes) → Leaves secret w rows s later name → IsSound rows
    → StaleOf rows later name
    → DeviceFrame secret w rows s later name
framed secret w rows s later name x sound stale = record {
  reached = x.reached;
  accounts = x.accounts;
  others = x.others;
  shows = x.shows;
  shows_others = x.shows_others;
  sound = sound;
  older_stale = stale;
  numbers = x.numbers;
  sync_tokens = x.sync_tokens;
  pulls = x.pulls;
  own_token = x.own_token;
  tokens = x.tokens;
  live = x.live;
}

-- ---- one set is left

one_left : (older present : ℕ) → older < present → without (λ m. m == older) (older ∷ present ∷ []) ≡ present ∷ []
one_left older present less =
    let own : (older == older) ≡ true = grind (arith) in
    let apart : (present == older) ≡ false = grind (arith, nat_tests, less) in
    rw (own, apart) refl

-- what stands on last versions did so
on_before : (s : Ideal) (name : Bytes) (older : ℕ) (a : Account) (uuid : Bytes) (base : Option ℕ) → IsOnLast (after s (Retire name older)) a uuid base
    → IsOnLast s a uuid base
on_before s name older a uuid None on = on
on_before s name older a uuid (Some stamp) on = on

module _ (secret : Bytes) (w : World) (rows : Rows) (s later : Ideal) (name : Bytes) (x : Leaves secret w rows s later name) (d : Device) (a : Account)
    (has : HasAccount later name d a) (older present : ℕ) (two : d.held ≡ older ∷ present ∷ []) (less : older < present) (change : Change)
    (gone : Removes change (key.Set Older)) (legal : IsTrue (allows later (Retire name older))) where
  abbrev now : Rows
  now = rows_after rows (change ∷ [])

  abbrev end : Ideal
  end = after later (Retire name older)

  abbrev e : Device
  e = retired older d

  away : (k : Key) → key.Set Older ≢ k → now k ≡ rows k
  away k apart = removed_elsewhere rows change (key.Set Older) k gone apart

  local_same : (number : ℕ) → now (key.Local number) ≡ rows (key.Local number)
  local_same number = away (key.Local number) (λ k. cc)

  owner_same : now key.Owner ≡ rows key.Owner
  owner_same = away key.Owner (λ k. cc)

  held_is : e.held ≡ present ∷ []
  held_is = ap (without (λ (m : ℕ). m == older)) two ∙ one_left older present less

  same_greatest : greatest 0 d.held ≡ greatest 0 e.held
  same_greatest = ap (greatest 0) two ∙ greatest_of_two older present less ∙ sym (ap (greatest 0) held_is ∙ greatest_of_one present)

  named : device_named end name ≡ Some e
  named = find_changed (is_device name) (retired older) (λ y. refl) later.devices d has.device

  others : (other : Bytes) → other ≢ name → device_named end other ≡ device_named later other
  others other apart =
      find_past_changed (is_device other) (is_device name) (retired older)
      (λ y k. not_device name other y apart (same_text y.name name k))
      (λ y k. not_device name other (retired older y) apart (same_text y.name name k)) later.devices

  is_now : (f : Device) → device_named end name ≡ Some f → e ≡ f
  is_now f at = one_there e f (device_named end name) named at

  own_token : (f : Device) → device_named end name ≡ Some f → DeviceToken secret now s.accounts f
  own_token f at =
      let t = x.own_token d has.device in
      subst (λ (z : Device). DeviceToken secret now s.accounts z) (is_now f at)
      (record {
        owner = t.owner;
        has = owner_same ∙ t.has;
        number = t.number;
        account = t.account;
        at = t.at;
        own = t.own;
        uuid_is = t.uuid_is;
        is = t.is ∙ ap (session_token secret t.number) same_greatest;
      })

  tokens : (token : Bytes) → HasToken secret s.accounts (device_named s name) token → HasToken secret s.accounts (device_named end name) token
  tokens token k =
      let t = x.tokens token k in
      let same : t.device ≡ d = one_there t.device d (device_named later name) t.named has.device in
      record {
        number = t.number;
        account = t.account;
        at = t.at;
        device = e;
        named = named;
        own = t.own ∙ ap (λ (z : Device). z.account) same;
        generation = t.generation;
        held = subst (λ (m : ℕ). t.generation ≤ m) (ap (λ (z : Device). greatest 0 z.held) same ∙ same_greatest) t.held;
        is = t.is;
      }

  pulls : HasPulled now s.accounts (device_named end name)
  pulls = (
    λ owner there none uuid number local stands.
        x.pulls.0 owner (sym owner_same ∙ there) none uuid number local (sym (local_same number) ∙ stands.0, stands.1),
    pulled,
  )
    where
      pulled : PulledTo now s.accounts (device_named end name)
      pulled f number b owner text stamp at there own has_owner token is uuid =
          let account : d.account ≡ f.account = ap (λ (z : Device). z.account) (is_now f at) in
          stays_on rows now b stamp uuid (stays_same rows now local_same uuid)
          (x.pulls.1 d number b owner text stamp has.device there (own ∙ sym account) (sym owner_same ∙ has_owner) token is uuid)

  numbers : (other : Bytes) → NumbersOf end other
  numbers other f b own uuid draft at p is = by (bytes_eq other name) refl
    where
      by : (q : Bool) → bytes_eq other name ≡ q → (k : ℕ) × (p.set ≡ Some k) × (IsOnLast end b draft.uuid draft.base → k ≡ greatest 0 f.held)
      by false off =
          let apart : other ≢ name = λ same. clash (bytes_eq other name) (text_same other name same) off in
          let its = x.numbers other f b (record { device = sym (others other apart) ∙ own.device; account = own.account }) uuid draft at p is in
          (its.0, its.1, λ on. its.2 (on_before later name older b draft.uuid draft.base on))
      by true same =
          let here : device_named end name ≡ Some f = subst (λ (o : Bytes). device_named end o ≡ Some f) (same_text other name same) own.device in
          let is_f : e ≡ f = is_now f here in
          let was : HasAccount later other d b =
          record {
            device = subst (λ (o : Bytes). device_named later o ≡ Some d) (sym (same_text other name same)) has.device;
            account = subst (λ (z : Device). find (is_account z.account) later.accounts ≡ Some b) (sym is_f) own.account;
          } in
          let its = x.numbers other d b was uuid draft at p is in
          (its.0, its.1, λ on. its.2 (on_before later name older b draft.uuid draft.base on) ∙ same_greatest ∙ ap (λ (z : Device). greatest 0 z.held) is_f)

  pub leaves_retired : Leaves secret w now s end name
  leaves_retired = record {
    reached = reached_more later (Retire name older) x.reached legal;
    accounts = x.accounts;
    others = λ other apart. others other apart ∙ x.others other apart;
    shows = retired_shows rows later name d a older present change x.shows has two less gone;
    shows_others = λ at other apart k. retire_keeps at later name other older apart (x.shows_others at other apart k);
    numbers = numbers;
    sync_tokens = sync_tokens_same rows now (greatest 0 (stamps_in s.accounts)) owner_same x.sync_tokens;
    pulls = pulls;
    own_token = own_token;
    tokens = tokens;
    live = λ token n k session i was.
        live_kept rows now (posted_same rows now local_same) (w.server (key.Item i.uuid)) s.accounts n i (x.live token n k session i was);
  }

  -- one set is held, so no row is of an older one
  pub stale_retired : StaleOf now end name
  stale_retired f b own =
      subst (λ (ns : List ℕ). OlderStale now b ns) (sym (ap (λ (z : Device). z.held) (sym (is_now f own.device)) ∙ held_is)) tt
