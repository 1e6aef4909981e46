-- What a commit of one end leaves of the invariant, where it is known what it makes of that end's rows.
use Rattle.std.proofs.Common.{◌≡◌, ◌≢◌, ◌≤◌, ℕ, List, [], ◌∷◌, length, Option, Some, None, Bool, true, false, refl, sym, ap, ◌∙◌, subst, inl, inr, arith}
use Rattle.std.specs.Prelude.{find}
use Rattle.std.specs.Str.{bytes_eq}
use Rattle.sn_account.specs.Lookups.{HasStore}
use Rattle.sn_account.specs.Sessions.{IsSession}
use Rattle.sn_account.specs.Sound.{IsSound as IsSoundServer}
use Rattle.sn_laws.proofs.Facts.{clash, same_text, text_same}
use Rattle.sn_laws.specs.Each.{Each}
use Rattle.sn_laws.specs.Lookups.{Bytes, device_named, greatest, is_account, is_device, last_of}
use Rattle.sn_laws.specs.declared.ideal.Account.{Account}
use Rattle.sn_laws.specs.declared.ideal.Device.{Device}
use Rattle.sn_laws.specs.declared.ideal.Ideal.{Ideal}
use Rattle.sn_rows.specs.Table.{Rows, rows_after}
use Rattle.sn_rows.specs.declared.change.Change.{Change}
use Rattle.sn_rows.specs.declared.device_rows.LocalItem.{LocalItem}
use Rattle.sn_rows.specs.declared.key.Key.TheVariants as key
use Rattle.sn_rows.specs.declared.server_rows.StoreRow.{StoreRow}
use Rattle.sn_rows.specs.declared.value.Value.{Value}
use Rattle.sn_shows.specs.Devices.{ShowsDevice}
use Rattle.sn_shows.specs.Servers.{ShowsServer, account_at, stamps_in}
use Rattle.sn_string.specs.declared.params.KeySet.{KeySet}
use Rattle.sn_sync.specs.declared.item.Item.{Item}
use Rattle.sn_sync.specs.Laws.{HasOneToken}
use Rattle.sn_sync.specs.Tokens.{IsToken}
use Rattle.sn_laws.specs.declared.ideal.Version.{Version}
use Rattle.sn_world.specs.Pulled.{BasesPulled, PulledAt, PulledTo}
use Rattle.sn_world.specs.Holds.{AreFew, DeviceToken, HasToken, Holds, HoldsChange, HoldsSync, IsSync, IsTokenBelow, NumbersOf, Reached, StaleOf, TokensBelow}
use Rattle.sn_world.specs.Live.{KnownBelow, LiveItem, LiveItems}
use Rattle.sn_device.specs.Sending.{SaysBase}
use Rattle.sn_device.specs.States.{HasLocal, IsSound, token_of}
use Rattle.sn_world.specs.World.{IsMade, Made, OnDevice, World}

-- ---- worlds of the same parts

pub same_world : (secret : Bytes) (next : World) (s : Ideal) (server : Rows) (devices : Bytes → Rows) (made : List Made) → next.server ≡ server
    → next.devices ≡ devices → next.made ≡ made → Holds secret (record { server = server; devices = devices; made = made }) s → Holds secret next s
same_world secret next s server devices made server_is devices_are made_is h =
    subst (λ (r : Rows). Holds secret (record { server = r; devices = next.devices; made = next.made }) s) (sym server_is)
    (subst (λ (f : Bytes → Rows). Holds secret (record { server = server; devices = f; made = next.made }) s) (sym devices_are)
    (subst (λ (x : List Made). Holds secret (record { server = server; devices = devices; made = x }) s) (sym made_is) h))

-- ---- a commit of the server

-- the account of this number is there, with its identifier, and has no fewer sets
abbrev pub StillAt : List Account → ℕ → Account → Type 0
StillAt accounts n a = (b : Account) × (account_at n accounts ≡ Some b) × (b.identifier ≡ a.identifier) × (length a.sets ≤ length b.sets)

-- a last version up to the greatest stamp was there, the last of its item in the account
abbrev pub LastsBefore : List Account → List Account → Type 0
LastsBefore accounts later = (n : ℕ) (b : Account) (uuid : Bytes) (v : Version) → account_at n later ≡ Some b → last_of uuid b.versions ≡ Some v
    → v.stamp ≤ greatest 0 (stamps_in accounts)
    → (a : Account) × (account_at n accounts ≡ Some a) × (a.identifier ≡ b.identifier) × (last_of uuid a.versions ≡ Some v)

pub record ServerFrame (secret : Bytes) (w : World) (server : Rows) (s later : Ideal) : Type 0 where
  pub reached : Reached later
  pub few : AreFew later.accounts
  pub keeps_secret : (store : StoreRow) → HasStore server store → store.secret ≡ secret
  pub shows : ShowsServer server later.accounts
  pub sound : (store : StoreRow) → HasStore server store → IsSoundServer server
  pub devices : later.devices ≡ s.devices
  pub shown : (rows : Rows) (name : Bytes) → ShowsDevice rows s name → ShowsDevice rows later name
  pub numbers : (rows : Rows) (name : Bytes) → ShowsDevice rows s name → NumbersOf s name → NumbersOf later name
  pub accounts : (n : ℕ) (a : Account) → account_at n s.accounts ≡ Some a → StillAt later.accounts n a
  pub last : greatest 0 (stamps_in s.accounts) ≤ greatest 0 (stamps_in later.accounts)
  pub session : (name token : Bytes) (n : ℕ) → HasToken secret s.accounts (device_named s name) token → IsSession server token n → IsSession w.server token n
  pub lasts : LastsBefore s.accounts later.accounts
  pub older_stale : (rows : Rows) (name : Bytes) → ShowsDevice rows s name → StaleOf rows s name → StaleOf rows later name
  pub live : (name token : Bytes) (n : ℕ) → HasToken secret s.accounts (device_named s name) token → IsSession server token n → (rows : Rows) (i : Item)
      → KnownBelow (greatest 0 (stamps_in s.accounts)) i → LiveItem (w.server (key.Item i.uuid)) rows s.accounts n i
      → LiveItem (server (key.Item i.uuid)) rows later.accounts n i

below_later : (found : Option Bytes) (last later : ℕ) → last ≤ later → IsTokenBelow found last → IsTokenBelow found later
below_later None last later up h = tt
below_later (Some text) last later up h = let low : h.0 ≤ last = h.2 in (h.0, h.1, omega arith)

tokens_later : (device : Rows) (last later : ℕ) → last ≤ later → TokensBelow device last → TokensBelow device later
tokens_later device last later up h owner has = let x = h owner has in (below_later (token_of owner.sync_token) last later up x.0, x.1)

pub known_still : (last later : ℕ) (items : List Item) → last ≤ later → Each (KnownBelow last) items → Each (KnownBelow later) items
known_still last later [] up h = tt
known_still last later (i ∷ items) up h =
    (λ text stamp e spelled. let low : stamp ≤ last = h.0 text stamp e spelled in omega arith, known_still last later items up h.1)

pub live_still : (server later rows : Rows) (accounts now : List Account) (n last : ℕ) (items : List Item)
    → ((i : Item) → KnownBelow last i → LiveItem (server (key.Item i.uuid)) rows accounts n i → LiveItem (later (key.Item i.uuid)) rows now n i)
    → Each (KnownBelow last) items → LiveItems server rows accounts n items → LiveItems later rows now n items
live_still server later rows accounts now n last [] f known h = tt
live_still server later rows accounts now n last (i ∷ items) f known h =
    (f i known.0 h.0, live_still server later rows accounts now n last items f known.1 h.1)

pub token_still : (secret : Bytes) (accounts now : List Account) (found : Option Device) (token : Bytes)
    → ((n : ℕ) (a : Account) → account_at n accounts ≡ Some a → StillAt now n a) → HasToken secret accounts found token → HasToken secret now found token
token_still secret accounts now found token still x =
    let b = still x.number x.account x.at in
    record {
      number = x.number;
      account = b.0;
      at = b.1;
      device = x.device;
      named = x.named;
      own = b.2 ∙ x.own;
      generation = x.generation;
      held = x.held;
      is = x.is;
    }

pub change_still : (secret : Bytes) (accounts now : List Account) (found : Option KeySet) (token pw : Bytes) (cost : ℕ) (nonce : Bytes)
    → ((n : ℕ) (a : Account) → account_at n accounts ≡ Some a → StillAt now n a) → HoldsChange secret accounts found token pw cost nonce
    → HoldsChange secret now found token pw cost nonce
change_still secret accounts now found token pw cost nonce still x =
    let b = still x.number x.account x.at in
    let low : x.generation ≤ length x.account.sets = x.within in
    let up : length x.account.sets ≤ length b.0.sets = b.3 in
    record {
      set = x.set;
      is = x.is;
      pw_is = x.pw_is;
      cost_is = x.cost_is;
      nonce_is = x.nonce_is;
      number = x.number;
      account = b.0;
      at = b.1;
      own = b.2 ∙ x.own;
      generation = x.generation;
      within = omega arith;
      token_is = x.token_is;
    }

module _ (one_token : HasOneToken) (secret : Bytes) (w : World) (server : Rows) (s later : Ideal) (h : Holds secret w s) (f : ServerFrame secret w server s later) where
  same_device : (name : Bytes) → device_named later name ≡ device_named s name
  same_device name = ap (find (is_device name)) f.devices

  own_token : (name : Bytes) (d : Device) → device_named later name ≡ Some d → DeviceToken secret (w.devices name) later.accounts d
  own_token name d named =
      let x = h.own_tokens name d (sym (same_device name) ∙ named) in
      let b = f.accounts x.number x.account x.at in
      record { owner = x.owner; has = x.has; number = x.number; account = b.0; at = b.1; own = b.2 ∙ x.own; uuid_is = x.uuid_is; is = x.is }

  sync_still : (m : Made) (token : Bytes) (items : List Item) → IsMade w m → IsSync m token items
      → HoldsSync secret server (w.devices m.device) later m.device token items
  sync_still m token items made is =
      let x = h.syncs m token items made is in
      record {
        of_device = subst (λ (o : Option Device). HasToken secret later.accounts o token) (sym (same_device m.device))
            (token_still secret s.accounts later.accounts (device_named s m.device) token f.accounts x.of_device);
        known = known_still (greatest 0 (stamps_in s.accounts)) (greatest 0 (stamps_in later.accounts)) items f.last x.known;
        live = λ n session.
            live_still w.server server (w.devices m.device) s.accounts later.accounts n (greatest 0 (stamps_in s.accounts)) items
            (f.live m.device token n x.of_device session (w.devices m.device)) x.known (x.live n (f.session m.device token n x.of_device session));
      }

  -- no device has pulled what is new
  pulled : (name : Bytes) → PulledTo (w.devices name) later.accounts (device_named later name)
  pulled name d number b owner text stamp named at own has token is uuid =
      let within : stamp ≤ greatest 0 (stamps_in s.accounts) = token_within (token_of owner.sync_token) text stamp token is (h.sync_tokens name owner has).0 in
      record {
        live = λ v last low alive.
            let was = f.lasts number b uuid v at last (omega arith) in
            (before was.0 was.1 (was.2 ∙ own)).live v was.3 low alive;
        gone = λ v last low dead.
            let was = f.lasts number b uuid v at last (omega arith) in
            (before was.0 was.1 (was.2 ∙ own)).gone v was.3 low dead;
      }
    where
      before : (a : Account) → account_at number s.accounts ≡ Some a → a.identifier ≡ d.account → PulledAt (w.devices name) a stamp uuid
      before a there names = h.pulled name d number a owner text stamp (sym (same_device name) ∙ named) there names has token is uuid

      token_within : (found : Option Bytes) (t : Bytes) (k : ℕ) → found ≡ Some t → IsToken t k → IsTokenBelow found (greatest 0 (stamps_in s.accounts))
          → k ≤ greatest 0 (stamps_in s.accounts)
      token_within None t k e spelled low = absurd (cc)
      token_within (Some u) t k e spelled low =
          let same : u ≡ t = cc in
          let number_is : low.0 ≡ k = one_token u low.0 k low.1 (subst (λ (x : Bytes). IsToken x k) (sym same) spelled) in
          subst (λ (x : ℕ). x ≤ greatest 0 (stamps_in s.accounts)) number_is low.2

  pub server_kept : Holds secret (record { server = server; devices = w.devices; made = w.made }) later
  server_kept = record {
    reached = f.reached;
    few = f.few;
    keeps_secret = f.keeps_secret;
    server = f.shows;
    server_sound = f.sound;
    devices = λ name. f.shown (w.devices name) name (h.devices name);
    sound = h.sound;
    older_stale = λ name. f.older_stale (w.devices name) name (h.devices name) (h.older_stale name);
    numbers = λ name. f.numbers (w.devices name) name (h.devices name) (h.numbers name);
    own_tokens = own_token;
    sync_tokens = λ name. tokens_later (w.devices name) (greatest 0 (stamps_in s.accounts)) (greatest 0 (stamps_in later.accounts)) f.last (h.sync_tokens name);
    bases_pulled = h.bases_pulled;
    pulled = pulled;
    syncs = sync_still;
    changes = λ m token current pw cost nonce made is.
        change_still secret s.accounts later.accounts m.begins token pw cost nonce f.accounts (h.changes m token current pw cost nonce made is);
    registers = h.registers;
  }

-- ---- a commit of a device

-- how far it has pulled
abbrev pub HasPulled : Rows → List Account → Option Device → Type 0
HasPulled rows accounts found = BasesPulled rows × PulledTo rows accounts found

pub record DeviceFrame (secret : Bytes) (w : World) (rows : Rows) (s later : Ideal) (name : Bytes) : Type 0 where
  pub reached : Reached later
  pub accounts : later.accounts ≡ s.accounts
  pub others : (other : Bytes) → other ≢ name → device_named later other ≡ device_named s other
  pub shows : ShowsDevice rows later name
  pub shows_others : (at : Rows) (other : Bytes) → other ≢ name → ShowsDevice at s other → ShowsDevice at later other
  pub sound : IsSound rows
  pub older_stale : StaleOf rows later name
  pub numbers : (other : Bytes) → NumbersOf later other
  pub sync_tokens : TokensBelow rows (greatest 0 (stamps_in s.accounts))
  pub pulls : HasPulled rows s.accounts (device_named later name)
  pub own_token : (d : Device) → device_named later name ≡ Some d → DeviceToken secret rows s.accounts d
  pub tokens : (token : Bytes) → HasToken secret s.accounts (device_named s name) token → HasToken secret s.accounts (device_named later name) token
  pub live : (token : Bytes) (n : ℕ) → HasToken secret s.accounts (device_named s name) token → IsSession w.server token n → (i : Item)
      → LiveItem (w.server (key.Item i.uuid)) (w.devices name) s.accounts n i → LiveItem (w.server (key.Item i.uuid)) rows s.accounts n i

live_all : (server rows now : Rows) (accounts : List Account) (n : ℕ) (items : List Item)
    → ((i : Item) → LiveItem (server (key.Item i.uuid)) rows accounts n i → LiveItem (server (key.Item i.uuid)) now accounts n i)
    → LiveItems server rows accounts n items → LiveItems server now accounts n items
live_all server rows now accounts n [] f h = tt
live_all server rows now accounts n (i ∷ items) f h = (f i h.0, live_all server rows now accounts n items f h.1)

module _ (secret : Bytes) (w next : World) (s later : Ideal) (name : Bytes) (changes : List Change) (h : Holds secret w s)
    (on : OnDevice w next name changes) (f : DeviceFrame secret w (rows_after (w.devices name) changes) s later name) where
  abbrev rows : Rows
  rows = rows_after (w.devices name) changes

  -- what holds of the device's rows now, and of those of each other device, holds of each device
  of_each : (P : Bytes → Rows → Type 0) → P name rows → ((other : Bytes) → other ≢ name → P other (w.devices other)) → (other : Bytes) → P other (next.devices other)
  of_each P own others other = by (bytes_eq other name) refl
    where
      by : (b : Bool) → bytes_eq other name ≡ b → P other (next.devices other)
      by true same =
          subst (λ (o : Bytes). P o (next.devices o)) (sym (same_text other name same)) (subst (λ (r : Rows). P name r) (sym on.own) own)
      by false off =
          let apart : other ≢ name = λ e. clash (bytes_eq other name) (text_same other name e) off in
          subst (λ (r : Rows). P other r) (sym (on.others other apart)) (others other apart)

  -- what is said of the accounts before is said of those after
  of_accounts : (P : List Account → Type 0) → P s.accounts → P later.accounts
  of_accounts P p = subst P (sym f.accounts) p

  own_tokens : (other : Bytes) (d : Device) → device_named later other ≡ Some d → DeviceToken secret (next.devices other) later.accounts d
  own_tokens other d named =
      of_accounts (λ accounts. DeviceToken secret (next.devices other) accounts d)
      (of_each (λ o r. (e : Device) → device_named later o ≡ Some e → DeviceToken secret r s.accounts e) f.own_token
      (λ o apart e at. h.own_tokens o e (sym (f.others o apart) ∙ at)) other d named)

  sync_after : (token : Bytes) (items : List Item) (m : Made) → IsMade w m → IsSync m token items
      → HoldsSync secret w.server (next.devices m.device) later m.device token items
  sync_after token items m made is = record {
    of_device = of_accounts (λ accounts. HasToken secret accounts (device_named later m.device) token) token_after;
    known = of_accounts (λ accounts. Each (KnownBelow (greatest 0 (stamps_in accounts))) items) x.known;
    live = λ n session. of_accounts (λ accounts. LiveItems w.server (next.devices m.device) accounts n items) (items_after n session (x.live n session));
  }
    where
      x : HoldsSync secret w.server (w.devices m.device) s m.device token items
      x = h.syncs m token items made is

      token_after : HasToken secret s.accounts (device_named later m.device) token
      token_after =
          of_each (λ o r. HasToken secret s.accounts (device_named s o) token → HasToken secret s.accounts (device_named later o) token) (f.tokens token)
          (λ o apart k. subst (λ (found : Option Device). HasToken secret s.accounts found token) (sym (f.others o apart)) k) m.device x.of_device

      items_after : (n : ℕ) → IsSession w.server token n → LiveItems w.server (w.devices m.device) s.accounts n items
          → LiveItems w.server (next.devices m.device) s.accounts n items
      items_after n session =
          of_each (λ o r. HasToken secret s.accounts (device_named s o) token → LiveItems w.server (w.devices o) s.accounts n items
          → LiveItems w.server r s.accounts n items)
          (λ t. live_all w.server (w.devices name) rows s.accounts n items (f.live token n t session)) (λ o apart t k. k) m.device x.of_device

  stale_after : (other : Bytes) → StaleOf (next.devices other) later other
  stale_after = of_each (λ o r. StaleOf r later o) f.older_stale (λ o apart. others_stale o apart)
    where
      others_stale : (o : Bytes) → o ≢ name → StaleOf (w.devices o) later o
      others_stale o apart d a has =
          h.older_stale o d a (record {
            device = sym (f.others o apart) ∙ has.device;
            account = subst (λ (xs : List Account). find (is_account d.account) xs ≡ Some a) f.accounts has.account;
          })

  pub device_kept : Holds secret next later
  device_kept =
      same_world secret next later w.server next.devices w.made on.server refl on.made
      (record {
        reached = f.reached;
        few = of_accounts AreFew h.few;
        keeps_secret = h.keeps_secret;
        server = of_accounts (λ accounts. ShowsServer w.server accounts) h.server;
        server_sound = h.server_sound;
        devices = of_each (λ o r. ShowsDevice r later o) f.shows (λ o apart. f.shows_others (w.devices o) o apart (h.devices o));
        sound = of_each (λ o r. IsSound r) f.sound (λ o apart. h.sound o);
        older_stale = stale_after;
        numbers = f.numbers;
        own_tokens = own_tokens;
        sync_tokens = λ other.
            of_accounts (λ accounts. TokensBelow (next.devices other) (greatest 0 (stamps_in accounts)))
            (of_each (λ o r. TokensBelow r (greatest 0 (stamps_in s.accounts))) f.sync_tokens (λ o apart. h.sync_tokens o) other);
        bases_pulled = of_each (λ o r. BasesPulled r) f.pulls.0 (λ o apart. h.bases_pulled o);
        pulled = λ other.
            of_accounts (λ accounts. PulledTo (next.devices other) accounts (device_named later other))
            (of_each (λ o r. PulledTo r s.accounts (device_named later o)) f.pulls.1
            (λ o apart. subst (λ (found : Option Device). PulledTo (w.devices o) s.accounts found) (sym (f.others o apart)) (h.pulled o)) other);
        syncs = λ m token items made is. sync_after token items m made is;
        changes = λ m token current pw cost nonce made is.
            of_accounts (λ accounts. HoldsChange secret accounts m.begins token pw cost nonce) (h.changes m token current pw cost nonce made is);
        registers = h.registers;
      })

-- ---- what was posted stays live

-- each row of which something was posted is there, with what is sent of it
abbrev pub SentAlike : LocalItem → LocalItem → Type 0
SentAlike local now = (now.uuid ≡ local.uuid) × (now.kind ≡ local.kind) × (now.base ≡ local.base) × (now.posted ≡ local.posted)

abbrev pub KeepsPosted : Rows → Rows → Type 0
KeepsPosted rows now = (number : ℕ) (local : LocalItem) → HasLocal rows number local → local.posted ≢ None → (l : LocalItem) × HasLocal now number l × SentAlike local l

pub live_kept : (rows now : Rows) → KeepsPosted rows now → (found : Option Value) (accounts : List Account) (n : ℕ) (i : Item)
    → LiveItem found rows accounts n i → LiveItem found now accounts n i
live_kept rows now keeps found accounts n i (inl x) = inl x
live_kept rows now keeps found accounts n i (inr (inl x)) = inr (inl x)
live_kept rows now keeps found accounts n i (inr (inr (inl x))) = inr (inr (inl x))
live_kept rows now keeps found accounts n i (inr (inr (inr (inr x)))) = inr (inr (inr (inr x)))
live_kept rows now keeps found accounts n i (inr (inr (inr (inl x)))) =
    let some : x.local.posted ≢ None = λ none. let is : x.local.posted ≡ Some x.posted = x.posted_is in cc in
    let l = keeps x.number x.local x.stands some in
    inr (inr (inr (inl (record {
      number = x.number;
      local = l.0;
      stands = l.1;
      uuid_is = l.2.0 ∙ x.uuid_is;
      kind_is = l.2.1 ∙ x.kind_is;
      base = subst (λ (b : Option ℕ). SaysBase b i.updated_at) (sym l.2.2) x.base;
      posted = x.posted;
      posted_is = l.2.3 ∙ x.posted_is;
      body_is = x.body_is;
    }))))
