-- In a world where the invariant holds, each item of an account with one set that is put by a sync is what the device has sent.
use Rattle.std.proofs.Common.{◌≡◌, ◌⊎◌, ◌≤◌, ℕ, List, [], ◌∷◌, length, Option, Some, None, refl, sym, ap, ◌∙◌, subst, inl, inr, ⊎_elim, arith}
use Rattle.sn_account.specs.Incoming.{Names, SameVersion}
use Rattle.sn_account.specs.Lookups.{HasStore}
use Rattle.sn_account.specs.Rule.{RuleOf}
use Rattle.sn_account.specs.Sessions.{IsSession, session_token}
use Rattle.sn_account.specs.Syncs.{Serves as ServesSync, ServesBounded, ServesFrom, Synced, Syncs, start}
use Rattle.sn_device.specs.Sending.{SaysBase}
use Rattle.sn_laws.proofs.Facts.{carries_sets, last_among, one_there}
use Rattle.sn_laws.specs.Each.{Each}
use Rattle.sn_laws.specs.Lookups.{Bytes, greatest}
use Rattle.sn_laws.specs.Relation.{IsUnder}
use Rattle.sn_laws.specs.declared.ideal.Account.{Account}
use Rattle.sn_laws.specs.declared.ideal.Body.{Body}
use Rattle.sn_laws.specs.declared.ideal.Device.{Device}
use Rattle.sn_laws.specs.declared.ideal.Ideal.{Ideal}
use Rattle.sn_laws.specs.declared.ideal.Version.{Version}
use Rattle.sn_laws.specs.declared.moves.Move.{Move}
use Rattle.sn_rows.specs.Table.{Rows}
use Rattle.sn_rows.specs.declared.change.Change.{Change}
use Rattle.sn_rows.specs.declared.key.Key.TheVariants as key
use Rattle.sn_rows.specs.declared.server_rows.ItemRow.{ItemRow}
use Rattle.sn_rows.specs.declared.server_rows.StoreRow.{StoreRow}
use Rattle.sn_rows.specs.declared.value.Value.{Value}
use Rattle.sn_rows.specs.declared.value.Value.TheVariants as value
use Rattle.sn_shows.proofs.Facts.{accounts_apart, each_at, holder_of}
use Rattle.sn_shows.specs.Devices.{IsBase, ShowsBase, ShowsHolder}
use Rattle.sn_shows.specs.Laws.{HasAccount}
use Rattle.sn_shows.specs.Servers.{ShowsItem, account_at, stamps_in}
use Rattle.sn_string.specs.declared.params.KeySet.{KeySet}
use Rattle.sn_sync.proofs.Facts.{one_stamp}
use Rattle.sn_sync.specs.Requests.{route_of}
use Rattle.sn_sync.specs.Stamps.{IsStampText}
use Rattle.sn_sync.specs.declared.answer.Answer.{Answer}
use Rattle.sn_sync.specs.declared.item.Item.{Item}
use Rattle.sn_sync.specs.declared.request.Request.{Request}
use Rattle.sn_sync.specs.declared.request.Request.TheVariants as request
use Rattle.sn_sync.specs.declared.request.Route.TheVariants as route
use Rattle.sn_world.proofs.Facts.{device_account, few_numbers, same_owner, session_account}
use Rattle.sn_world.proofs.Lasts.{has_last}
use Rattle.sn_world.proofs.Lists.{this_one}
use Rattle.sn_world.proofs.SaidChanges.{last_number}
use Rattle.sn_world.proofs.ServedSync.{counts_of}
use Rattle.sn_world.specs.Holds.{Holds, HoldsSync, Reached}
use Rattle.sn_world.specs.Live.{IsPosted, IsRewrap, KnownBelow, LiveItem, LiveItems}
use Rattle.sn_world.specs.Serving.{SaysChanges, SaysRoute, Serves, generation_of, stamp_in}
use Rattle.sn_world.specs.World.{Made, World}
use Rattle.sn_saying.specs.Lone.{LoneChanges}
use Rattle.sn_saying.specs.Served.{IsBegunAs, IsServing}
use Rattle.sn_saying.proofs.LoneLemmas.{IsNewsAt, IsReady, Waits, lone_all, lone_taken, same_row}

-- ---- an item that may be accepted

-- only the device's own row makes it live, or it is the last version, sealed again
news_is_live : (found : Option Value) (device : Rows) (accounts : List Account) (n : ℕ) (i : Item) → LiveItem found device accounts n i → IsNewsAt found n i
    → IsPosted device i ⊎ IsRewrap accounts n i
news_is_live found device accounts n i (inl (row, there, other)) (inl absent) = absurd (absent row there)
news_is_live found device accounts n i (inl (row, there, other)) (inr (held, (stands, own), differs, names)) =
    absurd (other (ap (λ (r : ItemRow). r.account) (same_row row held found there stands) ∙ own))
news_is_live found device accounts n i (inr (inl (row, there, own, same))) (inl absent) = absurd (absent row there)
news_is_live found device accounts n i (inr (inl (row, there, own, same))) (inr (held, (stands, mine), differs, names)) =
    absurd (differs (subst (λ (r : ItemRow). SameVersion r i) (same_row row held found there stands) same))
news_is_live found device accounts n i (inr (inr (inl (row, there, own, unnamed)))) (inl absent) = absurd (absent row there)
news_is_live found device accounts n i (inr (inr (inl (row, there, own, unnamed)))) (inr (held, (stands, mine), differs, names)) =
    absurd (unnamed (subst (λ (r : ItemRow). Names i r) (sym (same_row row held found there stands)) names))
news_is_live found device accounts n i (inr (inr (inr x))) news = x

-- ---- no version of an account with one set is sealed again

abbrev Carries : Account → Version → Type 0
Carries a v = (k : ℕ) → IsUnder k v.body → (1 ≤ k) × (k ≤ length a.sets)

carried : (s : Ideal) → Reached s → Each (λ (a : Account). Each (Carries a) a.versions) s.accounts
carried s r =
    subst (λ (t : Ideal). Each (λ (a : Account). Each (Carries a) a.versions) t.accounts) (sym r.is) (carries_sets r.moves r.legal)

no_rewrap : (s : Ideal) → Reached s → (n : ℕ) (a : Account) → account_at n s.accounts ≡ Some a → length a.sets ≡ 1 → (i : Item) → ¬ (IsRewrap s.accounts n i)
no_rewrap s r n a at one i x =
    let own : x.account ≡ a = one_there x.account a (account_at n s.accounts) x.at at in
    let single : length x.account.sets ≡ 1 = ap (λ (b : Account). length b.sets) own ∙ one in
    let all : Each (Carries x.account) x.account.versions = each_at (λ (b : Account). Each (Carries b) b.versions) s.accounts n x.account (carried s r) x.at in
    let among = (last_among i.uuid x.account.versions x.version x.last).0 in
    let within = this_one (Carries x.account) x.account.versions x.version all among x.again.under
    (subst (λ (b : Body). IsUnder x.again.under b) (sym x.again.live) refl) in
    let low : 1 ≤ x.again.under = within.0 in
    let up : x.again.under ≤ length x.account.sets = within.1 in
    let last : x.again.under ≡ length x.account.sets = omega arith in
    x.again.behind last

-- ---- what the device's row stands on

no_stamp : (found : Option Value) → ((row : ItemRow) → ¬ (found ≡ Some (value.Item row))) → stamp_in found ≡ None
no_stamp (Some (value.Item row)) none = absurd (none row refl)
no_stamp (Some (value.Store row)) none = refl
no_stamp (Some (value.Account row)) none = refl
no_stamp (Some (value.Generation row)) none = refl
no_stamp (Some (value.Owner row)) none = refl
no_stamp (Some (value.Set row)) none = refl
no_stamp (Some (value.Local row)) none = refl
no_stamp None none = refl

unnamed : (text : Bytes) (found : Option Bytes) → found ≡ None → found ≡ Some text → ⊥
unnamed text found none e = cc

-- it is what was found, where an item stands that it stands on
stands_on : (found : Option Value) (n : ℕ) (i : Item) (base : Option ℕ) → IsNewsAt found n i → SaysBase base i.updated_at
    → ((stamp : ℕ) → base ≡ Some stamp → (row : ItemRow) × (found ≡ Some (value.Item row))) → base ≡ stamp_in found
stands_on found n i None (inl absent) knows stands = sym (no_stamp found absent)
stands_on found n i None (inr (held, (there, own), differs, names)) knows stands = absurd (unnamed names.0 i.updated_at knows names.2)
stands_on found n i (Some stamp) (inl absent) knows stands = let its = stands stamp refl in absurd (absent its.0 its.1)
stands_on found n i (Some stamp) (inr (held, (there, own), differs, names)) knows stands =
    let text : names.0 ≡ knows.0 = cc in
    let spelled : IsStampText knows.0 held.updated = subst (λ (t : Bytes). IsStampText t held.updated) text names.1 in
    ap Some (one_stamp knows.0 stamp held.updated knows.1 spelled) ∙ sym (ap stamp_in there)

-- ---- in the world

module _ (secret : Bytes) (w : World) (s : Ideal) (h : Holds secret w s) (name token : Bytes) (items : List Item)
    (x : HoldsSync secret w.server (w.devices name) s name token items) (n : ℕ) (session : IsSession w.server token n) where
  abbrev a : Account
  a = x.of_device.account

  abbrev d : Device
  d = x.of_device.device

  -- the token is of the account that it is the session of
  number_is : x.of_device.number ≡ n
  number_is =
      let b = session_account accounts_apart secret w s h token n session in
      same_owner secret token x.of_device.number n x.of_device.generation session.account.generation
      (few_numbers accounts_apart secret w s h x.of_device.number a x.of_device.at) (few_numbers accounts_apart secret w s h n b.0 b.1) x.of_device.is
      (session.is ∙ ap (λ (z : Bytes). session_token z n session.account.generation) (h.keeps_secret session.store session.stands))

  at : account_at n s.accounts ≡ Some a
  at = subst (λ (k : ℕ). account_at k s.accounts ≡ Some a) number_is x.of_device.at

  has : HasAccount s name d a
  has = device_account accounts_apart secret w s h name n a d at x.of_device.named x.of_device.own

  holder : ShowsHolder (w.devices name) s name d a
  holder = holder_of (w.devices name) s name d a (h.devices name) has

  -- what the device's row stands on is a version of its item, of which the server has a row
  has_row : (i : Item) (posted : IsPosted (w.devices name) i) (stamp : ℕ) → posted.local.base ≡ Some stamp
      → (row : ItemRow) × (w.server (key.Item i.uuid) ≡ Some (value.Item row))
  has_row i posted stamp is =
      let base : IsBase a (greatest 0 d.held) posted.local stamp =
      subst (λ (b : Option ℕ). ShowsBase a (greatest 0 d.held) posted.local b) is (holder.locals posted.number posted.local posted.stands).base in
      let last = has_last i.uuid a.versions base.listed.version base.listed.among (base.listed.item_is ∙ posted.uuid_is) in
      let its : ShowsItem w.server n a i.uuid last.0 = (h.server.all.each n a at).items i.uuid last.0 last.1 in
      (its.row, its.stands)

  ready : (i : Item) → LiveItem (w.server (key.Item i.uuid)) (w.devices name) s.accounts n i → generation_of (w.server (key.Account n)) ≡ 1
      → IsNewsAt (w.server (key.Item i.uuid)) n i → IsReady (w.server (key.Item i.uuid)) (w.devices name) i
  ready i live one news =
      ⊎_elim
      (λ (posted : IsPosted (w.devices name) i). record {
        posted = posted;
        base_is = stands_on (w.server (key.Item i.uuid)) n i posted.local.base news posted.base (has_row i posted);
      })
      (λ (again : IsRewrap s.accounts n i). absurd (no_rewrap s h.reached n a at (sym (last_number w.server s.accounts n n a h.server.all at refl) ∙ one) i again))
      (news_is_live (w.server (key.Item i.uuid)) (w.devices name) s.accounts n i live news)

  abbrev Waiting : ℕ → Item → Type 0
  Waiting last i = Waits w.server (w.devices name) n last i

  waits : (last : ℕ) (is : List Item) → Each (KnownBelow last) is → LiveItems w.server (w.devices name) s.accounts n is → Each (Waiting last) is
  waits last [] known live = tt
  waits last (i ∷ is) known live = ((known.0, ready i live.0), waits last is known.1 live.1)

  pub all_wait : (store : StoreRow) → HasStore w.server store → Each (Waiting store.last) items
  all_wait store stands =
      let last : store.last ≡ greatest 0 (stamps_in s.accounts) = (counts_of secret w s h store stands).last in
      waits store.last items (subst (λ (k : ℕ). Each (KnownBelow k) items) (sym last) x.known) (x.live n session)

-- ---- a sync that is served

module _ (server device : Rows) (store : StoreRow) (items : List Item) (now : ℕ) (changes : List Change) (given : Answer) where
  abbrev Lone : Type 0
  Lone = LoneChanges server device changes

  none_lone : changes ≡ [] → Lone
  none_lone none = subst (λ (cs : List Change). LoneChanges server device cs) (sym none) tt

  module _ (n : ℕ) (waits : Each (Waits server device n store.last) items) (limit : ℕ) (sync cursor : Option ℕ) where
    served_lone : ServesSync server store n items limit sync cursor now changes given → Lone
    served_lone (present, is, inl (out, refused)) = none_lone refused.0
    served_lone (present, is, inr y) =
        lone_all server device store y.end.changes y.end.last changes y.changes_are
        (lone_taken server device n store.last now present items (start server store) y.end refl refl refl waits y.taken)

    bounded_lone : ServesBounded server store n items limit sync cursor now changes given → Lone
    bounded_lone (inl (wide, refused)) = none_lone refused.0
    bounded_lone (inr (inl (few, uuid, size, long, refused))) = none_lone refused.0
    bounded_lone (inr (inr (few, short, y))) = served_lone y

  from_lone : (n : ℕ) → Each (Waits server device n store.last) items → (limit : ℕ) (sync_token cursor_token : Option Bytes)
      → ServesFrom server store n items limit sync_token cursor_token now changes given → Lone
  from_lone n waits limit sync_token cursor_token (inl (bad, refused)) = none_lone refused.0
  from_lone n waits limit sync_token cursor_token (inr (inl (sync, is, bad, refused))) = none_lone refused.0
  from_lone n waits limit sync_token cursor_token (inr (inr (sync, cursor, is, is_too, y))) = bounded_lone n waits limit sync cursor y

  sync_lone : (token : Bytes) (limit : ℕ) (sync_token cursor_token : Option Bytes)
      → ((n : ℕ) → IsSession server token n → Each (Waits server device n store.last) items)
      → Syncs server store token items limit sync_token cursor_token now changes given → Lone
  sync_lone token limit sync_token cursor_token waits (inl (none, refused)) = none_lone refused.0
  sync_lone token limit sync_token cursor_token waits (inr (n, session, from)) = from_lone n (waits n session) limit sync_token cursor_token from

-- of a request
abbrev pub LoneIn : Rows → Rows → List Change → Request → Type 0
LoneIn server device changes (request.Register params pw) = Unit {0}
LoneIn server device changes (request.Params identifier) = Unit {0}
LoneIn server device changes (request.SignIn identifier pw) = Unit {0}
LoneIn server device changes (request.ChangePw token current pw cost nonce) = Unit {0}
LoneIn server device changes (request.Sync token items limit sync_token cursor_token) = LoneChanges server device changes

module _ (secret : Bytes) (w next : World) (s : Ideal) (h : Holds secret w s) (m : Made) (now : ℕ) (changes : List Change) (given : Answer)
    (serves : Serves w next m now changes given) where
  lone_by : (r : Request) → m.request ≡ r → RuleOf w.server serves.rule.0 r now changes given → LoneIn w.server (w.devices m.device) changes r
  lone_by (request.Register params pw) is rule = tt
  lone_by (request.Params identifier) is rule = tt
  lone_by (request.SignIn identifier pw) is rule = tt
  lone_by (request.ChangePw token current pw cost nonce) is rule = tt
  lone_by (request.Sync token items limit sync_token cursor_token) is rule =
      let x = h.syncs m token items serves.made (record { limit = limit; sync_token = sync_token; cursor_token = cursor_token; is = is }) in
      sync_lone w.server (w.devices m.device) serves.rule.0 items now changes given token limit sync_token cursor_token
      (λ n session. all_wait secret w s h m.device token items x n session serves.rule.0 serves.rule.1) rule

  lone_served : LoneIn w.server (w.devices m.device) changes m.request
  lone_served = lone_by m.request refl serves.rule.2

-- so what a batch says where each item of an account with one set is what the device has sent is what it says in the world
pub serving : (server device : Rows) (name : Bytes) (told : Option KeySet) (r : Request) (changes : List Change) (moves : List Move)
    → ((begins : Option KeySet) → IsBegunAs r begins told → LoneIn server device changes r → SaysRoute server device name begins r changes moves)
    → IsServing server device name told r changes moves
serving server device name told r changes moves says secret w next s m now given h server_is device_is name_is request_is begun serves =
    let there : LoneIn w.server (w.devices m.device) changes r =
    subst (λ (q : Request). LoneIn w.server (w.devices m.device) changes q) request_is (lone_served secret w next s h m now changes given serves) in
    let named : LoneIn w.server (w.devices name) changes r = subst (λ (o : Bytes). LoneIn w.server (w.devices o) changes r) name_is there in
    let own : LoneIn w.server device changes r = subst (λ (d : Rows). LoneIn w.server d changes r) device_is named in
    let lone : LoneIn server device changes r = subst (λ (o : Rows). LoneIn o device changes r) server_is own in
    subst (λ (q : Request). SaysRoute server device m.device m.begins q changes moves) (sym request_is)
    (subst (λ (o : Bytes). SaysRoute server device o m.begins r changes moves) (sym name_is) (says m.begins begun lone))

-- of a sync, whichever it is
pub serving_sync : (server device : Rows) (name : Bytes) (changes : List Change) (moves : List Move)
    → (LoneChanges server device changes → SaysChanges server device name changes moves) → (told : Option KeySet) (r : Request) → route_of r ≡ route.Sync
    → IsServing server device name told r changes moves
serving_sync server device name changes moves says told (request.Register params pw) on = absurd (let impossible : ⊥ = cc in impossible)
serving_sync server device name changes moves says told (request.Params identifier) on = absurd (let impossible : ⊥ = cc in impossible)
serving_sync server device name changes moves says told (request.SignIn identifier pw) on = absurd (let impossible : ⊥ = cc in impossible)
serving_sync server device name changes moves says told (request.ChangePw token current pw cost nonce) on = absurd (let impossible : ⊥ = cc in impossible)
serving_sync server device name changes moves says told (request.Sync token items limit sync_token cursor_token) on =
    serving server device name told (request.Sync token items limit sync_token cursor_token) changes moves (λ begins begun lone. says lone)
