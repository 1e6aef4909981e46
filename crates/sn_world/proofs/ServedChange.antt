-- The serving of a change of password keeps the invariant.
use Rattle.std.proofs.Common.{◌≡◌, ◌≢◌, ◌⊎◌, ◌<◌, ◌≤◌, ◌+◌, ℕ, List, [], ◌∷◌, length, length-append, Option, Some, None, refl, sym, ap, ◌∙◌, subst, inl, inr, ⊎_elim, arith}
use Rattle.sn_account.specs.Lookups.{HasStore}
use Rattle.sn_account.specs.Rules.{ChangesPassword}
use Rattle.sn_account.specs.Sessions.{IsSession, session_token}
use Rattle.sn_account.specs.Sound.{IsSound as IsSoundServer, most_accounts, most_generations}
use Rattle.sn_adopted.specs.Moves.{OlderStale}
use Rattle.sn_changed.proofs.Facts.{is_one_of, named_one_of, was_one_of}
use Rattle.sn_changed.specs.Laws.{ChangeServed, IsAsked, IsChanged, IsRefused, next_set}
use Rattle.sn_changed.specs.Leaves.{ComesNext, OnlyBecomes, WasLast, with_set}
use Rattle.sn_changed.specs.Sessions.{IsSessionAfter}
use Rattle.sn_items.specs.declared.sealed.Sealed.{Sealed}
use Rattle.sn_laws.proofs.Facts.{allowed_from, one_there}
use Rattle.sn_laws.specs.Lookups.{Bytes, account_named, device_named, greatest}
use Rattle.sn_laws.specs.Moves.{after}
use Rattle.sn_laws.specs.Relation.{MayChange}
use Rattle.sn_laws.specs.declared.ideal.Account.{Account}
use Rattle.sn_laws.specs.declared.ideal.Ideal.{Ideal}
use Rattle.sn_laws.specs.declared.moves.Move.{Move}
use Rattle.sn_laws.specs.declared.moves.Move.TheVariants as move
use Rattle.sn_rows.specs.Table.{Puts, Rows, rows_after}
use Rattle.sn_rows.specs.declared.change.Change.{Change}
use Rattle.sn_rows.specs.declared.change.Change.TheVariants.{Put, Remove}
use Rattle.sn_rows.specs.declared.key.Key.{Key}
use Rattle.sn_rows.specs.declared.key.Key.TheVariants as key
use Rattle.sn_rows.specs.declared.key.Slot.TheVariants.{Older}
use Rattle.sn_rows.specs.declared.server_rows.StoreRow.{StoreRow}
use Rattle.sn_rows.specs.declared.value.Value.{Value}
use Rattle.sn_rows.specs.declared.value.Value.TheVariants as value
use Rattle.sn_shows.proofs.Facts.{holder_of}
use Rattle.sn_shows.specs.Devices.{ShowsDevice, ShowsHolder, ShowsOlder}
use Rattle.sn_shows.specs.Laws.{AccountsApart, AreApart, HasAccount}
use Rattle.sn_shows.specs.Servers.{account_at, stamps_in}
use Rattle.sn_shows.specs.Sets.{OpensUnder}
use Rattle.sn_string.specs.declared.params.KeySet.{KeySet}
use Rattle.sn_sync.specs.declared.answer.Answer.{Answer}
use Rattle.sn_sync.specs.declared.item.Item.{Item}
use Rattle.sn_world.proofs.Becoming.{numbers_by, older_by, rewrap_by, same_device}
use Rattle.sn_world.proofs.Frames.{LastsBefore, ServerFrame, StillAt, same_world, server_kept}
use Rattle.sn_world.proofs.ServedSync.{unchanged}
use Rattle.sn_world.proofs.Steps.{Below, reached_more}
use Rattle.sn_world.proofs.Tokens.{apart_of, device_account, few_numbers, held_within, same_owner, session_account, set_within}
use Rattle.sn_world.specs.Holds.{HasToken, Holds, HoldsChange, NumbersOf, StaleOf, TokensDiffer}
use Rattle.sn_world.specs.Laws.{KeptBy}
use Rattle.sn_world.specs.Live.{LiveItem}
use Rattle.sn_world.specs.Serving.{change_of, changes_in}
use Rattle.sn_world.specs.World.{OnServer, World}

-- ---- what is asked for, and by whom

module _ (apart_law : AccountsApart) (change_law : ChangeServed) (secret : Bytes) (w : World) (s : Ideal) (h : Holds secret w s) (begins : Option KeySet)
    (token current pw : Bytes) (cost : ℕ)
    (nonce : Bytes) (changes : List Change) (given : Answer) (x : HoldsChange secret s.accounts begins token pw cost nonce)
    (store : StoreRow) (stands : HasStore w.server store) (rule : ChangesPassword w.server store token current pw cost nonce changes given) where
  apart : AreApart s.accounts
  apart = apart_of apart_law s h.reached

  -- the account whose session the token is
  pub own_session : (number : ℕ) → IsSession w.server token number → x.number ≡ number
  own_session number session =
      let b = session_account apart_law secret w s h token number session in
      let spelled : token ≡ session_token secret number session.account.generation =
      session.is ∙ ap (λ (z : Bytes). session_token z number session.account.generation) (h.keeps_secret session.store session.stands) in
      same_owner secret token x.number number x.generation session.account.generation
      (few_numbers apart_law secret w s h x.number x.account x.at) (few_numbers apart_law secret w s h number b.0 b.1) x.token_is spelled

  asked : IsAsked w.server s.accounts token pw cost nonce x.set
  asked = record {
    pw_is = x.pw_is;
    cost_is = x.cost_is;
    nonce_is = x.nonce_is;
    own = λ number a session at.
        let same : x.account ≡ a =
        one_there x.account a (account_at number s.accounts)
        (subst (λ (k : ℕ). account_at k s.accounts ≡ Some x.account) (own_session number session) x.at) at in
        sym x.own ∙ ap (λ (b : Account). b.identifier) same;
  }

  pub outcome : IsSoundServer (rows_after w.server changes)
      × (IsRefused w.server s token current x.set changes given ⊎ IsChanged w.server store s token current x.set changes given)
  outcome =
      change_law w.server store s token current pw cost nonce x.set changes given
      (record { stands = stands; shows = h.server; sound = h.server_sound store stands; apart = apart }) asked rule

-- ---- where it is done

module _ (low : Below) (secret : Bytes) (w next : World) (s : Ideal) (differ : TokensDiffer secret) (h : Holds secret w s)
    (token current : Bytes) (set : KeySet)
    (changes : List Change) (given : Answer) (store : StoreRow) (stands : HasStore w.server store)
    (sound : IsSoundServer (rows_after w.server changes)) (y : IsChanged w.server store s token current set changes given) where
  abbrev number : ℕ
  number = y.number

  abbrev a : Account
  a = y.account

  abbrev server : Rows
  server = rows_after w.server changes

  abbrev later : Ideal
  later = after s (next_set a set)

  abbrev now : Account
  now = with_set set a

  pub leaves : OnlyBecomes s later number a now × ComesNext a.sets set
  leaves = low.change_leaves s number a set (apart_of low.apart s h.reached) y.holder.at

  abbrev only : OnlyBecomes s later number a now
  only = leaves.0

  may : MayChange s a.identifier (length a.sets + 1) set
  may = allowed_from s (next_set a set) y.allowed

  -- the account has room for one set more
  room : length a.sets < most_generations
  room =
      let same : may.account ≡ a = one_there may.account a (account_named s a.identifier) may.named only.was_named in
      subst (λ (b : Account). length b.sets < most_generations) same may.few

  longer : length now.sets ≡ length a.sets + 1
  longer = length-append a.sets (set ∷ [])

  elsewhere : (k : Key) → key.Account number ≢ k → key.Generation number (length a.sets + 1) ≢ k → server k ≡ w.server k
  elsewhere k off gone = low.change_spares w.server store s token current set changes given y k off gone

  store_row : server key.Store ≡ w.server key.Store
  store_row = elsewhere key.Store (λ e. cc) (λ e. cc)

  secret_is : store.secret ≡ secret
  secret_is = h.keeps_secret store stands

  behind : (t : Bytes) (owner : ℕ) → IsSession server t owner → IsSessionAfter w.server store number a t owner
  behind t owner session = (low.change_sessions w.server store s token current set changes given stands y t owner).0 session

  -- no token that was sent is of the new set
  unsent : (name t : Bytes) → HasToken secret s.accounts (device_named s name) t → t ≡ session_token store.secret number (length a.sets + 1) → ⊥
  unsent name t tok is =
      let spelled : t ≡ session_token secret number (length a.sets + 1) = is ∙ ap (λ (c : Bytes). session_token c number (length a.sets + 1)) secret_is in
      let few : tok.number ≤ most_accounts = few_numbers low.apart secret w s h tok.number tok.account tok.at in
      let few_too : number ≤ most_accounts = few_numbers low.apart secret w s h number a y.holder.at in
      let same : tok.number ≡ number = same_owner secret t tok.number number tok.generation (length a.sets + 1) few few_too tok.is spelled in
      let its : tok.account ≡ a =
      one_there tok.account a (account_at number s.accounts) (subst (λ (k : ℕ). account_at k s.accounts ≡ Some tok.account) same tok.at) y.holder.at in
      let has : HasAccount s name tok.device tok.account =
      device_account low.apart secret w s h name tok.number tok.account tok.device tok.at tok.named tok.own in
      let held : greatest 0 tok.device.held ≤ length tok.account.sets = held_within low.apart secret w s h name tok.device tok.account has in
      let up : tok.generation ≤ greatest 0 tok.device.held = tok.held in
      let as_many : length tok.account.sets ≡ length a.sets = ap (λ (b : Account). length b.sets) its in
      let space : length a.sets < most_generations = room in
      let alike : session_token secret number tok.generation ≡ session_token secret number (length a.sets + 1) =
      ap (λ (k : ℕ). session_token secret k tok.generation) (sym same) ∙ sym tok.is ∙ spelled in
      let equal : tok.generation ≡ length a.sets + 1 =
      differ number tok.generation (length a.sets + 1) few_too (omega arith) (omega arith) alike in
      absurd (omega arith)

  session_before : (name t : Bytes) (k : ℕ) → HasToken secret s.accounts (device_named s name) t → IsSession server t k → IsSession w.server t k
  session_before name t k tok session =
      ⊎_elim (λ (old : (k ≢ number) × IsSession w.server t k). old.1)
      (λ (new : (k ≡ number) × (t ≡ session_token store.secret number (length a.sets + 1))). absurd (unsent name t tok new.1)) (behind t k session)

  -- an account by its number is there, with no fewer sets
  still : (k : ℕ) (b : Account) → account_at k s.accounts ≡ Some b → StillAt later.accounts k b
  still k b at = by (was_one_of s later number a now only k b at)
    where
      by : ((k ≡ number) × (a ≡ b)) ⊎ ((k ≢ number) × (account_at k later.accounts ≡ Some b)) → StillAt later.accounts k b
      by (inl (own, is)) =
          let more : length now.sets ≡ length a.sets + 1 = longer in
          subst (λ (c : Account). StillAt later.accounts k c) is
          (now, subst (λ (j : ℕ). account_at j later.accounts ≡ Some now) (sym own) only.is, refl, omega arith)
      by (inr (differs, there)) = let same : length b.sets ≡ length b.sets = refl in (b, there, refl, omega arith)

  few_sets : (k : ℕ) (b : Account) → account_at k later.accounts ≡ Some b → length b.sets ≤ most_generations
  few_sets k b at = by (is_one_of s later number a now only k b at)
    where
      by : ((k ≡ number) × (now ≡ b)) ⊎ ((k ≢ number) × (account_at k s.accounts ≡ Some b)) → length b.sets ≤ most_generations
      by (inl (own, is)) =
          let more : length now.sets ≡ length a.sets + 1 = longer in
          let space : length a.sets < most_generations = room in
          subst (λ (c : Account). length c.sets ≤ most_generations) is (omega arith)
      by (inr (differs, there)) = h.few.sets_few k b there

  lasts : LastsBefore s.accounts later.accounts
  lasts k b uuid v at found within =
      let was : WasLast s k b.identifier uuid v = low.change_lasts s later number a set only k b uuid v at found in
      (was.account, was.at, was.own, was.last)

  numbers : (rows : Rows) (name : Bytes) → NumbersOf s name → NumbersOf later name
  numbers rows name were =
      numbers_by s later only.drafts only.devices (λ base. Unit {0}) rows name (low.change_on_last s later number a set only) (λ d b uuid e has at. tt) were

  -- what opens under a set that the account had opened under it
  opened : (older : ℕ) → older ≢ length a.sets + 1 → (uuid : Bytes) (sealed : Sealed) (text : Bytes) → OpensUnder now.sets older uuid sealed text
      → OpensUnder a.sets older uuid sealed text
  opened older before uuid sealed text opens = record { set = opens.set; at = sym (leaves.1.others older before) ∙ opens.at; opens = opens.opens }

  stale : (rows : Rows) (name : Bytes) → ShowsDevice rows s name → StaleOf rows s name → StaleOf rows later name
  stale rows name shows were d b has = by (named_one_of s later number a now only d.account b has.account)
    where
      device : device_named s name ≡ Some d
      device = sym (same_device s later only.drafts only.devices name) ∙ has.device

      older_within : (older present : ℕ) (found : Option Value) → ShowsOlder a found (older ∷ present ∷ []) → older ≢ length a.sets + 1
      older_within older present found shown is =
          let low_enough : older ≤ length a.sets = set_within older a.sets shown.2.set shown.2.at in absurd (omega arith)

      of : HasAccount s name d a → OlderStale rows now d.held
      of own =
          let holder : ShowsHolder rows s name d a = holder_of rows s name d a shows own in
          older_by rows a now d.held
          (λ older present held. opened older
          (older_within older present (rows (key.Set Older)) (subst (λ (ks : List ℕ). ShowsOlder a (rows (key.Set Older)) ks) held holder.older)))
          (were d a own)

      by : ((d.account ≡ a.identifier) × (now ≡ b)) ⊎ ((d.account ≢ a.identifier) × (account_named s d.account ≡ Some b)) → OlderStale rows b d.held
      by (inl (own, is)) =
          subst (λ (c : Account). OlderStale rows c d.held) is
          (of (record { device = device; account = subst (λ (i : Bytes). account_named s i ≡ Some a) (sym own) only.was_named }))
      by (inr (differs, named)) = were d b (record { device = device; account = named })

  -- no item's row is put, and what another account's token sent is what it was
  live_by : (k : ℕ) → k ≢ number → (found : Option Value) (rows : Rows) (i : Item) → LiveItem found rows s.accounts k i → LiveItem found rows later.accounts k i
  live_by k differs found rows i (inl others) = inl others
  live_by k differs found rows i (inr (inl same)) = inr (inl same)
  live_by k differs found rows i (inr (inr (inl passed))) = inr (inr (inl passed))
  live_by k differs found rows i (inr (inr (inr (inl posted)))) = inr (inr (inr (inl posted)))
  live_by k differs found rows i (inr (inr (inr (inr again)))) =
      inr (inr (inr (inr (rewrap_by s.accounts later.accounts k i again again.account (only.others k differs ∙ again.at) refl refl))))

  live : (name t : Bytes) (k : ℕ) → HasToken secret s.accounts (device_named s name) t → IsSession server t k → (rows : Rows) (i : Item)
      → LiveItem (w.server (key.Item i.uuid)) rows s.accounts k i → LiveItem (server (key.Item i.uuid)) rows later.accounts k i
  live name t k tok session rows i was =
      ⊎_elim
      (λ (old : (k ≢ number) × IsSession w.server t k).
      subst (λ (found : Option Value). LiveItem found rows later.accounts k i) (sym (elsewhere (key.Item i.uuid) (λ e. cc) (λ e. cc)))
      (live_by k old.0 (w.server (key.Item i.uuid)) rows i was))
      (λ (new : (k ≡ number) × (t ≡ session_token store.secret number (length a.sets + 1))). absurd (unsent name t tok new.1)) (behind t k session)

  frame : ServerFrame secret w server s later
  frame = record {
    reached = reached_more s (next_set a set) h.reached y.allowed;
    few = record { accounts_few = subst (λ (k : ℕ). k ≤ most_accounts) (sym only.counted) h.few.accounts_few; sets_few = few_sets };
    keeps_secret = λ other there. h.keeps_secret other (sym store_row ∙ there);
    shows = y.shows;
    sound = λ other there. sound;
    devices = only.devices;
    shown = λ rows name k. low.change_keeps rows s name a.identifier (length a.sets + 1) set k;
    numbers = λ rows name shows were. numbers rows name were;
    accounts = still;
    last = let same : greatest 0 (stamps_in later.accounts) ≡ greatest 0 (stamps_in s.accounts) = low.changed_last s a.identifier (length a.sets + 1) set in
        omega arith;
    session = session_before;
    lasts = lasts;
    older_stale = stale;
    live = λ name t k tok session rows i below was. live name t k tok session rows i was;
  }

  pub kept : OnServer w next changes → KeptBy secret next s (next_set a set ∷ [])
  kept on = (
    (y.allowed, tt),
    same_world secret next later server w.devices w.made on.server on.devices on.made (server_kept low.one_token secret w server s later h frame),
  )

-- ---- the moves

put_changes : (set : KeySet) (change : Change) (changes : List Change) (at : Key) (v : Value) → Puts change at v
    → changes_in (Some set) (change ∷ changes) ≡ change_of set at v
put_changes set (Put row) changes at v p =
    let e : row.value ≡ v = cc in
    ap (λ (k : Key). change_of set k row.value) p.key_is ∙ ap (λ (x : Value). change_of set at x) e
put_changes set (Remove k) changes at v p = absurd (cc)

none_changes : (begins : Option KeySet) (changes : List Change) → changes ≡ [] → changes_in begins changes ≡ []
none_changes None changes none = refl
none_changes (Some set) changes none = ap (λ (cs : List Change). changes_in (Some set) cs) none

pub said_changes : (rows : Rows) (store : StoreRow) (s : Ideal) (token current : Bytes) (set : KeySet) (changes : List Change) (given : Answer)
    → (y : IsChanged rows store s token current set changes given) → changes_in (Some set) changes ≡ next_set y.account set ∷ []
said_changes rows store s token current set changes given y =
    ap (λ (cs : List Change). changes_in (Some set) cs) y.changes_are
    ∙ put_changes set y.account_put (y.generation_put ∷ []) (key.Account y.number) (value.Account y.puts.row) y.puts.account_puts
    ∙ ap (λ (i : Bytes). move.Change i y.puts.row.generation set ∷ []) y.puts.identifier_is
    ∙ ap (λ (k : ℕ). move.Change y.account.identifier k set ∷ []) y.puts.next

-- a change of password that is served
pub changes_password : (low : Below) (secret : Bytes) (w next : World) (s : Ideal) → TokensDiffer secret → (h : Holds secret w s) (begins : Option KeySet)
    (token current pw : Bytes) (cost : ℕ) (nonce : Bytes) (changes : List Change) (given : Answer)
    → HoldsChange secret s.accounts begins token pw cost nonce → OnServer w next changes → (store : StoreRow) → HasStore w.server store
    → ChangesPassword w.server store token current pw cost nonce changes given → KeptBy secret next s (changes_in begins changes)
changes_password low secret w next s differ h begins token current pw cost nonce changes given x on store stands rule = by out.1
  where
    out : IsSoundServer (rows_after w.server changes)
        × (IsRefused w.server s token current x.set changes given ⊎ IsChanged w.server store s token current x.set changes given)
    out = outcome low.apart low.changed secret w s h begins token current pw cost nonce changes given x store stands rule

    idle : changes ≡ [] → KeptBy secret next s (changes_in begins changes)
    idle none =
        subst (λ (ms : List Move). KeptBy secret next s ms) (sym (none_changes begins changes none)) (unchanged secret w next s changes h on none)

    by : IsRefused w.server s token current x.set changes given ⊎ IsChanged w.server store s token current x.set changes given
        → KeptBy secret next s (changes_in begins changes)
    by (inl (inl (denied, bad))) = idle bad.0
    by (inl (inr (n, a, holder, check, refused, (tag, further, why)))) = idle why.0
    by (inr y) =
        subst (λ (o : Option KeySet). KeptBy secret next s (changes_in o changes)) (sym x.is)
        (subst (λ (ms : List Move). KeptBy secret next s ms) (sym (said_changes w.server store s token current x.set changes given y))
        (kept low secret w next s differ h token current x.set changes given store stands out.0 y on))
