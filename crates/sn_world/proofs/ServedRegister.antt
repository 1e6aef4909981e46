-- The serving of a registration keeps the invariant.
use Rattle.std.proofs.Common.{◌≡◌, ◌≢◌, ◌<◌, ◌≤◌, ◌+◌, ℕ, suc, List, [], ◌∷◌, ◌++◌, length, length-append, Option, Some, None, refl, sym, ap, ◌∙◌, subst, inl, inr, ⊎_elim, arith}
use Rattle.std.proofs.lemmas.Grind.{flat_map-append}
use Rattle.std.proofs.lemmas.List.{append-nil}
use Rattle.std.proofs.lemmas.List.Concat.{flat_map-cons}
use Rattle.std.specs.Prelude.{IsTrue, map}
use Rattle.sn_account.specs.Lookups.{HasStore, IsUnknown}
use Rattle.sn_account.specs.Rules.{BeginsAccount, Registers}
use Rattle.sn_account.specs.Rule.{Rule}
use Rattle.sn_account.specs.Sessions.{IsSession, account_uuid, session_token}
use Rattle.sn_account.specs.Sound.{IsSound as IsSoundServer, most_accounts, most_generations}
use Rattle.sn_keys.specs.Keys.{check_value}
use Rattle.sn_laws.proofs.Facts.{allowed_to, each_front, find_before, one_there}
use Rattle.sn_laws.specs.Each.{Each}
use Rattle.sn_laws.specs.Lookups.{Bytes, account_named, device_named, greatest, is_account, last_of}
use Rattle.sn_laws.specs.Moves.{after, allows}
use Rattle.sn_laws.specs.Relation.{IsOnLast}
use Rattle.sn_laws.specs.declared.ideal.Account.{Account}
use Rattle.sn_laws.specs.declared.ideal.Device.{Device}
use Rattle.sn_laws.specs.declared.ideal.Ideal.{Ideal}
use Rattle.sn_laws.specs.declared.ideal.Version.{Version}
use Rattle.sn_laws.specs.declared.moves.Move.{Move}
use Rattle.sn_laws.specs.declared.moves.Move.TheVariants.{Register}
use Rattle.sn_rows.specs.Facts.{neither_put, put_elsewhere, put_here}
use Rattle.sn_rows.specs.Table.{Puts, Rows, rows_after}
use Rattle.sn_rows.specs.declared.change.Change.{Change}
use Rattle.sn_rows.specs.declared.key.Key.TheVariants as key
use Rattle.sn_rows.specs.declared.server_rows.StoreRow.{StoreRow}
use Rattle.sn_rows.specs.declared.value.Value.{Value}
use Rattle.sn_rows.specs.declared.value.Value.TheVariants as value
use Rattle.sn_shows.proofs.Facts.{new_account}
use Rattle.sn_shows.specs.Devices.{ShowsDevice, ShowsDeviceAs}
use Rattle.sn_shows.specs.Laws.{HasAccount, RegisterKeeps, RegisteredShows, StoreShows}
use Rattle.sn_shows.specs.Servers.{account_at, stamps_in}
use Rattle.sn_string.specs.declared.params.KeySet.{KeySet}
use Rattle.sn_string.specs.declared.params.Params.{Params}
use Rattle.sn_sync.specs.declared.answer.Answer.{Answer}
use Rattle.sn_sync.specs.declared.answer.Answer.TheVariants as answer
use Rattle.sn_sync.specs.declared.request.Request.{Request}
use Rattle.sn_sync.specs.declared.request.Request.TheVariants as request
use Rattle.sn_sync.specs.declared.item.Item.{Item}
use Rattle.sn_world.proofs.Becoming.{rewrap_by}
use Rattle.sn_world.proofs.Frames.{ServerFrame, same_world, server_kept}
use Rattle.sn_world.proofs.Lasts.{each_at_number}
use Rattle.sn_world.proofs.ServedSync.{CountsOf, counts_of, one_store, unchanged}
use Rattle.sn_world.proofs.ShowsLemmas.{account_before, account_cases, account_last, number_within}
use Rattle.sn_world.proofs.Steps.{reached_more}
use Rattle.sn_world.proofs.Tokens.{same_owner}
use Rattle.sn_world.specs.Holds.{BeginsSet, HasToken, Holds, NumbersOf}
use Rattle.sn_world.specs.Committing.{MayBegin}
use Rattle.sn_world.specs.Laws.{KeptBy, RegisteredBegins}
use Rattle.sn_world.specs.Live.{LiveItem}
use Rattle.sn_world.specs.Serving.{registers_in}
use Rattle.sn_world.specs.World.{OnServer, World}
use Rattle.sn_sync.specs.Laws.{HasOneToken}

-- a new account has no stamps
same_stamps : (accounts : List Account) (identifier : Bytes) (set : KeySet) → stamps_in (accounts ++ new_account identifier set ∷ []) ≡ stamps_in accounts
same_stamps accounts identifier set =
    flat_map-append (λ (a : Account). map (λ (v : Version). v.stamp) a.versions) accounts (new_account identifier set ∷ [])
    ∙ ap (λ (xs : List ℕ). stamps_in accounts ++ xs) (flat_map-cons (λ (a : Account). map (λ (v : Version). v.stamp) a.versions) (new_account identifier set) [])
    ∙ append-nil (stamps_in accounts)

module _ (one_token : HasOneToken) (store_law : StoreShows) (register_law : RegisteredShows) (keeps_law : RegisterKeeps) (secret : Bytes) (w next : World) (s : Ideal) (h : Holds secret w s)
    (store : StoreRow) (stands : HasStore w.server store) (params : Params) (pw : Bytes) (changes : List Change) (given : Answer)
    (unknown : IsUnknown w.server params.identifier) (room : store.accounts < most_accounts) (x : BeginsAccount store params pw changes given)
    (set : KeySet) (params_are : params ≡ set.params) (pw_is : pw ≡ set.pw) (on : OnServer w next changes) (sound : IsSoundServer (rows_after w.server changes)) where
  abbrev identifier : Bytes
  identifier = params.identifier

  abbrev new : Account
  new = new_account identifier set

  abbrev later : Ideal
  later = after s (Register identifier set)

  abbrev n : ℕ
  n = suc store.accounts

  abbrev mid : Rows
  mid = rows_after w.server (x.account ∷ x.generation ∷ [])

  abbrev server : Rows
  server = rows_after mid (x.count ∷ [])

  counts : CountsOf store s
  counts = counts_of secret w s h store stands

  number_is : n ≡ length s.accounts + 1
  number_is = let is : store.accounts ≡ length s.accounts = counts.count in omega arith

  legal : IsTrue (allows s (Register identifier set))
  legal =
      allowed_to s (Register identifier set)
      (each_at_number (λ (a : Account). a.identifier ≢ identifier) s.accounts
      (λ k a at e. let its = (h.server.all.each k a at).identity in unknown k (its.row, its.stands, its.identifier ∙ e)))

  item_row : (u : Bytes) → server (key.Item u) ≡ w.server (key.Item u)
  item_row u =
      put_elsewhere mid x.count key.Store (key.Item u) (value.Store x.count_puts.row) x.count_puts.puts (λ e. cc)
      ∙ neither_put w.server x.account x.generation (key.Account n) (key.Generation n 1) (key.Item u) (value.Account x.account_puts.row)
      (value.Generation x.generation_puts.row) x.account_puts.puts x.generation_puts.puts (λ e. cc) (λ e. cc)

  account_row : (k : ℕ) → n ≢ k → server (key.Account k) ≡ w.server (key.Account k)
  account_row k apart =
      put_elsewhere mid x.count key.Store (key.Account k) (value.Store x.count_puts.row) x.count_puts.puts (λ e. cc)
      ∙ neither_put w.server x.account x.generation (key.Account n) (key.Generation n 1) (key.Account k) (value.Account x.account_puts.row)
      (value.Generation x.generation_puts.row) x.account_puts.puts x.generation_puts.puts (λ e. apart (cc)) (λ e. cc)

  here : HasStore server x.count_puts.row
  here = put_here mid x.count key.Store (value.Store x.count_puts.row) x.count_puts.puts

  secret_is : (other : StoreRow) → HasStore server other → other.secret ≡ secret
  secret_is other there =
      ap (λ (z : StoreRow). z.secret) (one_store other x.count_puts.row (server key.Store) there here) ∙ x.count_puts.secret ∙ h.keeps_secret store stands

  last_same : greatest 0 (stamps_in s.accounts) ≡ greatest 0 (stamps_in later.accounts)
  last_same = ap (greatest 0) (sym (same_stamps s.accounts identifier set))

  count_is : length later.accounts ≡ length s.accounts + 1
  count_is = length-append s.accounts (new ∷ [])

  -- the account of a device is as it was
  account_same : (rows : Rows) (name : Bytes) (d : Device) (a : Account) → ShowsDevice rows s name → HasAccount later name d a → HasAccount s name d a
  account_same rows name d a shows has =
      let shown : ShowsDeviceAs rows s name (Some d) = subst (λ (found : Option Device). ShowsDeviceAs rows s name found) has.device shows in
      let there : account_named later d.account ≡ Some shown.0 = find_before (is_account d.account) s.accounts (new ∷ []) shown.0 shown.1 in
      let same : shown.0 ≡ a = one_there shown.0 a (account_named later d.account) there has.account in
      record { device = has.device; account = subst (λ (b : Account). account_named s d.account ≡ Some b) same shown.1 }

  on_before : (a : Account) (uuid : Bytes) (base : Option ℕ) → IsOnLast later a uuid base → IsOnLast s a uuid base
  on_before a uuid None none = each_front (λ (b : Account). Each (λ (v : Version). v.uuid ≢ uuid) b.versions) s.accounts (new ∷ []) none
  on_before a uuid (Some stamp) last = last

  numbers : (rows : Rows) (name : Bytes) → ShowsDevice rows s name → NumbersOf s name → NumbersOf later name
  numbers rows name shows were d a has uuid draft at p is =
      let its = were d a (account_same rows name d a shows has) uuid draft at p is in
      (its.0, its.1, λ last. its.2 (on_before a draft.uuid draft.base last))

  session_before : (name token : Bytes) (k : ℕ) → HasToken secret s.accounts (device_named s name) token → IsSession server token k → IsSession w.server token k
  session_before name token k tok z = record {
    store = store;
    stands = stands;
    account = z.account;
    there = sym (account_row k apart) ∙ z.there;
    is = spelled ∙ ap (λ (c : Bytes). session_token c k z.account.generation) (sym (h.keeps_secret store stands));
  }
    where
      spelled : token ≡ session_token secret k z.account.generation
      spelled = z.is ∙ ap (λ (c : Bytes). session_token c k z.account.generation) (secret_is z.store z.stands)

      -- the new account's token was sent by nobody
      apart : n ≢ k
      apart e =
          let within : tok.number < length s.accounts + 1 = number_within s.accounts tok.number tok.account tok.at in
          let few : length s.accounts ≤ most_accounts = h.few.accounts_few in
          let is : n ≡ length s.accounts + 1 = number_is in
          let room_is : store.accounts < most_accounts = room in
          let same : tok.number ≡ k = same_owner secret token tok.number k tok.generation z.account.generation (omega arith) (omega arith) tok.is spelled in
          absurd (omega arith)

  -- an account that was there is as it was
  live_before : (found : Option Value) (rows : Rows) (k : ℕ) (i : Item) → LiveItem found rows s.accounts k i → LiveItem found rows later.accounts k i
  live_before found rows k i (inl others) = inl others
  live_before found rows k i (inr (inl same)) = inr (inl same)
  live_before found rows k i (inr (inr (inl passed))) = inr (inr (inl passed))
  live_before found rows k i (inr (inr (inr (inl posted)))) = inr (inr (inr (inl posted)))
  live_before found rows k i (inr (inr (inr (inr again)))) =
      inr (inr (inr (inr (rewrap_by s.accounts later.accounts k i again again.account (account_before s.accounts new k again.account again.at) refl refl))))

  frame : ServerFrame secret w server s later
  frame = record {
    reached = reached_more s (Register identifier set) h.reached legal;
    few = record {
      accounts_few = let is : length later.accounts ≡ length s.accounts + 1 = count_is in let more : n ≡ length s.accounts + 1 = number_is in
          let within : store.accounts < most_accounts = room in omega arith;
      sets_few = λ k a at.
          ⊎_elim (λ (old : account_at k s.accounts ≡ Some a). h.few.sets_few k a old)
          (λ (added : (k ≡ length s.accounts + 1) × (new ≡ a)).
          subst (λ (b : Account). length b.sets ≤ most_generations) added.1 (omega arith))
          (account_cases s.accounts new k a at);
    };
    keeps_secret = secret_is;
    shows = store_law mid later.accounts x.count
        (register_law w.server s identifier set x.account x.generation h.server.all (record {
          row = x.account_puts.row;
          account_puts = subst (λ (k : ℕ). Puts x.account (key.Account k) (value.Account x.account_puts.row)) number_is x.account_puts.puts;
          identifier_is = x.account_puts.identifier_is;
          first = x.account_puts.generation_is;
          check = x.account_puts.check_is ∙ ap check_value pw_is;
          params = x.generation_puts.row;
          generation_puts = subst (λ (k : ℕ). Puts x.generation (key.Generation k 1) (value.Generation x.generation_puts.row)) number_is x.generation_puts.puts;
          cost = x.generation_puts.cost_is ∙ ap (λ (p : Params). p.pw_cost) params_are;
          nonce = x.generation_puts.nonce_is ∙ ap (λ (p : Params). p.pw_nonce) params_are;
          own = ap (λ (p : Params). p.identifier) (sym params_are);
        }))
        (record {
          row = x.count_puts.row;
          puts = x.count_puts.puts;
          last = x.count_puts.last ∙ counts.last ∙ last_same;
          count = x.count_puts.accounts ∙ number_is ∙ sym count_is;
        });
    sound = λ other there. subst (λ (c : List Change). IsSoundServer (rows_after w.server c)) x.changes_are sound;
    devices = refl;
    shown = λ rows name k. keeps_law rows s name identifier set legal k;
    numbers = numbers;
    accounts = λ k a at. let same : length a.sets ≡ length a.sets = refl in (a, account_before s.accounts new k a at, refl, omega arith);
    last = let same : greatest 0 (stamps_in s.accounts) ≡ greatest 0 (stamps_in later.accounts) = last_same in omega arith;
    session = session_before;
    lasts = λ k b uuid v at found within.
        ⊎_elim (λ (old : account_at k s.accounts ≡ Some b). (b, old, refl, found))
        (λ (added : (k ≡ length s.accounts + 1) × (new ≡ b)).
        let none : None ≡ Some v = ap (λ (c : Account). last_of uuid c.versions) added.1 ∙ found in absurd (cc))
        (account_cases s.accounts new k b at);
    older_stale = λ rows name shows stale d a has. stale d a (account_same rows name d a shows has);
    live = λ name token k tok z rows i below live.
        subst (λ (found : Option Value). LiveItem found rows later.accounts k i) (sym (item_row i.uuid)) (live_before (w.server (key.Item i.uuid)) rows k i live);
  }

  pub registered : KeptBy secret next s (Register identifier set ∷ [])
  registered = (
    (legal, tt),
    same_world secret next later server w.devices w.made (on.server ∙ ap (rows_after w.server) x.changes_are) on.devices on.made
        (server_kept one_token secret w server s later h frame),
  )

idle : (secret : Bytes) (w next : World) (s : Ideal) (identifier : Bytes) (begins : Option KeySet) (changes : List Change) → Holds secret w s
    → OnServer w next changes → changes ≡ [] → KeptBy secret next s (registers_in identifier begins changes)
idle secret w next s identifier begins changes h on none =
    subst (λ (moves : List Move). KeptBy secret next s moves) (sym (ap (registers_in identifier begins) none ∙ of_none begins))
    (unchanged secret w next s changes h on none)
  where
    of_none : (o : Option KeySet) → registers_in identifier o [] ≡ []
    of_none None = refl
    of_none (Some set) = refl

-- a registration that is served
pub registers : HasOneToken → StoreShows → RegisteredShows → RegisterKeeps → (secret : Bytes) (w next : World) (s : Ideal) → Holds secret w s
    → (store : StoreRow) → HasStore w.server store → (params : Params) (pw : Bytes) (changes : List Change) (given : Answer) (begins : Option KeySet)
    → BeginsSet begins params pw → OnServer w next changes → IsSoundServer (rows_after w.server changes) → Registers w.server store params pw changes given
    → KeptBy secret next s (registers_in params.identifier begins changes)
registers one_token store_law register_law keeps_law secret w next s h store stands params pw changes given begins b on sound (inl (taken, refused)) =
    idle secret w next s params.identifier begins changes h on refused.0
registers one_token store_law register_law keeps_law secret w next s h store stands params pw changes given begins b on sound (inr (inl (unknown, full, refused))) =
    idle secret w next s params.identifier begins changes h on refused.0
registers one_token store_law register_law keeps_law secret w next s h store stands params pw changes given begins b on sound (inr (inr (unknown, room, x))) =
    subst (λ (o : Option KeySet). KeptBy secret next s (registers_in params.identifier o changes)) (sym b.is)
    (subst (λ (c : List Change). KeptBy secret next s (registers_in params.identifier (Some b.set) c)) (sym x.changes_are)
    (registered one_token store_law register_law keeps_law secret w next s h store stands params pw changes given unknown room x b.set b.params_are b.pw_is on sound))

-- the answer to it gives what a device may begin with
pub registered_begins : RegisteredBegins
registered_begins secret w next s m params pw now changes token identifier uuid set h x is begins =
    let rule : Rule w.server (request.Register params pw) now changes (answer.Account token identifier uuid) =
    subst (λ (r : Request). Rule w.server r now changes (answer.Account token identifier uuid)) is x.rule in
    by rule.0 rule.1 rule.2
  where
    by : (store : StoreRow) → HasStore w.server store → Registers w.server store params pw changes (answer.Account token identifier uuid)
        → MayBegin secret (after s (Register params.identifier set)) set uuid token
    by store stands (inl (taken, refused)) = let e = refused.1 in absurd (cc)
    by store stands (inr (inl (unknown, full, refused))) = let e = refused.1 in absurd (cc)
    by store stands (inr (inr (unknown, room, b))) =
        let count : store.accounts ≡ length s.accounts = (counts_of secret w s h store stands).count in
        let number : suc store.accounts ≡ length s.accounts + 1 = omega arith in
        let given = b.answers in
        let token_is : token ≡ session_token store.secret (suc store.accounts) 1 = cc in
        let uuid_is : uuid ≡ account_uuid (suc store.accounts) = cc in
        record {
          number = length s.accounts + 1;
          account = new_account params.identifier set;
          at = account_last s.accounts (new_account params.identifier set);
          last = refl;
          uuid_is = uuid_is ∙ ap account_uuid number;
          token_is = token_is ∙ ap (λ (c : Bytes). session_token c (suc store.accounts) 1) (h.keeps_secret store stands)
              ∙ ap (λ (k : ℕ). session_token secret k 1) number;
        }
