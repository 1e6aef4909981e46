-- The serving of a sync keeps the invariant.
use Rattle.std.proofs.Common.{◌≡◌, ◌≢◌, ◌≤◌, ℕ, List, [], ◌∷◌, ◌++◌, length, Option, Some, false, refl, sym, ap, ◌∙◌, subst, inl, inr, ⊎_elim, arith}
use mathlib.Core.Path.{fun_ext}
use Rattle.std.proofs.lemmas.List.{append-nil}
use Rattle.sn_account.specs.Lookups.{HasStore}
use Rattle.sn_account.specs.Sessions.{IsSession, session_token}
use Rattle.sn_account.specs.Sound.{IsSound as IsSoundServer}
use Rattle.sn_account.specs.Syncs.{Serves as ServesSync, ServesBounded, ServesFrom, Synced, Syncs, start}
use Rattle.sn_laws.specs.Each.{Each}
use Rattle.sn_laws.specs.Lookups.{Bytes, device_named, greatest}
use Rattle.sn_laws.specs.Runs.{end_from}
use Rattle.sn_laws.specs.declared.ideal.Account.{Account}
use Rattle.sn_laws.specs.declared.ideal.Device.{Device}
use Rattle.sn_laws.specs.declared.ideal.Ideal.{Ideal}
use Rattle.sn_laws.specs.declared.moves.Move.{Move}
use Rattle.sn_rows.specs.Facts.{put_apart, put_here, row_after-append}
use Rattle.sn_rows.specs.Table.{Puts, Rows, rows_after, same_key}
use Rattle.sn_rows.specs.declared.change.Change.{Change}
use Rattle.sn_rows.specs.declared.key.Key.{Key}
use Rattle.sn_rows.specs.declared.key.Key.TheVariants as key
use Rattle.sn_rows.specs.declared.server_rows.StoreRow.{StoreRow}
use Rattle.sn_rows.specs.declared.value.Value.{Value}
use Rattle.sn_rows.specs.declared.value.Value.TheVariants as value
use Rattle.sn_shows.specs.Laws.{HasAccount}
use Rattle.sn_shows.specs.Servers.{ShowsStore, account_at, stamps_in}
use Rattle.sn_string.specs.declared.params.KeySet.{KeySet}
use Rattle.sn_string.specs.declared.params.Params.{Params}
use Rattle.sn_sync.specs.declared.answer.Answer.{Answer}
use Rattle.sn_sync.specs.declared.item.Item.{Item}
use Rattle.sn_world.proofs.Frames.{ServerFrame, same_world, server_kept}
use Rattle.sn_world.proofs.Items.{Ran, takes_all}
use Rattle.sn_world.proofs.SaidChanges.{both_say, one_said, one_says, put_says}
use Rattle.sn_world.proofs.Steps.{Below}
use Rattle.sn_world.proofs.Tokens.{alive_last, device_account, token_session}
use Rattle.sn_world.specs.Holds.{HasToken, Holds, HoldsSync, TokensDiffer}
use Rattle.sn_world.specs.Laws.{KeptBy}
use Rattle.sn_world.specs.Live.{KnownBelow, LiveItem}
use Rattle.sn_world.specs.Serving.{SaysChanges}
use Rattle.sn_world.specs.World.{OnServer, World}

pub one_store : (x y : StoreRow) (found : Option Value) → found ≡ Some (value.Store x) → found ≡ Some (value.Store y) → x ≡ y
one_store x y found e k = cc

-- what the store's row says of the accounts
pub record CountsOf (store : StoreRow) (s : Ideal) : Type 0 where
  pub last : store.last ≡ greatest 0 (stamps_in s.accounts)
  pub count : store.accounts ≡ length s.accounts

pub counts_of : (secret : Bytes) (w : World) (s : Ideal) → Holds secret w s → (store : StoreRow) → HasStore w.server store → CountsOf store s
counts_of secret w s h store stands =
    let shown : ShowsStore (Some (value.Store store)) s.accounts = subst (λ (o : Option Value). ShowsStore o s.accounts) stands h.server.store in
    let same : shown.0 ≡ store = one_store shown.0 store (Some (value.Store store)) (ap Some shown.1) refl in
    record { last = ap (λ (x : StoreRow). x.last) (sym same) ∙ shown.2; count = ap (λ (x : StoreRow). x.accounts) (sym same) ∙ shown.3 }

-- where nothing is changed
pub unchanged : (secret : Bytes) (w next : World) (s : Ideal) (changes : List Change) → Holds secret w s → OnServer w next changes → changes ≡ [] → KeptBy secret next s []
unchanged secret w next s changes h on none =
    (tt, same_world secret next s w.server w.devices w.made (on.server ∙ ap (rows_after w.server) none) on.devices on.made h)

-- no change is no move
pub none_said : (server device : Rows) (name : Bytes) (changes : List Change) (moves : List Move) → changes ≡ []
    → SaysChanges server device name changes moves → moves ≡ []
none_said server device name changes moves none says = subst (λ (cs : List Change). SaysChanges server device name cs moves) none says

module _ (low : Below) (secret : Bytes) (w next : World) (s : Ideal) (differ : TokensDiffer secret) (h : Holds secret w s) (name token : Bytes) (items : List Item)
    (changes : List Change) (moves : List Move) (x : HoldsSync secret w.server (w.devices name) s name token items) (on : OnServer w next changes)
    (sound : IsSoundServer (rows_after w.server changes)) (says : SaysChanges w.server (w.devices name) name changes moves) where
  abbrev Kept : Type 0
  Kept = KeptBy secret next s moves

  idle : changes ≡ [] → Kept
  idle none =
      subst (λ (ms : List Move). KeptBy secret next s ms) (sym (none_said w.server (w.devices name) name changes moves none says))
      (unchanged secret w next s changes h on none)

  module _ (store : StoreRow) (stands : HasStore w.server store) (n now : ℕ) (session : IsSession w.server token n) (present : Params) (limit : ℕ)
      (sync_at cursor_at : Option ℕ) (given : Answer) (y : Synced w.server store n present items limit sync_at cursor_at now changes given) where
    abbrev tok : HasToken secret s.accounts (device_named s name) token
    tok = x.of_device

    abbrev d : Device
    d = tok.device

    abbrev a : Account
    a = tok.account

    same_numbers : (tok.number ≡ n) × (tok.generation ≡ session.account.generation)
    same_numbers = token_session low.apart secret w s h differ name token tok n session

    at : account_at n s.accounts ≡ Some a
    at = subst (λ (k : ℕ). account_at k s.accounts ≡ Some a) same_numbers.0 tok.at

    has : HasAccount s name d a
    has = device_account low.apart secret w s h name n a d at tok.named tok.own

    alive : greatest 0 d.held ≡ length a.sets
    alive = alive_last low.apart secret w s h differ name token tok n session

    counts : CountsOf store s
    counts = counts_of secret w s h store stands

    known : Each (KnownBelow store.last) items
    known = subst (λ (k : ℕ). Each (KnownBelow k) items) (sym counts.last) x.known

    ran : Ran (start w.server store) y.end (w.devices name) s name n a d
    ran = takes_all low items (start w.server store) y.end (w.devices name) s name n now present a d
        (record {
          reached = h.reached;
          accounts = h.server.all;
          last = counts.last;
          at = at;
          has = has;
          rows = h.devices name;
          sound = h.sound name;
          alive = alive;
          numbers = h.numbers name;
        })
        known (x.live n session) y.taken

    module _ (end : Change) (row : StoreRow) (puts : Puts end key.Store (value.Store row)) (secret_is : row.secret ≡ store.secret)
        (count_is : row.accounts ≡ store.accounts) (last_is : row.last ≡ y.end.last) (all : changes ≡ y.end.changes ++ end ∷ []) where
      abbrev later : Ideal
      later = end_from s ran.moves

      abbrev server : Rows
      server = rows_after y.end.rows (end ∷ [])

      server_is : next.server ≡ server
      server_is =
          on.server ∙ ap (rows_after w.server) (all ∙ ap (λ (c : List Change). c ++ end ∷ []) ran.changes)
          ∙ fun_ext (λ k. row_after-append (w.server k) k ran.made (end ∷ []))
          ∙ ap (λ (r : Rows). rows_after r (end ∷ [])) (sym ran.rows)

      elsewhere : (k : Key) → same_key key.Store k ≡ false → server k ≡ y.end.rows k
      elsewhere k off = put_apart y.end.rows end key.Store k (value.Store row) puts off

      here : HasStore server row
      here = put_here y.end.rows end key.Store (value.Store row) puts

      store_is : (other : StoreRow) → HasStore server other → other ≡ row
      store_is other stands_too = one_store other row (server key.Store) stands_too here

      frame : ServerFrame secret w server s later
      frame = record {
        reached = ran.serving.reached;
        few = ran.few h.few;
        keeps_secret = λ other stands_too. ap (λ (z : StoreRow). z.secret) (store_is other stands_too) ∙ secret_is ∙ h.keeps_secret store stands;
        shows = low.store y.end.rows later.accounts end ran.serving.accounts
            (record { row = row; puts = puts; last = last_is ∙ ran.serving.last; count = count_is ∙ counts.count ∙ sym ran.counted });
        sound = λ other stands_too. subst (λ (r : Rows). IsSoundServer r) (sym on.server ∙ server_is) sound;
        devices = ran.devices;
        shown = ran.keeps;
        numbers = ran.numbers;
        accounts = λ k b there.
            let c = ran.numbered k b there in
            let same : length c.0.sets ≡ length b.sets = ap (λ (sets : List KeySet). length sets) c.3 in
            (c.0, c.1, c.2, omega arith);
        last = let up : store.last ≤ y.end.last = ran.later in let from : store.last ≡ greatest 0 (stamps_in s.accounts) = counts.last in
            let to : y.end.last ≡ greatest 0 (stamps_in later.accounts) = ran.serving.last in omega arith;
        session = λ other t k tok_is z. record {
          store = store;
          stands = stands;
          account = z.account;
          there = sym (elsewhere (key.Account k) refl ∙ ran.spares k) ∙ z.there;
          is = z.is ∙ ap (λ (c : Bytes). session_token c k z.account.generation) (ap (λ (c : StoreRow). c.secret) (store_is z.store z.stands) ∙ secret_is);
        };
        lasts = ran.lasts;
        older_stale = λ rows other shows stale. ran.stale rows other stale;
        live = λ other t k tok_is z rows j below live.
            subst (λ (found : Option Value). LiveItem found rows later.accounts k j) (sym (elsewhere (key.Item j.uuid) refl))
            (ran.live j rows k (subst (λ (c : ℕ). KnownBelow c j) (sym counts.last) below) live);
      }

      -- the store's own row behind them is no move
      said : moves ≡ ran.moves
      said =
          one_said w.server (w.devices name) name changes moves ran.moves says
          (subst (λ (cs : List Change). SaysChanges w.server (w.devices name) name cs ran.moves)
          (sym (all ∙ ap (λ (c : List Change). c ++ end ∷ []) ran.changes))
          (subst (λ (ms : List Move). SaysChanges w.server (w.devices name) name (ran.made ++ end ∷ []) ms) (append-nil ran.moves)
          (both_say w.server (w.devices name) name ran.made (end ∷ []) ran.moves [] ran.says
          (one_says (rows_after w.server ran.made) (w.devices name) name end []
          (put_says (rows_after w.server ran.made) (w.devices name) name end key.Store (value.Store row) [] puts refl)))))

      kept : Kept
      kept =
          subst (λ (ms : List Move). KeptBy secret next s ms) (sym said)
          (ran.legal, same_world secret next later server w.devices w.made server_is on.devices on.made (server_kept low.one_token secret w server s later h frame))

    synced : Kept
    synced =
        ⊎_elim (λ (none : (y.end.changes ≡ []) × (changes ≡ [])). idle none.1)
        (λ (some : (y.end.changes ≢ []) × ((end : Change) × (row : StoreRow) × Puts end key.Store (value.Store row)
        × (row.secret ≡ store.secret) × (row.accounts ≡ store.accounts) × (row.last ≡ y.end.last) × (changes ≡ y.end.changes ++ end ∷ []))).
        let e = some.1 in
        kept e.0 e.1 e.2 e.3 e.4 e.5 e.6) y.changes_are

  pub syncs : (store : StoreRow) → HasStore w.server store → (limit now : ℕ) (sync_token cursor_token : Option Bytes) (given : Answer)
      → Syncs w.server store token items limit sync_token cursor_token now changes given → Kept
  syncs store stands limit now sync_token cursor_token given (inl (none, refused)) = idle refused.0
  syncs store stands limit now sync_token cursor_token given (inr (n, session, from)) = serves from
    where
      within : (sync_at cursor_at : Option ℕ) → ServesSync w.server store n items limit sync_at cursor_at now changes given → Kept
      within sync_at cursor_at (p, is, inl (out, refused)) = idle refused.0
      within sync_at cursor_at (p, is, inr y) = synced store stands n now session p limit sync_at cursor_at given y

      bounded : (sync_at cursor_at : Option ℕ) → ServesBounded w.server store n items limit sync_at cursor_at now changes given → Kept
      bounded sync_at cursor_at (inl (wide, refused)) = idle refused.0
      bounded sync_at cursor_at (inr (inl (few, uuid, size, long, refused))) = idle refused.0
      bounded sync_at cursor_at (inr (inr (few, short, y))) = within sync_at cursor_at y

      serves : ServesFrom w.server store n items limit sync_token cursor_token now changes given → Kept
      serves (inl (bad, refused)) = idle refused.0
      serves (inr (inl (sync_at, is_sync, bad, refused))) = idle refused.0
      serves (inr (inr (sync_at, cursor_at, is_sync, is_cursor, y))) = bounded sync_at cursor_at y
