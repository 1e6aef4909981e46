-- The server's first commit keeps the invariant.
use Rattle.std.proofs.Common.{◌≡◌, ℕ, zero, suc, List, [], ◌∷◌, length, Option, Some, None, refl, sym, ap, ◌∙◌, subst, arith}
use Rattle.sn_account.specs.Lookups.{HasStore}
use Rattle.sn_laws.specs.Lookups.{Bytes, greatest}
use Rattle.sn_laws.specs.declared.ideal.Account.{Account}
use Rattle.sn_laws.specs.declared.ideal.Ideal.{Ideal}
use Rattle.sn_account.proofs.Facts.{first_sound}
use Rattle.sn_account.specs.States.{first_rows}
use Rattle.sn_rows.specs.declared.key.Key.{Key}
use Rattle.sn_rows.specs.Facts.{put_apart, put_gives, put_here}
use Rattle.std.specs.Prelude.{IsSome, if◌then◌else◌}
use Rattle.sn_rows.specs.Table.{Rows, rows_after, same_key}
use Rattle.sn_rows.specs.declared.change.Change.{Change}
use Rattle.sn_rows.specs.declared.key.Key.TheVariants as key
use Rattle.sn_rows.specs.declared.server_rows.StoreRow.{StoreRow}
use Rattle.sn_rows.specs.declared.value.Value.{Value}
use Rattle.sn_rows.specs.declared.value.Value.TheVariants as value
use Rattle.sn_shows.specs.Laws.{StoreShows}
use Rattle.sn_sync.specs.Laws.{HasOneToken}
use Rattle.sn_shows.specs.Servers.{StandsForSome, ShowsStore, account_at, stamps_in}
use Rattle.sn_world.proofs.Frames.{ServerFrame, same_world, server_kept}
use Rattle.sn_world.specs.Laws.{KeptBy}
use Rattle.sn_world.proofs.ServedSync.{one_store}
use Rattle.sn_world.specs.First.{Starts}
use Rattle.sn_world.specs.Holds.{Holds}
use Rattle.sn_world.specs.Live.{LiveItem}
use Rattle.sn_world.specs.World.{World}

-- a server without a store's row has no accounts
no_accounts : (found : Option Value) (accounts : List Account) → ((store : StoreRow) → ¬ (found ≡ Some (value.Store store))) → ShowsStore found accounts → accounts ≡ []
no_accounts None accounts none shown = shown
no_accounts (Some v) accounts none shown = absurd (none shown.0 (ap Some shown.1))

pub nobody : (n : ℕ) (accounts : List Account) (a : Account) → accounts ≡ [] → account_at n accounts ≡ Some a → ⊥
nobody n accounts a empty at = here n (subst (λ (xs : List Account). account_at n xs ≡ Some a) empty at)
  where
    here : (m : ℕ) → account_at m [] ≡ Some a → ⊥
    here zero e = cc
    here (suc k) e = cc

none_there : (n : ℕ) → IsSome (account_at n []) → ⊥
none_there zero some = absurd (cc)
none_there (suc n) some = absurd (cc)

-- a row of the store is the store's
no_store : (found : Option Value) → ((store : StoreRow) → ¬ (found ≡ Some (value.Store store))) → (accounts : List Account) → ShowsStore found accounts
    → (v : Value) → found ≡ Some v → ⊥
no_store None none accounts shown v e = cc
no_store (Some w) none accounts shown v e = none shown.0 (ap Some shown.1)

module _ (one_token : HasOneToken) (law : StoreShows) (secret : Bytes) (w next : World) (s : Ideal) (changes : List Change) (h : Holds secret w s) (x : Starts w next secret changes) where
  abbrev server : Rows
  server = rows_after w.server (x.is.change ∷ [])

  empty : s.accounts ≡ []
  empty = no_accounts (w.server key.Store) s.accounts x.none h.server.store

  here : HasStore server x.is.store
  here = put_here w.server x.is.change key.Store (value.Store x.is.store) x.is.puts

  -- there was no row before
  nothing : (k : Key) (found : Option Value) → w.server k ≡ found → found ≡ None
  nothing k None e = refl
  nothing k (Some v) e =
      let cause : StandsForSome s.accounts k = h.server.all.no_other k (subst (λ (o : Option Value). IsSome o) (sym e) refl) in
      absurd (by k e (subst (λ (xs : List Account). StandsForSome xs k) empty cause))
    where
      by : (at : Key) → w.server at ≡ Some v → StandsForSome [] at → ⊥
      by key.Store there c = no_store (w.server key.Store) x.none s.accounts h.server.store v there
      by (key.Account n) there c = none_there n c
      by (key.Generation n g) there c = nobody n [] c.account refl c.at
      by (key.Item u) there c = nobody c.number [] c.account refl c.at
      by key.Owner there c = c
      by (key.Set slot) there c = c
      by (key.Local n) there c = c

  only_store : (k : Key) → server k ≡ first_rows x.is.store k
  only_store k =
      ap (λ (r : Rows). r k) (put_gives w.server x.is.change key.Store (value.Store x.is.store) x.is.puts)
      ∙ ap (λ (o : Option Value). if same_key key.Store k then Some (value.Store x.is.store) else o) (nothing k (w.server k) refl)

  frame : ServerFrame secret w server s s
  frame = record {
    reached = h.reached;
    few = h.few;
    keeps_secret = λ store stands. ap (λ (z : StoreRow). z.secret) (one_store store x.is.store (server key.Store) stands here) ∙ x.is.secret_is;
    shows = law w.server s.accounts x.is.change h.server.all (record {
      row = x.is.store;
      puts = x.is.puts;
      last = x.is.last ∙ ap (λ (xs : List Account). greatest 0 (stamps_in xs)) (sym empty);
      count = x.is.accounts ∙ ap (λ (xs : List Account). length xs) (sym empty);
    });
    sound = λ store stands. first_sound server x.is.store x.is.accounts only_store;
    devices = refl;
    shown = λ rows name k. k;
    numbers = λ rows name k numbers. numbers;
    accounts = λ n a at. absurd (nobody n s.accounts a empty at);
    last = let same : greatest 0 (stamps_in s.accounts) ≡ greatest 0 (stamps_in s.accounts) = refl in omega arith;
    session = λ name token n tok session. absurd (nobody tok.number s.accounts tok.account empty tok.at);
    lasts = λ n a uuid v at found within. (a, at, refl, found);
    older_stale = λ rows name k stale. stale;
    live = λ name token n tok session rows i below live.
        subst (λ (found : Option Value). LiveItem found rows s.accounts n i)
        (sym (put_apart w.server x.is.change key.Store (key.Item i.uuid) (value.Store x.is.store) x.is.puts refl)) live;
  }

  pub started : KeptBy secret next s []
  started = (
    tt,
    same_world secret next s server w.devices w.made (x.on.server ∙ ap (rows_after w.server) x.is.changes_are) x.on.devices x.on.made (server_kept one_token secret w server s s h frame),
  )
