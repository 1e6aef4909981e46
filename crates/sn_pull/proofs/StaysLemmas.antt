-- What any request to the server leaves of a device that may pull.
use Rattle.std.proofs.Common.{◌≡◌, ◌⊎◌, ◌<◌, ◌≤◌, ℕ, suc, List, [], ◌∷◌, ◌++◌, Option, refl, sym, ap, ◌∙◌, subst, ⊎_elim, inl, inr, arith}
use Rattle.sn_account.specs.Incoming.{IsNews, Progress, PutsVersion, Takes, TakesAll, stamp_of}
use Rattle.sn_account.specs.Lookups.{HasItem as HasStored, HasStore}
use Rattle.sn_account.specs.Rule.{Rule, RuleOf}
use Rattle.sn_account.specs.Rules.{BeginsAccount, ChangesKeys, ChangesPassword, Registers, Replaces}
use Rattle.sn_account.specs.Sound.{IsSound as IsSoundServer}
use Rattle.sn_account.specs.Syncs.{AreChanges, Synced, Syncs, start}
use Rattle.sn_device.specs.States.{Bytes}
use Rattle.sn_pull.specs.Laws.{PullStays}
use Rattle.sn_pull.specs.Pulls.{BeginsAbove, BeginsFirst, IsOfAccount, IsTokenGiven}
use Rattle.sn_pull.proofs.RowLemmas.{after_append}
use Rattle.sn_rows.specs.Facts.{put_apart, put_here, put_or_not}
use Rattle.sn_rows.specs.Table.{Rows, rows_after}
use Rattle.sn_rows.specs.declared.change.Change.{Change}
use Rattle.sn_rows.specs.declared.device_rows.LocalItem.{LocalItem}
use Rattle.sn_rows.specs.declared.device_rows.OwnerRow.{OwnerRow}
use Rattle.sn_rows.specs.declared.key.Key.TheVariants as key
use Rattle.sn_rows.specs.declared.server_rows.AccountRow.{AccountRow}
use Rattle.sn_rows.specs.declared.server_rows.ItemRow.{ItemRow}
use Rattle.sn_rows.specs.declared.server_rows.StoreRow.{StoreRow}
use Rattle.sn_rows.specs.declared.value.Value.TheVariants as value
use Rattle.sn_string.specs.declared.params.Params.{Params}
use Rattle.sn_sync.specs.declared.answer.Answer.{Answer}
use Rattle.sn_sync.specs.declared.item.Item.{Item}
use Rattle.sn_sync.specs.declared.request.Request.{Request}
use Rattle.sn_sync.specs.declared.request.Request.TheVariants as request

-- ---- what a request makes of items

-- a version of the same account, past the last stamp before
abbrev pub Later : Rows → ℕ → Bytes → ItemRow → Type 0
Later rows last u v = (w : ItemRow) × HasStored rows u w × (w.account ≡ v.account) × (last < w.updated)

-- each version was there, or is past the last stamp before; and each that was there is, or has a later one in its place
pub record Moves (server after : Rows) (last : ℕ) : Type 0 where
  pub low : (u : Bytes) (v : ItemRow) → HasStored after u v → HasStored server u v ⊎ (last < v.updated)
  pub keeps : (u : Bytes) (v : ItemRow) → HasStored server u v → HasStored after u v ⊎ Later after last u v

same_moves : (server after : Rows) (last : ℕ) → ((u : Bytes) → after (key.Item u) ≡ server (key.Item u)) → Moves server after last
same_moves server after last same = record {
  low = λ u v has. inl (sym (same u) ∙ has);
  keeps = λ u v has. inl (same u ∙ has);
}

to_moves : (server between after : Rows) (last : ℕ) → ((u : Bytes) → after (key.Item u) ≡ between (key.Item u)) → Moves server between last
    → Moves server after last
to_moves server between after last same m = record {
  low = λ u v has. m.low u v (sym (same u) ∙ has);
  keeps = λ u v has. ⊎_elim (λ stays. inl (same u ∙ stays))
      (λ (later : Later between last u v). inr (later.0, same u ∙ later.1, later.2, later.3)) (m.keeps u v has);
}

-- ---- items that are taken

record Grows (server : Rows) (last : ℕ) (p : Progress) : Type 0 where
  rows_are : p.rows ≡ rows_after server p.changes
  up : last ≤ p.last
  moves : Moves server p.rows last

module _ (server : Rows) (last : ℕ) (present : Params) (now n : ℕ) where
  -- an accepted version
  module _ (p : Progress) (i : Item) (row : ItemRow) (c : Change) (g : Grows server last p) (puts : PutsVersion p n (stamp_of now p.last) i row c)
      (news : IsNews p n i) where
    abbrev taken : Rows
    taken = rows_after p.rows (c ∷ [])

    past : last < row.updated
    past = let up = g.up in let is = puts.updated in omega arith

    either : (u : Bytes) → (key.Item i.uuid ≡ key.Item u) ⊎ (taken (key.Item u) ≡ p.rows (key.Item u))
    either u = put_or_not p.rows c (key.Item i.uuid) (value.Item row) puts.puts (key.Item u)

    here : (u : Bytes) → key.Item i.uuid ≡ key.Item u → HasStored taken u row
    here u same = ap taken (sym same) ∙ put_here p.rows c (key.Item i.uuid) (value.Item row) puts.puts

    one_row : (u : Bytes) (v w : ItemRow) → HasStored taken u v → HasStored taken u w → v ≡ w
    one_row u v w h j = cc

    -- what stood under the uuid was of the account
    own : (u : Bytes) (v : ItemRow) → key.Item i.uuid ≡ key.Item u → HasStored p.rows u v → row.account ≡ v.account
    own u v same has =
        let there : HasStored p.rows i.uuid v = ap p.rows same ∙ has in
        ⊎_elim
        (λ absent. absurd (absent v there))
        (λ (held : (r : ItemRow) × (HasStored p.rows i.uuid r × (r.account ≡ n)) × _ × _).
        (let one : v ≡ held.0 = (let has_r = held.1.0 in cc) in puts.account ∙ sym (ap (λ (w : ItemRow). w.account) one ∙ held.1.1))) news

    taken_low : (u : Bytes) (v : ItemRow) → HasStored taken u v
        → ((key.Item i.uuid ≡ key.Item u) ⊎ (taken (key.Item u) ≡ p.rows (key.Item u))) → HasStored server u v ⊎ (last < v.updated)
    taken_low u v has (inl same) = inr (subst (λ (w : ItemRow). last < w.updated) (one_row u row v (here u same) has) past)
    taken_low u v has (inr off) = g.moves.low u v (sym off ∙ has)

    taken_keeps : (u : Bytes) (v : ItemRow) → HasStored p.rows u v ⊎ Later p.rows last u v
        → ((key.Item i.uuid ≡ key.Item u) ⊎ (taken (key.Item u) ≡ p.rows (key.Item u))) → HasStored taken u v ⊎ Later taken last u v
    taken_keeps u v (inl has) (inl same) = inr (row, here u same, own u v same has, past)
    taken_keeps u v (inl has) (inr off) = inl (off ∙ has)
    taken_keeps u v (inr (w, has, account, over)) (inl same) = inr (row, here u same, own u w same has ∙ account, past)
    taken_keeps u v (inr (w, has, account, over)) (inr off) = inr (w, off ∙ has, account, over)

    taken_moves : Moves server taken last
    taken_moves = record {
      low = λ u v has. taken_low u v has (either u);
      keeps = λ u v has. taken_keeps u v (g.moves.keeps u v has) (either u);
    }

    taken_rows : taken ≡ rows_after server (p.changes ++ c ∷ [])
    taken_rows = ap (λ (r : Rows). rows_after r (c ∷ [])) g.rows_are ∙ sym (after_append server p.changes (c ∷ []))

    taken_up : last ≤ stamp_of now p.last
    taken_up = let up = g.up in omega arith

  abbrev Grown : Progress → Type 0
  Grown p = Grows server last p

  takes_grow : (p : Progress) (i : Item) (q : Progress) → Grown p → Takes present now n p i q → Grown q
  takes_grow p i q g (inl x) = subst Grown (sym x.1) (record { rows_are = g.rows_are; up = g.up; moves = g.moves })
  takes_grow p i q g (inr (inl x)) = subst Grown (sym x.5) (record { rows_are = g.rows_are; up = g.up; moves = g.moves })
  takes_grow p i q g (inr (inr (inl x))) = subst Grown (sym x.6) (record { rows_are = g.rows_are; up = g.up; moves = g.moves })
  takes_grow p i q g (inr (inr (inr (inl x)))) = subst Grown (sym x.2) (record { rows_are = g.rows_are; up = g.up; moves = g.moves })
  takes_grow p i q g (inr (inr (inr (inr (free, bound, (row, c, given, puts, is_given, e)))))) =
      subst Grown (sym e) (record {
        rows_are = taken_rows p i row c g puts free.0;
        up = taken_up p i row c g puts free.0;
        moves = taken_moves p i row c g puts free.0;
      })

  all_grow : (p : Progress) (items : List Item) (q : Progress) → Grown p → TakesAll present now n p items q → Grown q
  all_grow p [] q g e = subst Grown (sym e) g
  all_grow p (i ∷ items) q g (inl (full, e)) = subst Grown (sym e) g
  all_grow p (i ∷ items) q g (inr (looked, (r, takes, later))) = all_grow r items q (takes_grow p i r g takes) later

-- ---- by route

-- what a request makes of items and of the last stamp
pub record Leaves (server after : Rows) (last : ℕ) : Type 0 where
  pub moves : Moves server after last
  pub rises : (store : StoreRow) → HasStore after store → last ≤ store.last

one_store : (rows : Rows) (a b : StoreRow) → HasStore rows a → HasStore rows b → a ≡ b
one_store rows a b h k = cc

module _ (server : Rows) (store : StoreRow) (has : HasStore server store) where
  abbrev Left : List Change → Type 0
  Left changes = Leaves server (rows_after server changes) store.last

  -- nothing is changed
  leaves_all : (changes : List Change) → changes ≡ [] → Left changes
  leaves_all changes none = subst Left (sym none) (record {
    moves = same_moves server server store.last (λ u. refl);
    rises = λ st stands. (let same = ap (λ (s : StoreRow). s.last) (one_store server store st has stands) in omega arith);
  })

  begins_leave : (params : Params) (pw : Bytes) (changes : List Change) (given : Answer) → BeginsAccount store params pw changes given → Left changes
  begins_leave params pw changes given b =
      let first : Rows = rows_after server (b.account ∷ []) in
      let second : Rows = rows_after first (b.generation ∷ []) in
      let third : Rows = rows_after second (b.count ∷ []) in
      subst Left (sym b.changes_are) (record {
        moves = same_moves server third store.last (λ u.
            put_apart second b.count key.Store (key.Item u) (value.Store b.count_puts.row) b.count_puts.puts refl
            ∙ put_apart first b.generation (key.Generation (suc store.accounts) 1) (key.Item u) (value.Generation b.generation_puts.row) b.generation_puts.puts refl
            ∙ put_apart server b.account (key.Account (suc store.accounts)) (key.Item u) (value.Account b.account_puts.row) b.account_puts.puts refl);
        rises = λ st stands. (
            let there : HasStore third b.count_puts.row = put_here second b.count key.Store (value.Store b.count_puts.row) b.count_puts.puts in
            let same = ap (λ (s : StoreRow). s.last) (one_store third b.count_puts.row st there stands) in
            let kept = b.count_puts.last in omega arith
            );
      })

  registers_leave : (params : Params) (pw : Bytes) (changes : List Change) (given : Answer) → Registers server store params pw changes given → Left changes
  registers_leave params pw changes given (inl (named, refused)) = leaves_all changes refused.0
  registers_leave params pw changes given (inr (inl (unknown, full, refused))) = leaves_all changes refused.0
  registers_leave params pw changes given (inr (inr (unknown, room, b))) = begins_leave params pw changes given b

  replaces_leave : (n : ℕ) (a : AccountRow) (pw : Bytes) (cost : ℕ) (nonce : Bytes) (changes : List Change) (given : Answer)
      → Replaces store n a pw cost nonce changes given → Left changes
  replaces_leave n a pw cost nonce changes given b =
      let first : Rows = rows_after server (b.account ∷ []) in
      let second : Rows = rows_after first (b.generation ∷ []) in
      let apart : second key.Store ≡ server key.Store =
      put_apart first b.generation (key.Generation n (suc a.generation)) key.Store (value.Generation b.generation_puts.row) b.generation_puts.puts refl
      ∙ put_apart server b.account (key.Account n) key.Store (value.Account b.account_puts.row) b.account_puts.puts refl in
      subst Left (sym b.changes_are) (record {
        moves = same_moves server second store.last (λ u.
            put_apart first b.generation (key.Generation n (suc a.generation)) (key.Item u) (value.Generation b.generation_puts.row) b.generation_puts.puts refl
            ∙ put_apart server b.account (key.Account n) (key.Item u) (value.Account b.account_puts.row) b.account_puts.puts refl);
        rises = λ st stands. (let same = ap (λ (s : StoreRow). s.last) (one_store server store st has (sym apart ∙ stands)) in omega arith);
      })

  keys_leave : (n : ℕ) (a : AccountRow) (present : Params) (pw : Bytes) (cost : ℕ) (nonce : Bytes) (changes : List Change) (given : Answer)
      → ChangesKeys server store n a present pw cost nonce changes given → Left changes
  keys_leave n a present pw cost nonce changes given (inl (u, least, refused)) = leaves_all changes refused.0
  keys_leave n a present pw cost nonce changes given (inr (inl (none, used, refused))) = leaves_all changes refused.0
  keys_leave n a present pw cost nonce changes given (inr (inr (inl (none, fresh, full, refused)))) = leaves_all changes refused.0
  keys_leave n a present pw cost nonce changes given (inr (inr (inr (none, fresh, room, b)))) = replaces_leave n a pw cost nonce changes given b

  changes_leave : (token current pw : Bytes) (cost : ℕ) (nonce : Bytes) (changes : List Change) (given : Answer)
      → ChangesPassword server store token current pw cost nonce changes given → Left changes
  changes_leave token current pw cost nonce changes given (inl (none, refused)) = leaves_all changes refused.0
  changes_leave token current pw cost nonce changes given (inr (inl (n, a, session, there, wrong, refused))) = leaves_all changes refused.0
  changes_leave token current pw cost nonce changes given (inr (inr (n, a, present, session, there, right, is, keys))) =
      keys_leave n a present pw cost nonce changes given keys

  synced_leaves : (n : ℕ) (present : Params) (items : List Item) (limit : ℕ) (from cursor : Option ℕ) (now : ℕ) (changes : List Change) (given : Answer)
      → Synced server store n present items limit from cursor now changes given → Left changes
  synced_leaves n present items limit from cursor now changes given s = by_changes s.changes_are
    where
      grown : Grows server store.last s.end
      grown = all_grow server store.last present now n (start server store) items s.end
          (record { rows_are = refl; up = omega arith; moves = same_moves server server store.last (λ u. refl) }) s.taken

      by_changes : AreChanges store s.end.changes s.end.last changes → Left changes
      by_changes (inl (none, e)) = leaves_all changes e
      by_changes (inr (some, (c, row, puts, secret, accounts, last, e))) =
          let up = grown.up in
          subst Left (sym e) (record {
            moves = to_moves server s.end.rows (rows_after server (s.end.changes ++ c ∷ [])) store.last (λ u.
                ap (λ (r : Rows). r (key.Item u)) (after_append server s.end.changes (c ∷ []))
                ∙ put_apart (rows_after server s.end.changes) c key.Store (key.Item u) (value.Store row) puts refl
                ∙ ap (λ (r : Rows). r (key.Item u)) (sym grown.rows_are)) grown.moves;
            rises = λ st stands. (
                let there : HasStore (rows_after server (s.end.changes ++ c ∷ [])) row =
                ap (λ (r : Rows). r key.Store) (after_append server s.end.changes (c ∷ []))
                ∙ put_here (rows_after server s.end.changes) c key.Store (value.Store row) puts in
                let same = ap (λ (x : StoreRow). x.last) (one_store (rows_after server (s.end.changes ++ c ∷ [])) row st there stands) in
                omega arith
                );
          })

  syncs_leave : (token : Bytes) (items : List Item) (limit : ℕ) (st ct : Option Bytes) (now : ℕ) (changes : List Change) (given : Answer)
      → Syncs server store token items limit st ct now changes given → Left changes
  syncs_leave token items limit st ct now changes given (inl (none, refused)) = leaves_all changes refused.0
  syncs_leave token items limit st ct now changes given (inr (m, session, inl (bad, refused))) = leaves_all changes refused.0
  syncs_leave token items limit st ct now changes given (inr (m, session, inr (inl (from, is, bad, refused)))) = leaves_all changes refused.0
  syncs_leave token items limit st ct now changes given (inr (m, session, inr (inr (from, at, is, at_is, inl (wide, refused))))) = leaves_all changes refused.0
  syncs_leave token items limit st ct now changes given (inr (m, session, inr (inr (from, at, is, at_is, inr (inl (few, uuid, size, long, refused)))))) =
      leaves_all changes refused.0
  syncs_leave token items limit st ct now changes given
      (inr (m, session, inr (inr (from, at, is, at_is, inr (inr (few, short, (present, stands, inl (out, refused)))))))) = leaves_all changes refused.0
  syncs_leave token items limit st ct now changes given
      (inr (m, session, inr (inr (from, at, is, at_is, inr (inr (few, short, (present, stands, inr s))))))) =
      synced_leaves m present items limit from at now changes given s

pub rule_leaves : (server : Rows) (store : StoreRow) (r : Request) (now : ℕ) (changes : List Change) (given : Answer) → HasStore server store
    → Rule server r now changes given → Leaves server (rows_after server changes) store.last
rule_leaves server store r now changes given has (other, other_has, rule) = by_route r (subst (λ (s : StoreRow). RuleOf server s r now changes given)
    (one_store server other store other_has has) rule)
  where
    by_route : (q : Request) → RuleOf server store q now changes given → Leaves server (rows_after server changes) store.last
    by_route (request.Register params pw) rule_of = registers_leave server store has params pw changes given rule_of
    by_route (request.Params identifier) rule_of = leaves_all server store has changes rule_of.0
    by_route (request.SignIn identifier pw) rule_of = leaves_all server store has changes rule_of.0
    by_route (request.ChangePw token current pw cost nonce) rule_of = changes_leave server store has token current pw cost nonce changes given rule_of
    by_route (request.Sync token items limit st ct) rule_of = syncs_leave server store has token items limit st ct now changes given rule_of

-- ---- a device that may pull

module _ (server after rows : Rows) (n : ℕ) (owner : OwnerRow) (sound : IsSoundServer server) (leaves : Leaves server after sound.store.last) where
  of_account_after : (local : LocalItem) → IsOfAccount server n local → IsOfAccount after n local
  of_account_after local a = ⊎_elim
      (λ stays. record { version = a.version; there = (stays, a.there.1); not_below = a.not_below; level = a.level })
      (λ (later : Later after sound.store.last local.uuid a.version). record {
        version = later.0;
        there = (later.1, later.2 ∙ a.there.1);
        not_below = λ base stands.
            (let low = a.not_below base stands in let given = (sound.items local.uuid a.version a.there.0).given in let over = later.3 in omega arith);
        level = λ stands. absurd
            (let low = a.not_below later.0.updated stands in let given = (sound.items local.uuid a.version a.there.0).given in let over = later.3 in omega arith);
      })
      (leaves.moves.keeps local.uuid a.version a.there.0)

  pub begins_after : IsTokenGiven server owner → BeginsFirst rows owner ⊎ BeginsAbove server rows n owner → BeginsFirst rows owner ⊎ BeginsAbove after rows n owner
  begins_after given (inl b) = inl b
  begins_after given (inr b) = inr (record {
    stamp = b.stamp;
    token_is = b.token_is;
    cursor_is = b.cursor_is;
    pulled = λ uuid version has upto. ⊎_elim
        (λ old. b.pulled uuid version (old, has.1) upto)
        (λ over. absurd (let bound = given sound.store b.stamp sound.stands b.token_is in omega arith))
        (leaves.moves.low uuid version has.0);
    of_account = λ number local has. of_account_after local (b.of_account number local has);
  })

pub pull_stays : PullStays
pull_stays server rows n owner sets r now changes given sound may token_given rule session =
    let leaves = rule_leaves server sound.store r now changes given sound.stands rule in
    let after : Rows = rows_after server changes in (
      record {
        holds = may.holds;
        session = session;
        no_older = may.no_older;
        no_asked = may.no_asked;
        none_waits = may.none_waits;
        account_fits = may.account_fits;
        begins = begins_after server after rows n owner sound leaves token_given may.begins;
      },
      λ store stamp has is. (let before = token_given sound.store stamp sound.stands is in let up = leaves.rises store has in omega arith),
    )
