-- Sound rows are sound after a sync.
use Rattle.std.proofs.Common.{◌≡◌, ◌≢◌, ◌≤◌, ℕ, List, [], ◌∷◌, ◌++◌, Option, Some, All, sym, ap, ◌∙◌, subst, inl, inr}
use mathlib.Core.Path.{fun_ext}
use Rattle.sn_rows.specs.Facts.{put_elsewhere, put_here, row_after-append}
use Rattle.sn_rows.specs.Kinds.{key_kind, value_kind}
use Rattle.sn_rows.specs.Table.{Puts, Rows, row_after, rows_after}
use Rattle.sn_rows.specs.declared.change.Change.{Change}
use Rattle.sn_rows.specs.declared.key.Key.{Key}
use Rattle.sn_rows.specs.declared.key.Key.TheVariants as key
use Rattle.sn_rows.specs.declared.kind.RowKind.TheVariants as kind
use Rattle.sn_rows.specs.declared.server_rows.AccountRow.{AccountRow}
use Rattle.sn_rows.specs.declared.server_rows.GenerationRow.{GenerationRow}
use Rattle.sn_rows.specs.declared.server_rows.ItemRow.{ItemRow}
use Rattle.sn_rows.specs.declared.server_rows.StoreRow.{StoreRow}
use Rattle.sn_rows.specs.declared.value.Value.{Value}
use Rattle.sn_rows.specs.declared.value.Value.TheVariants as value
use Rattle.sn_string.specs.declared.params.Params.{Params}
use Rattle.sn_sync.specs.Laws.{FitsSent}
use Rattle.sn_sync.specs.declared.answer.Answer.{Answer}
use Rattle.sn_sync.specs.declared.item.Item.{Item}
use Rattle.sn_account.specs.Lookups.{Bytes, HasAccount, HasGeneration, HasItem}
use Rattle.sn_account.specs.Sound.{IsSound, IsSoundItem, most_accounts}
use Rattle.sn_account.specs.Syncs.{AreChanges, Synced, start}
use Rattle.sn_account.proofs.SoundRegistering.{sound_unchanged}
use Rattle.sn_account.proofs.SyncSteps.{Items, Ran, ran_all}

-- the items of sound rows
pub items_of : (rows : Rows) (s : IsSound rows) (n : ℕ) → (a : AccountRow) × HasAccount rows n a → Items rows s.store.last n
items_of rows s n there = record {
  here = there;
  kinds = λ u v h. s.kinds (key.Item u) v h;
  named = s.named;
  owned = s.owned;
  sound = s.items;
  stamps = s.stamps;
}

-- the store's row is put behind the items
module _ (rows mid : Rows) (s : IsSound rows) (n last : ℕ) (spares : (k : Key) → key_kind k ≢ kind.Item → mid k ≡ rows k) (h : Items mid last n) (end : Change)
    (row : StoreRow) (puts : Puts end key.Store (value.Store row)) (accounts : row.accounts ≡ s.store.accounts) (last_is : row.last ≡ last) where
  abbrev now : Rows
  now = rows_after mid (end ∷ [])

  past : (k : Key) → key.Store ≢ k → now k ≡ mid k
  past k off = put_elsewhere mid end key.Store k (value.Store row) puts off

  stays : (k : Key) → key.Store ≢ k → key_kind k ≢ kind.Item → now k ≡ rows k
  stays k off no_item = past k off ∙ spares k no_item

  account_was : (m : ℕ) → now (key.Account m) ≡ rows (key.Account m)
  account_was m = stays (key.Account m) (λ e. cc) (λ e. cc)

  generation_was : (m g : ℕ) → now (key.Generation m g) ≡ rows (key.Generation m g)
  generation_was m g = stays (key.Generation m g) (λ e. cc) (λ e. cc)

  item_was : (u : Bytes) → now (key.Item u) ≡ mid (key.Item u)
  item_was u = past (key.Item u) (λ e. cc)

  its : (m : ℕ) (a : AccountRow) → HasAccount now m a → HasAccount rows m a
  its m a x = sym (account_was m) ∙ x

  its_generation : (m g : ℕ) (r : GenerationRow) → HasGeneration now m g r → HasGeneration rows m g r
  its_generation m g r x = sym (generation_was m g) ∙ x

  its_item : (u : Bytes) (i : ItemRow) → HasItem now u i → HasItem mid u i
  its_item u i x = sym (item_was u) ∙ x

  kinds_kept : (k : Key) (v : Value) → now k ≡ Some v → key_kind k ≡ value_kind v
  kinds_kept key.Store v x =
      let own : now key.Store ≡ Some (value.Store row) = put_here mid end key.Store (value.Store row) puts in
      let one : v ≡ value.Store row = cc in
      sym (ap value_kind one)
  kinds_kept (key.Item u) v x = h.kinds u v (sym (item_was u) ∙ x)
  kinds_kept (key.Account m) v x = s.kinds (key.Account m) v (sym (account_was m) ∙ x)
  kinds_kept (key.Generation m g) v x = s.kinds (key.Generation m g) v (sym (generation_was m g) ∙ x)
  kinds_kept key.Owner v x = s.kinds key.Owner v (sym (stays key.Owner (λ e. cc) (λ e. cc)) ∙ x)
  kinds_kept (key.Set slot) v x = s.kinds (key.Set slot) v (sym (stays (key.Set slot) (λ e. cc) (λ e. cc)) ∙ x)
  kinds_kept (key.Local m) v x = s.kinds (key.Local m) v (sym (stays (key.Local m) (λ e. cc) (λ e. cc)) ∙ x)

  accounts_kept : (m : ℕ) → 1 ≤ m → m ≤ row.accounts → (a : AccountRow) × HasAccount now m a
  accounts_kept m low high =
      let found : (a : AccountRow) × HasAccount rows m a = s.accounts m low (subst (λ (x : ℕ). m ≤ x) accounts high) in
      (found.0, account_was m ∙ found.1)

  params_kept : (m g : ℕ) (a : AccountRow) → HasAccount now m a → 1 ≤ g → g ≤ a.generation → (r : GenerationRow) × HasGeneration now m g r
  params_kept m g a x low high =
      let found : (r : GenerationRow) × HasGeneration rows m g r = s.params m g a (its m a x) low high in
      (found.0, generation_was m g ∙ found.1)

  no_more_kept : (m g : ℕ) (v : Value) → now (key.Generation m g) ≡ Some v → (a : AccountRow) × HasAccount now m a × (1 ≤ g) × (g ≤ a.generation)
  no_more_kept m g v x =
      let found : (a : AccountRow) × HasAccount rows m a × (1 ≤ g) × (g ≤ a.generation) = s.no_more m g v (sym (generation_was m g) ∙ x) in
      (found.0, account_was m ∙ found.1, found.2, found.3)

  owned_kept : (u : Bytes) (i : ItemRow) → HasItem now u i → (a : AccountRow) × HasAccount now i.account a
  owned_kept u i x =
      let found : (a : AccountRow) × HasAccount mid i.account a = h.owned u i (its_item u i x) in
      (found.0, past (key.Account i.account) (λ e. cc) ∙ found.1)

  pub stored_sound : IsSound now
  stored_sound = record {
    kinds = kinds_kept;
    store = row;
    stands = put_here mid end key.Store (value.Store row) puts;
    bound = subst (λ (x : ℕ). x ≤ most_accounts) (sym accounts) s.bound;
    accounts = accounts_kept;
    numbered = λ m v x. subst (λ (y : ℕ). (1 ≤ m) × (m ≤ y)) (sym accounts) (s.numbered m v (sym (account_was m) ∙ x));
    generation = λ m a x. s.generation m a (its m a x);
    apart = λ m p a b x y e. s.apart m p a b (its m a x) (its p b y) e;
    params = params_kept;
    no_more = no_more_kept;
    fresh = λ m g k r q x y e. s.fresh m g k r q (its_generation m g r x) (its_generation m k q y) e;
    named = λ u i x. h.named u i (its_item u i x);
    owned = owned_kept;
    items = λ u i x. subst (λ (y : ℕ). IsSoundItem y u i) (sym last_is) (h.sound u i (its_item u i x));
    stamps = λ u w i j x y e. h.stamps u w i j (its_item u i x) (its_item w j y) e;
  }

-- the rows after the items' changes and one more
pub rows_behind : (rows mid : Rows) (made changes : List Change) (end : Change) → ((k : Key) → mid k ≡ rows_after rows made k) → changes ≡ made ++ end ∷ []
    → rows_after rows changes ≡ rows_after mid (end ∷ [])
rows_behind rows mid made changes end are e = fun_ext at
  where
    at : (k : Key) → rows_after rows changes k ≡ rows_after mid (end ∷ []) k
    at k =
        ap (λ (cs : List Change). row_after (rows k) k cs) e
        ∙ row_after-append (rows k) k made (end ∷ [])
        ∙ ap (λ (o : Option Value). row_after o k (end ∷ [])) (sym (are k))

module _ (rows : Rows) (s : IsSound rows) (n : ℕ) (there : (a : AccountRow) × HasAccount rows n a) (present : Params) (items : List Item) (limit : ℕ)
    (sync cursor : Option ℕ) (now : ℕ) (changes : List Change) (given : Answer) (sized : All FitsSent items)
    (y : Synced rows s.store n present items limit sync cursor now changes given) where
  pub ran : Ran n (start rows s.store) y.end
  ran = ran_all n now present (start rows s.store) items y.end sized (items_of rows s n there) y.taken

  pub synced_sound : IsSound (rows_after rows changes)
  synced_sound = by_changes y.changes_are
    where
      by_changes : AreChanges s.store y.end.changes y.end.last changes → IsSound (rows_after rows changes)
      by_changes (inl (none, e)) = sound_unchanged rows changes s e
      by_changes (inr (some, (end, row, puts, secret, accounts, last_is, e))) =
          subst IsSound (sym (rows_behind rows y.end.rows ran.made changes end ran.rows (e ∙ ap (λ (cs : List Change). cs ++ end ∷ []) ran.changes)))
          (stored_sound rows y.end.rows s n y.end.last ran.spares ran.items end row puts accounts last_is)
