-- Session tokens behind a change of password, and behind an item's row.
use Rattle.std.proofs.Common.{◌≡◌, ◌≢◌, ◌⊎◌, ◌∙◌, ℕ, ◌+◌, List, [], ◌∷◌, length, Option, Some, refl, sym, ap, subst, inl, inr}
use Rattle.sn_account.specs.Lookups.{HasStore}
use Rattle.sn_account.specs.Sessions.{IsSession, session_token}
use Rattle.sn_laws.specs.Lookups.{Bytes}
use Rattle.sn_laws.specs.declared.ideal.Account.{Account}
use Rattle.sn_rows.specs.Facts.{first_put, neither_put, put_apart}
use Rattle.sn_rows.specs.Table.{Rows, rows_after}
use Rattle.sn_rows.specs.declared.change.Change.{Change}
use Rattle.sn_rows.specs.declared.key.Key.{Key}
use Rattle.sn_rows.specs.declared.key.Key.TheVariants as key
use Rattle.sn_rows.specs.declared.server_rows.AccountRow.{AccountRow}
use Rattle.sn_rows.specs.declared.server_rows.StoreRow.{StoreRow}
use Rattle.sn_rows.specs.declared.value.Value.{Value}
use Rattle.sn_rows.specs.declared.value.Value.TheVariants as value
use Rattle.sn_shows.specs.Rekeying.{PutsGeneration}
use Rattle.sn_string.specs.declared.params.KeySet.{KeySet}
use Rattle.sn_changed.proofs.Found.{apart_numbers}
use Rattle.sn_changed.proofs.Holders.{one_account}
use Rattle.sn_changed.specs.Sessions.{ChangeSessions, ChangeSpares, IsSessionAfter, ItemSessions}

one_store : (x y : StoreRow) (found : Option Value) → found ≡ Some (value.Store x) → found ≡ Some (value.Store y) → x ≡ y
one_store x y found e k = cc

-- a session stays where the store's row and its account's do
pub session_kept : (rows later : Rows) (token : Bytes) (owner : ℕ) → later key.Store ≡ rows key.Store → later (key.Account owner) ≡ rows (key.Account owner)
    → IsSession rows token owner → IsSession later token owner
session_kept rows later token owner store_row account_row z = record {
  store = z.store;
  stands = store_row ∙ z.stands;
  account = z.account;
  there = account_row ∙ z.there;
  is = z.is;
}

module _ (rows : Rows) (number : ℕ) (a : Account) (set : KeySet) (account generation : Change) (puts : PutsGeneration account generation number a set) where
  abbrev later : Rows
  later = rows_after rows (account ∷ generation ∷ [])

  abbrev own_key : Key
  own_key = key.Account number

  abbrev set_key : Key
  set_key = key.Generation number (length a.sets + 1)

  spares : (k : Key) → own_key ≢ k → set_key ≢ k → later k ≡ rows k
  spares k off away =
      neither_put rows account generation own_key set_key k (value.Account puts.row) (value.Generation puts.params) puts.account_puts puts.generation_puts off away

  store_row : later key.Store ≡ rows key.Store
  store_row = spares key.Store (λ e. cc) (λ e. cc)

  other_row : (owner : ℕ) → owner ≢ number → later (key.Account owner) ≡ rows (key.Account owner)
  other_row owner differs = spares (key.Account owner) (λ e. differs (cc)) (λ e. cc)

  own_row : later own_key ≡ Some (value.Account puts.row)
  own_row =
      first_put rows account generation own_key set_key (value.Account puts.row) (value.Generation puts.params) puts.account_puts puts.generation_puts (λ e. cc)

  module _ (store : StoreRow) (stands : HasStore rows store) (token : Bytes) (owner : ℕ) where
    from_later : IsSession later token owner → IsSessionAfter rows store number a token owner
    from_later z = by (apart_numbers owner number)
      where
        store_is : z.store ≡ store
        store_is = one_store z.store store (later key.Store) z.stands (store_row ∙ stands)

        generation_is : owner ≡ number → z.account.generation ≡ length a.sets + 1
        generation_is own =
            let there : later own_key ≡ Some (value.Account z.account) = subst (λ (n : ℕ). later (key.Account n) ≡ Some (value.Account z.account)) own z.there in
            ap (λ (r : AccountRow). r.generation) (one_account z.account puts.row (later own_key) there own_row) ∙ puts.next

        spelled : owner ≡ number → token ≡ session_token store.secret number (length a.sets + 1)
        spelled own =
            z.is ∙ ap (λ (r : StoreRow). session_token r.secret owner z.account.generation) store_is
            ∙ ap (λ (g : ℕ). session_token store.secret owner g) (generation_is own)
            ∙ ap (λ (n : ℕ). session_token store.secret n (length a.sets + 1)) own

        by : (owner ≡ number) ⊎ (owner ≢ number) → IsSessionAfter rows store number a token owner
        by (inl own) = inr (own, spelled own)
        by (inr differs) = inl (differs, session_kept later rows token owner (sym store_row) (sym (other_row owner differs)) z)

    to_later : IsSessionAfter rows store number a token owner → IsSession later token owner
    to_later (inl (differs, z)) = session_kept rows later token owner store_row (other_row owner differs) z
    to_later (inr (own, is)) = record {
      store = store;
      stands = store_row ∙ stands;
      account = puts.row;
      there = ap (λ (n : ℕ). later (key.Account n)) own ∙ own_row;
      is = is ∙ ap (λ (n : ℕ). session_token store.secret n (length a.sets + 1)) (sym own)
          ∙ ap (λ (g : ℕ). session_token store.secret owner g) (sym puts.next);
    }

pub change_sessions : ChangeSessions
change_sessions rows store s token current set changes given stands x other owner = (
  λ z. from_later rows x.number x.account set x.account_put x.generation_put x.puts store stands other owner
      (subst (λ (c : List Change). IsSession (rows_after rows c) other owner) x.changes_are z),
  λ y. subst (λ (c : List Change). IsSession (rows_after rows c) other owner) (sym x.changes_are)
      (to_later rows x.number x.account set x.account_put x.generation_put x.puts store stands other owner y),
)

pub change_spares : ChangeSpares
change_spares rows store s token current set changes given x k off away =
    ap (λ (c : List Change). rows_after rows c k) x.changes_are
    ∙ spares rows x.number x.account set x.account_put x.generation_put x.puts k off away

pub item_sessions : ItemSessions
item_sessions rows uuid row change puts token owner = (
  λ z. session_kept (rows_after rows (change ∷ [])) rows token owner (sym store_row) (sym account_row) z,
  λ z. session_kept rows (rows_after rows (change ∷ [])) token owner store_row account_row z,
)
  where
    store_row : rows_after rows (change ∷ []) key.Store ≡ rows key.Store
    store_row = put_apart rows change (key.Item uuid) key.Store (value.Item row) puts refl

    account_row : rows_after rows (change ∷ []) (key.Account owner) ≡ rows (key.Account owner)
    account_row = put_apart rows change (key.Item uuid) (key.Account owner) (value.Item row) puts refl
