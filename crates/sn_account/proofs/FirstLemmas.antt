-- The rows of a server without accounts are sound.
use Rattle.std.proofs.Common.{arith, ap, sym, subst, ◌≡◌, ◌∙◌, ℕ, List, [], ◌∷◌, Some, Result, Ok, Err, IfOk}
use Rattle.std.proofs.lemmas.Result.{IfOk-weaker}
use Rattle.sn_rows.specs.Kinds.{key_kind, value_kind}
use Rattle.sn_rows.specs.Table.{Rows, rows_after}
use Rattle.sn_rows.specs.declared.change.Change.{Change}
use Rattle.sn_rows.specs.declared.key.Key.{Key}
use Rattle.sn_rows.specs.declared.key.Key.TheVariants as key
use Rattle.sn_rows.specs.declared.server_rows.StoreRow.{StoreRow}
use Rattle.sn_rows.specs.declared.value.Value.{Value}
use Rattle.sn_rows.specs.declared.value.Value.TheVariants as value
use Rattle.sn_account.specs.Sound.{IsSound}
use Rattle.sn_account.specs.States.{first_rows, listed, state_rows}
use Rattle.sn_account.specs.declared.state.State.{State}

-- its kind is its key's
first_kinds : (store : StoreRow) (k : Key) (v : Value) → first_rows store k ≡ Some v → key_kind k ≡ value_kind v
first_kinds store key.Store v is = let same : value.Store store ≡ v = cc in ap value_kind same
first_kinds store (key.Account n) v is = cc
first_kinds store (key.Generation n g) v is = cc
first_kinds store (key.Item u) v is = cc
first_kinds store key.Owner v is = cc
first_kinds store (key.Set s) v is = cc
first_kinds store (key.Local n) v is = cc

pub first_sound : (rows : Rows) (store : StoreRow) → store.accounts ≡ 0 → ((k : Key) → rows k ≡ first_rows store k) → IsSound rows
first_sound rows store none are = record {
  kinds = λ k v is. first_kinds store k v (sym (are k) ∙ is);
  store = store;
  stands = are key.Store;
  bound = omega arith;
  accounts = λ n from to. absurd (omega arith);
  numbered = λ n v is. (let no : first_rows store (key.Account n) ≡ Some v = sym (are (key.Account n)) ∙ is in cc);
  generation = λ n a is. (let no : first_rows store (key.Account n) ≡ Some (value.Account a) = sym (are (key.Account n)) ∙ is in cc);
  apart = λ n m a b is other same. (let no : first_rows store (key.Account n) ≡ Some (value.Account a) = sym (are (key.Account n)) ∙ is in cc);
  params = λ n g a is from to. (let no : first_rows store (key.Account n) ≡ Some (value.Account a) = sym (are (key.Account n)) ∙ is in cc);
  no_more = λ n g v is. (let no : first_rows store (key.Generation n g) ≡ Some v = sym (are (key.Generation n g)) ∙ is in cc);
  fresh = λ n g h r s is other same. (let no : first_rows store (key.Generation n g) ≡ Some (value.Generation r) = sym (are (key.Generation n g)) ∙ is in cc);
  named = λ u i is. (let no : first_rows store (key.Item u) ≡ Some (value.Item i) = sym (are (key.Item u)) ∙ is in cc);
  owned = λ u i is. (let no : first_rows store (key.Item u) ≡ Some (value.Item i) = sym (are (key.Item u)) ∙ is in cc);
  items = λ u i is. (let no : first_rows store (key.Item u) ≡ Some (value.Item i) = sym (are (key.Item u)) ∙ is in cc);
  stamps = λ u w i j is other same. (let no : first_rows store (key.Item u) ≡ Some (value.Item i) = sym (are (key.Item u)) ∙ is in cc);
}

-- so is the state of a list of it alone
pub sound_state : {E : Type 0} (store : StoreRow) (rows : List (Key × Value)) (result : Result State E) → store.accounts ≡ 0
    → rows ≡ (key.Store, value.Store store) ∷ [] → IfOk result (λ state. (k : Key) → state_rows state k ≡ listed rows k)
    → IfOk result (λ state. IsSound (state_rows state))
sound_state store rows result none is are =
    IfOk-weaker result (λ (state : State). (k : Key) → state_rows state k ≡ listed rows k) (λ (state : State). IsSound (state_rows state))
    (λ state own. first_sound (state_rows state) store none (λ k. own k ∙ ap (λ (r : List (Key × Value)). listed r k) is)) are

-- rows that are those after changes are sound where these are
pub sound_after : (rows middle other : Rows) (changes : List Change) → IsSound (rows_after rows changes)
    → ((k : Key) → middle k ≡ rows_after rows changes k) → ((k : Key) → other k ≡ middle k) → IsSound other
sound_after rows middle other changes s marked kept =
    let same : rows_after rows changes ≡ other = λ i k. sym (kept k ∙ marked k) i in
    subst IsSound same s

-- it has that row alone
pub alone_state : {E : Type 0} (secret : List ℕ) (store : StoreRow) (rows : List (Key × Value)) (result : Result State E) → store.secret ≡ secret
    → store.last ≡ 0 → store.accounts ≡ 0 → rows ≡ (key.Store, value.Store store) ∷ [] → IfOk result (λ state. (k : Key) → state_rows state k ≡ listed rows k)
    → IfOk result (λ state. (row : StoreRow) × (row.secret ≡ secret) × (row.last ≡ 0) × (row.accounts ≡ 0)
    × ((k : Key) → state_rows state k ≡ first_rows row k))
alone_state secret store rows (Ok state) secret_is last none is are =
    (store, secret_is, last, none, λ k. are k ∙ ap (λ (r : List (Key × Value)). listed r k) is)
alone_state secret store rows (Err e) secret_is last none is are = tt
