-- The rows of a list, and the changes that put them.
use Rattle.std.proofs.Common.{◌≡◌, true, false, List, [], ◌∷◌, ◌++◌, Option, Some, None, All, refl, sym, ap, ◌∙◌, ⊎_elim}
use Rattle.std.specs.Prelude.{if◌then◌else◌}
use Rattle.std.proofs.lemmas.Bool.{cases_Bool}
use Rattle.std.proofs.lemmas.List.Elements.{All-head, All-tail}
use Rattle.sn_account.specs.States.{listed_after}
use Rattle.sn_rows.specs.Table.{Puts, changed, row_after, same_key}
use Rattle.sn_rows.specs.declared.change.Change.{Change}
use Rattle.sn_rows.specs.declared.change.Change.TheVariants.{Put, Remove}
use Rattle.sn_rows.specs.declared.change.Row.{Row}
use Rattle.sn_rows.specs.declared.key.Key.{Key}
use Rattle.sn_rows.specs.declared.value.Value.{Value}
use Rattle.sn_rows.specs.Facts.{keys_compare, row_after-append}

listed_after-append : (found : Option Value) (key : Key) (first second : List (Key × Value)) → listed_after found key (first ++ second) ≡ listed_after (listed_after found key first) key second
listed_after-append found key [] second = refl
listed_after-append found key ((k, v) ∷ first) second = listed_after-append (if same_key k key then Some v else found) key first second

-- the changes put the rows, one by one
abbrev pub PutRows : List Change → List (Key × Value) → Type 0
PutRows changes rows = (found : Option Value) (key : Key) → row_after found key changes ≡ listed_after found key rows

pub one_put_more : (changes : List Change) (rows : List (Key × Value)) (row : Row) → PutRows changes rows → PutRows (changes ++ Put row ∷ []) (rows ++ (row.key, row.value) ∷ [])
one_put_more changes rows row same found key =
    row_after-append found key changes (Put row ∷ [])
    ∙ ap (λ (o : Option Value). if same_key row.key key then Some row.value else o) (same found key)
    ∙ sym (listed_after-append found key rows ((row.key, row.value) ∷ []))

-- what holds of the row before and of each that changes put under its key, holds of the row that they leave
pub left_or_put : (P : Value → Type 0) (k : Key) (found : Option Value) (changes : List Change) → ((v : Value) → found ≡ Some v → P v)
    → All (λ c. (v : Value) → Puts c k v → P v) changes → (v : Value) → row_after found k changes ≡ Some v → P v
left_or_put P k found [] before each v is = before v is
left_or_put P k found (c ∷ cs) before each v is =
    left_or_put P k (changed found k c) cs (here c (All-head (λ c. (v : Value) → Puts c k v → P v) c cs each))
    (All-tail (λ c. (v : Value) → Puts c k v → P v) c cs each) v is
  where
    here : (c : Change) → ((v : Value) → Puts c k v → P v) → (v : Value) → changed found k c ≡ Some v → P v
    here (Put r) one v left =
        ⊎_elim
        (λ (same : same_key r.key k ≡ true). let value_is : Some r.value ≡ Some v = sym (ap (λ t. if t then Some r.value else found) same) ∙ left in
        one v (record { key_is = (keys_compare r.key k).0 same; value_is = value_is }))
        (λ (apart : same_key r.key k ≡ false). before v (sym (ap (λ t. if t then Some r.value else found) apart) ∙ left))
        (cases_Bool (same_key r.key k))
    here (Remove at) one v left =
        ⊎_elim
        (λ (same : same_key at k ≡ true). let none : None ≡ Some v = sym (ap (λ t. if t then None else found) same) ∙ left in absurd cc)
        (λ (apart : same_key at k ≡ false). before v (sym (ap (λ t. if t then None else found) apart) ∙ left))
        (cases_Bool (same_key at k))
