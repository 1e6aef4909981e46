-- Where accounts stand by their identifiers, as changes come and go.
use Rattle.std.proofs.Common.{arith, below_more, ◌+◌, ◌<◌, ◌≤◌, ◌≡◌, ◌∙◌, ℕ, Bool, true, false, cond, List, [], ◌∷◌, ◌++◌, Option, Some, None, All, IsTrue, refl, sym, ap, subst, ⊎_elim, length, get_or}
use Rattle.std.specs.Prelude.{◌==◌, ◌↔◌}
use Rattle.std.specs.BTreeMap.{BTreeMap, get_by_text}
use Rattle.std.specs.List.{list_any}
use Rattle.std.specs.Map.{update}
use Rattle.std.specs.Option.{unwrap_or}
use Rattle.std.specs.Str.{bytes_eq}
use Rattle.std.specs.declared.string.String.{String}
use Rattle.std.proofs.lemmas.Bool.{cases_Bool, eqb-true}
use Rattle.std.proofs.lemmas.List.{get_or_default}
use Rattle.std.proofs.lemmas.List.Elements.{All-weaker}
use Rattle.std.proofs.lemmas.List.Folds.{Any-from_list_any, list_any-append}
use Rattle.std.proofs.lemmas.Slice.Eq.{bytes_eq-Decides}
use Rattle.sn_row_map.specs.RowMaps.{row_in}
use Rattle.sn_row_map.specs.declared.row_map.RowMap.{RowMap}
use Rattle.sn_rows.specs.Table.{Puts, row_after}
use Rattle.sn_rows.specs.declared.change.Change.{Change}
use Rattle.sn_rows.specs.declared.key.Key.{Key}
use Rattle.sn_rows.specs.declared.key.Key.TheVariants as key
use Rattle.sn_rows.specs.declared.server_rows.AccountRow.{AccountRow}
use Rattle.sn_rows.specs.declared.value.Value.{Value}
use Rattle.sn_rows.specs.declared.value.Value.TheVariants as value
use Rattle.sn_account.specs.Lookups.{Bytes, IsNamed, IsUnknown}
use Rattle.sn_account.specs.Names.{Lists, ListsChange, ListsRows, numbers_at}
use Rattle.sn_account.specs.States.{IsUnmarked, state_rows}
use Rattle.sn_account.specs.declared.names.Names.{Names}
use Rattle.sn_account.specs.declared.state.State.{State}
use Rattle.sn_account.proofs.BehindLemmas.{unmarked_rows}
use Rattle.sn_account.proofs.PutsLemmas.{left_or_put}

-- ---- one number more at one identifier

abbrev Has : {Y : Type 0} → BTreeMap (String Y) (List ℕ) → Bytes → ℕ → Type 0
Has entries identifier n = IsTrue (list_any (λ m. m == n) (numbers_at entries identifier))

-- the map with a number more at this identifier
abbrev pub IsWithNumber : {Y : Type 0} → BTreeMap (String Y) (List ℕ) → BTreeMap (String Y) (List ℕ) → Bytes → ℕ → Type 0
IsWithNumber old new identifier n =
    (other : Bytes) → get_by_text new other ≡ update bytes_eq (get_by_text old) identifier (Some (numbers_at old identifier ++ n ∷ [])) other

any_more : (n : ℕ) (xs ys : List ℕ) → IsTrue (list_any (λ m. m == n) xs) → IsTrue (list_any (λ m. m == n) (xs ++ ys))
any_more n xs ys h = rw (list_any-append (λ m. m == n) xs ys, h) refl

module _ {Y : Type 0} (old new : BTreeMap (String Y) (List ℕ)) (identifier : Bytes) (n : ℕ) (is : IsWithNumber old new identifier n) where
  at_it : (other : Bytes) → bytes_eq identifier other ≡ true → numbers_at new other ≡ numbers_at old identifier ++ n ∷ []
  at_it other same = ap (λ (o : Option (List ℕ)). unwrap_or o []) (is other ∙ ap (λ b. cond b (Some (numbers_at old identifier ++ n ∷ [])) (get_by_text old other)) same)

  at_other : (other : Bytes) → bytes_eq identifier other ≡ false → numbers_at new other ≡ numbers_at old other
  at_other other apart = ap (λ (o : Option (List ℕ)). unwrap_or o []) (is other ∙ ap (λ b. cond b (Some (numbers_at old identifier ++ n ∷ [])) (get_by_text old other)) apart)

  pub keeps_others : (other : Bytes) (m : ℕ) → Has old other m → Has new other m
  keeps_others other m has =
      ⊎_elim
      (λ (same : bytes_eq identifier other ≡ true). subst (λ (xs : List ℕ). IsTrue (list_any (λ k. k == m) xs)) (sym (at_it other same))
      (any_more m (numbers_at old identifier) (n ∷ []) (subst (λ (i : Bytes). Has old i m) (sym ((bytes_eq-Decides identifier other).0 same)) has)))
      (λ (apart : bytes_eq identifier other ≡ false). subst (λ (xs : List ℕ). IsTrue (list_any (λ k. k == m) xs)) (sym (at_other other apart)) has)
      (cases_Bool (bytes_eq identifier other))

-- ---- changes

pub after_listed : (names : Names) (map other : RowMap) (changes : List Change) → ListsRows names map → All (ListsChange names) changes
    → ((k : Key) → row_in other k ≡ row_after (row_in map k) k changes) → ListsRows names other
after_listed names map other changes listed added same n a there =
    left_or_put (λ v. (b : AccountRow) → v ≡ value.Account b → Lists names b.identifier n) (key.Account n) (row_in map (key.Account n)) changes
    (λ v stands b is. listed n b (stands ∙ ap Some is))
    (All-weaker (ListsChange names) (λ c. (v : Value) → Puts c (key.Account n) v → (b : AccountRow) → v ≡ value.Account b → Lists names b.identifier n)
    (λ c one v puts b is. one n b (subst (λ (w : Value). Puts c (key.Account n) w) is puts)) changes added)
    (value.Account a) (sym (same (key.Account n)) ∙ there) a refl

-- no rows, and then those of changes
pub put_listed : (names : Names) (empty map : RowMap) (changes : List Change) → ((k : Key) → row_in empty k ≡ None) → All (ListsChange names) changes
    → ((k : Key) → row_in map k ≡ row_after (row_in empty k) k changes) → ListsRows names map
put_listed names empty map changes none added same =
    after_listed names empty map changes (λ n a there. absurd (let no : None ≡ Some (value.Account a) = sym (none (key.Account n)) ∙ there in cc)) added same

-- ---- an identifier is taken out

-- the map without it
abbrev pub IsWithout : {Y : Type 0} → BTreeMap (String Y) (List ℕ) → BTreeMap (String Y) (List ℕ) → Bytes → Type 0
IsWithout old new identifier = (other : Bytes) → get_by_text new other ≡ update bytes_eq (get_by_text old) identifier None other

-- one number alone is listed
alone : (n m : ℕ) → IsTrue (list_any (λ k. k == m) (n ∷ [])) → n ≡ m
alone n m h = ⊎_elim (λ (same : (n == m) ≡ true). eqb-true n m same) (λ (apart : (n == m) ≡ false). absurd (let no : list_any (λ k. k == m) (n ∷ []) ≡ false = rw apart refl in cc)) (cases_Bool (n == m))

pub rows_without : (old new : Names) (map : RowMap) (identifier : Bytes) (n : ℕ) → IsWithout old.entries new.entries identifier
    → numbers_at old.entries identifier ≡ n ∷ []
    → ¬ ((a : AccountRow) × (row_in map (key.Account n) ≡ Some (value.Account a)) × (a.identifier ≡ identifier))
    → ListsRows old map → ListsRows new map
rows_without old new map identifier n without only unnamed listed m a there =
    ⊎_elim
    (λ (same : bytes_eq identifier a.identifier ≡ true). absurd (named ((bytes_eq-Decides identifier a.identifier).0 same)))
    (λ (apart : bytes_eq identifier a.identifier ≡ false). subst (λ (xs : List ℕ). IsTrue (list_any (λ k. k == m) xs)) (sym (stays apart)) (listed m a there))
    (cases_Bool (bytes_eq identifier a.identifier))
  where
    stays : bytes_eq identifier a.identifier ≡ false → numbers_at new.entries a.identifier ≡ numbers_at old.entries a.identifier
    stays apart = ap (λ (o : Option (List ℕ)). unwrap_or o []) (without a.identifier ∙ ap (λ b. cond b None (get_by_text old.entries a.identifier)) apart)

    named : identifier ≡ a.identifier → ⊥
    named is =
        let stands : numbers_at old.entries a.identifier ≡ n ∷ [] = ap (λ (i : Bytes). numbers_at old.entries i) (sym is) ∙ only in
        let same : n ≡ m = alone n m (subst (λ (xs : List ℕ). IsTrue (list_any (λ k. k == m) xs)) stands (listed m a there)) in
        unnamed (a, ap (λ (k : ℕ). row_in map (key.Account k)) same ∙ there, sym is)

-- the account of a number has the identifier that its row has
pub name_found : (map : RowMap) (n : ℕ) (row : AccountRow) (identifier text : Bytes) (holds : Bool) → row_in map (key.Account n) ≡ Some (value.Account row)
    → text ≡ row.identifier → holds ≡ bytes_eq text identifier
    → IsTrue holds ↔ ((a : AccountRow) × (row_in map (key.Account n) ≡ Some (value.Account a)) × (a.identifier ≡ identifier))
name_found map n row identifier text holds there is tells = (
  λ h. (row, there, sym is ∙ (bytes_eq-Decides text identifier).0 (sym tells ∙ h)),
  λ named. tells ∙ (bytes_eq-Decides text identifier).1 (is ∙ same named ∙ named.2),
)
  where
    same : (named : (a : AccountRow) × (row_in map (key.Account n) ≡ Some (value.Account a)) × (a.identifier ≡ identifier)) → row.identifier ≡ named.0.identifier
    same named =
        let both : Some (value.Account row) ≡ Some (value.Account named.0) = sym there ∙ named.1 in
        let rows_are : row ≡ named.0 = cc in
        ap (λ (a : AccountRow). a.identifier) rows_are

-- ---- the search

-- a number that stands there has its place
place_of : (n : ℕ) (xs : List ℕ) → IsTrue (list_any (λ m. m == n) xs) → (k : ℕ) × (k < length xs) × (get_or xs k 0 ≡ n)
place_of n xs h =
    let at = Any-from_list_any (λ m. m == n) xs h in
    let is : at.1 ≡ n = eqb-true at.1 n at.4 in
    (at.0, at.2, get_or_default xs at.0 0 at.1 at.2 ∙ at.3 ∙ is)

-- none of the first so many numbers has the identifier
abbrev pub NoneBefore : State → Bytes → List ℕ → ℕ → Type 0
NoneBefore s identifier numbers i = (k : ℕ) → k < i → ¬ (IsNamed (state_rows s) identifier (get_or numbers k 0))

pub none_so_far : (s : State) (identifier : Bytes) (numbers : List ℕ) (i : ℕ) → NoneBefore s identifier numbers i
    → ¬ (IsNamed (state_rows s) identifier (get_or numbers i 0)) → NoneBefore s identifier numbers (i + 1)
none_so_far s identifier numbers i before here k below =
    below_more (λ m. ¬ (IsNamed (state_rows s) identifier (get_or numbers m 0))) i before here k below

-- where none of them all has it, no account has
pub unknown_listed : (s : State) (identifier : Bytes) (numbers : List ℕ) (i : ℕ) → IsUnmarked s → numbers ≡ numbers_at s.names.entries identifier
    → length numbers ≤ i → NoneBefore s identifier numbers i → IsUnknown (state_rows s) identifier
unknown_listed s identifier numbers i unmarked are whole none n named =
    let there : row_in s.rows (key.Account n) ≡ Some (value.Account named.0) = sym (unmarked_rows s unmarked (key.Account n)) ∙ named.1 in
    let listed : IsTrue (list_any (λ m. m == n) (numbers_at s.names.entries named.0.identifier)) = s.listed n named.0 there in
    let own : IsTrue (list_any (λ m. m == n) numbers) =
    subst (λ (xs : List ℕ). IsTrue (list_any (λ m. m == n) xs)) (ap (λ (i : Bytes). numbers_at s.names.entries i) named.2 ∙ sym are) listed in
    let at = place_of n numbers own in
    let first = at.1 in
    none at.0 (omega arith) (subst (IsNamed (state_rows s) identifier) (sym at.2) named)
