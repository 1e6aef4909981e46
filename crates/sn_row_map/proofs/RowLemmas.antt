-- What a change of the entries makes of the rows.
use Rattle.std.proofs.Common.{◌≡◌, ◌⊎◌, ◌<◌, ◌+◌, ◌++◌, ℕ, zero, suc, Bool, true, false, List, [], ◌∷◌, Option, Some, None, Bor, All, get_or, length, map, set, take, refl, sym, ap, subst, ◌∙◌, inl, inr, arith}
use Rattle.std.specs.Prelude.{is_some, cond, if◌then◌else◌}
use Rattle.std.specs.Option.{option_and_then, option_copied}
use Rattle.std.specs.BTreeMap.{get, is_at}
use Rattle.std.specs.Map.{lookup}
use Rattle.std.proofs.Math.ListN.{get_or-map, length-map}
use Rattle.std.proofs.lemmas.Bool.{cases_Bool}
use Rattle.std.proofs.lemmas.List.{take_more}
use Rattle.std.proofs.lemmas.List.Elements.{All-head, All-tail}
use Rattle.sn_rows.specs.declared.key.Key.{Key}
use Rattle.sn_rows.specs.declared.value.Value.{Value}
use Rattle.sn_rows.specs.Table.{Spares, changed, key_of, row_after, same_key}
use Rattle.sn_rows.specs.declared.change.Change.{Change}
use Rattle.sn_rows.specs.declared.change.Change.TheVariants.{Put, Remove}
use Rattle.sn_rows.specs.Facts.{keys_compare, row_after-append}
use Rattle.sn_row_map.specs.Keys.{key_cmp}
use Rattle.sn_row_map.specs.RowMaps.{row_in, HasRoom, FitsIn, IsSwept, IsTidy, IsTidyBut, SameRows, StaysSwept, KeepsRoom}
use Rattle.sn_row_map.specs.declared.row_map.RowMap.{RowMap}
use Rattle.sn_row_map.proofs.KeyLemmas.{key_tie}

picked : (b : Bool) (value : Option Value) (o : Option (Option Value)) → option_and_then (λ (found : Option Value). found) (cond b (Some value) o) ≡ cond b value (option_and_then (λ (found : Option Value). found) o)
picked true value o = refl
picked false value o = refl

taken : (b : Bool) (o : Option (Option Value)) → option_and_then (λ (found : Option Value). found) (cond b None o) ≡ cond b None (option_and_then (λ (found : Option Value). found) o)
taken true o = refl
taken false o = refl

-- after an insert
pub row_put : (old new : RowMap) (key : Key) (value : Option Value) → ((q : Key) → get key_cmp new.entries q ≡ cond (is_at (key_cmp key) q) (Some value) (get key_cmp old.entries q))
    → (q : Key) → row_in new q ≡ (if same_key key q then value else row_in old q)
unfolding row_in
row_put old new key value updates q =
    ap (λ (o : Option (Option Value)). option_and_then (λ (found : Option Value). found) o) (updates q)
    ∙ picked (is_at (key_cmp key) q) value (get key_cmp old.entries q)
    ∙ ap (λ (b : Bool). cond b value (option_and_then (λ (found : Option Value). found) (get key_cmp old.entries q))) (key_tie key q)

some_kept : (b : Bool) (value : Option Value) (o : Option (Option Value)) → is_some o ≡ true → is_some (cond b (Some value) o) ≡ true
some_kept true value o h = refl
some_kept false value o h = h

pub room_put : (old new : RowMap) (key : Key) (value : Option Value) → ((q : Key) → get key_cmp new.entries q ≡ cond (is_at (key_cmp key) q) (Some value) (get key_cmp old.entries q)) → KeepsRoom old new
unfolding HasRoom
room_put old new key value updates q h = ap is_some (updates q) ∙ some_kept (is_at (key_cmp key) q) value (get key_cmp old.entries q) h

pub has_room : (new : RowMap) (key : Key) (value : Option Value) → get key_cmp new.entries key ≡ Some value → HasRoom new key
unfolding HasRoom
has_room new key value e = ap is_some e

-- after a remove
pub row_removed : (old new : RowMap) (key : Key) → ((q : Key) → get key_cmp new.entries q ≡ cond (is_at (key_cmp key) q) None (get key_cmp old.entries q))
    → (q : Key) → row_in new q ≡ (if same_key key q then None else row_in old q)
unfolding row_in
row_removed old new key updates q =
    ap (λ (o : Option (Option Value)). option_and_then (λ (found : Option Value). found) o) (updates q)
    ∙ taken (is_at (key_cmp key) q) (get key_cmp old.entries q)
    ∙ ap (λ (b : Bool). cond b None (option_and_then (λ (found : Option Value). found) (get key_cmp old.entries q))) (key_tie key q)

-- entries that stay
pub rows_stay : (old new : RowMap) → new.entries.entries ≡ old.entries.entries → SameRows old new
unfolding row_in
rows_stay old new e q = ap (λ (es : _). option_and_then (λ (found : Option Value). found) (lookup (is_at (key_cmp q)) es)) e

pub room_stays : (old new : RowMap) → new.entries.entries ≡ old.entries.entries → KeepsRoom old new
unfolding HasRoom
room_stays old new e q h = ap (λ (es : _). is_some (lookup (is_at (key_cmp q)) es)) e ∙ h

pub no_room : (map : RowMap) (key : Key) → get key_cmp map.entries key ≡ None → HasRoom map key → ⊥
unfolding HasRoom
no_room map key e h = absurd (let f : is_some (get key_cmp map.entries key) ≡ false = ap is_some e in cc)

none_in : (o : Option (Option Value)) → is_some o ≡ false → option_and_then (λ (found : Option Value). found) o ≡ None
none_in None h = refl
none_in (Some v) h = absurd (cc)

false_of : (b : Bool) → (b ≡ true → ⊥) → b ≡ false
false_of true h = absurd (h refl)
false_of false h = refl

pub row_of_no_room : (map : RowMap) (key : Key) → (HasRoom map key → ⊥) → row_in map key ≡ None
unfolding row_in HasRoom
row_of_no_room map key h = none_in (get key_cmp map.entries key) (false_of (is_some (get key_cmp map.entries key)) h)

-- a key without a row that is set to none
pub none_set : (map : RowMap) (key : Key) → row_in map key ≡ None → (q : Key) → row_in map q ≡ (if same_key key q then None else row_in map q)
none_set map key none q =
    elim (cases_Bool (same_key key q)) [
      | inl same ↦ ap (row_in map) (sym ((keys_compare key q).0 same)) ∙ none ∙ sym (ap (λ (b : Bool). cond b None (row_in map q)) same)
      | inr other ↦ sym (ap (λ (b : Bool). cond b None (row_in map q)) other)
    ]

pub none_stays : (old new : RowMap) (key : Key) → row_in old key ≡ None
    → ((q : Key) → row_in new q ≡ (if same_key key q then None else row_in old q)) → SameRows old new
none_stays old new key none updates q = updates q ∙ sym (none_set old key none q)

pub not_both : (b : Bool) → b ≡ true → b ≡ false → ⊥
not_both b t f = absurd cc

pub none_found : (r : Option (Bor Value)) (o : Option Value) → is_some r ≡ false → option_copied r ≡ o → o ≡ None
none_found None o h e = sym e
none_found (Some v) o h e = absurd cc

-- what had room has it still
pub fits_still : (old new : RowMap) → KeepsRoom old new → (change : Change) → FitsIn old change → FitsIn new change
fits_still old new kept (Put row) h = kept row.key h
fits_still old new kept (Remove key) h = tt

pub some_found : (r : Option (Bor Value)) (o : Option Value) → is_some r ≡ true → option_copied r ≡ o → is_some o ≡ true
some_found None o h e = absurd cc
some_found (Some v) o h e = ap is_some (sym e)

-- keys that were swept stay so where rows stay and no room comes
pub swept_still : (old new : RowMap) → SameRows old new → KeepsRoom new old → (key : Key) → StaysSwept old new key
swept_still old new rows less key swept h = ap is_some (rows key) ∙ swept (less key h)

-- what a key is swept by
swept_by : (old new : RowMap) (key : Key) → get key_cmp new.entries key ≡ get key_cmp old.entries key → StaysSwept old new key
unfolding row_in HasRoom
swept_by old new key same swept h = ap (λ (o : Option (Option Value)). is_some (option_and_then (λ (found : Option Value). found) o)) same ∙ swept (ap is_some (sym same) ∙ h)

-- the other keys of an insert
pub others_put : (old new : RowMap) (key : Key) (value : Option Value) → ((q : Key) → get key_cmp new.entries q ≡ cond (is_at (key_cmp key) q) (Some value) (get key_cmp old.entries q))
    → (other : Key) → same_key key other ≡ false → StaysSwept old new other
others_put old new key value updates other apart =
    swept_by old new other (updates other ∙ ap (λ (b : Bool). cond b (Some value) (get key_cmp old.entries other)) (key_tie key other ∙ apart))

pub others_stay : (old new : RowMap) → new.entries.entries ≡ old.entries.entries → (other : Key) → StaysSwept old new other
others_stay old new e other = swept_by old new other (ap (λ (es : _). lookup (is_at (key_cmp other)) es) e)

pub room_stays_back : (old new : RowMap) → new.entries.entries ≡ old.entries.entries → KeepsRoom new old
unfolding HasRoom
room_stays_back old new e q h = ap (λ (es : _). is_some (lookup (is_at (key_cmp q)) es)) (sym e) ∙ h

-- and of a remove, with the key itself, which has no room
pub others_removed : (old new : RowMap) (key : Key) → ((q : Key) → get key_cmp new.entries q ≡ cond (is_at (key_cmp key) q) None (get key_cmp old.entries q))
    → (other : Key) → StaysSwept old new other
unfolding HasRoom
others_removed old new key updates other =
    elim (cases_Bool (same_key key other)) [
      | inl same ↦ λ swept h. absurd (gone (updates other ∙ ap (λ (b : Bool). cond b None (get key_cmp old.entries other)) (key_tie key other ∙ same)) h)
      | inr apart ↦ swept_by old new other (updates other ∙ ap (λ (b : Bool). cond b None (get key_cmp old.entries other)) (key_tie key other ∙ apart))
    ]
  where
    gone : get key_cmp new.entries other ≡ None → is_some (get key_cmp new.entries other) ≡ true → ⊥
    gone e h = let f : is_some (get key_cmp new.entries other) ≡ false = ap is_some e in cc

-- a key that gets a row is swept, and every other stays so
pub swept_filled : (old new : RowMap) (key : Key) (value : Value) → ((other : Key) → row_in new other ≡ (if same_key key other then Some value else row_in old other))
    → ((other : Key) → same_key key other ≡ false → StaysSwept old new other) → (other : Key) → StaysSwept old new other
swept_filled old new key value rows others other =
    elim (cases_Bool (same_key key other)) [
      | inl same ↦ λ swept h. ap is_some (rows other ∙ ap (λ (b : Bool). cond b (Some value) (row_in old other)) same)
      | inr apart ↦ others other apart
    ]

pub filled_swept : (old new : RowMap) (key : Key) (value : Value) → ((other : Key) → row_in new other ≡ (if same_key key other then Some value else row_in old other))
    → IsSwept new key
filled_swept old new key value rows h = ap is_some (rows key ∙ ap (λ (b : Bool). cond b (Some value) (row_in old key)) ((keys_compare key key).1 refl))

-- ---- the keys of changes

-- one of the changes
pub spares_at : (key : Key) (changes : List Change) (i : ℕ) (d : Change) → i < length changes → Spares key changes → same_key (key_of (get_or changes i d)) key ≡ false
spares_at key [] i d lt s = absurd (omega arith)
spares_at key (c ∷ cs) zero d lt s = s.0
spares_at key (c ∷ cs) (suc i) d lt s = spares_at key cs i d (omega arith) s.1

-- the last one, and those before
pub spares_last : (key : Key) (changes : List Change) (c : Change) → Spares key (changes ++ c ∷ []) → Spares key changes × (same_key (key_of c) key ≡ false)
spares_last key [] c s = (tt, s.0)
spares_last key (x ∷ xs) c s = let more = spares_last key xs c s.1 in ((s.0, more.0), more.1)

-- changes of the same keys spare the same ones
pub spares_same : (key : Key) (xs ys : List Change) → map key_of xs ≡ map key_of ys → Spares key xs → Spares key ys
spares_same key [] [] e s = tt
spares_same key (x ∷ xs) (y ∷ ys) e s =
    let first : key_of x ≡ key_of y = cc in
    let others : map key_of xs ≡ map key_of ys = cc in
    (ap (λ (k : Key). same_key k key) (sym first) ∙ s.0, spares_same key xs ys others s.1)
spares_same key [] (y ∷ ys) e s = absurd cc
spares_same key (x ∷ xs) [] e s = absurd cc

pub tidy_set : (old mid new : RowMap) (left changes : List Change) → map key_of left ≡ map key_of changes → ((key : Key) → Spares key changes → StaysSwept old mid key)
    → (IsTidyBut left mid → IsTidy new) → IsTidyBut changes old → IsTidy new
tidy_set old mid new left changes keys others swept tidy =
    swept (λ key spared. let own = spares_same key left changes keys spared in others key own (tidy key own))

-- a removal in the place of a change
keys_left : (changes : List Change) (i : ℕ) (d : Change) → i < length changes → map key_of (set changes i (Remove (key_of (get_or changes i d)))) ≡ map key_of changes
keys_left [] i d lt = absurd (omega arith)
keys_left (c ∷ cs) zero d lt = refl
keys_left (c ∷ cs) (suc i) d lt = ap (λ (ks : List Key). key_of c ∷ ks) (keys_left cs i d (omega arith))

pub keys_kept : (changes : List Change) (i : ℕ) (d : Change) (key : Key) (left : Change) → i < length changes → key ≡ key_of (get_or changes i d) → left ≡ Remove key
    → map key_of (set changes i left) ≡ map key_of changes
keys_kept changes i d key left lt named is =
    ap (λ (c : Change). map key_of (set changes i c)) (is ∙ ap Remove named) ∙ keys_left changes i d lt

-- one change more
pub made_more : (old mid new : RowMap) (changes : List Change) (i : ℕ) (d change : Change) → i < length changes → change ≡ get_or changes i d
    → ((key : Key) → row_in mid key ≡ row_after (row_in old key) key (take i changes)) → ((key : Key) → row_in new key ≡ changed (row_in mid key) key change)
    → (key : Key) → row_in new key ≡ row_after (row_in old key) key (take (i + 1) changes)
made_more old mid new changes i d change lt is so_far one key =
    one key
    ∙ ap (λ (o : Option Value). changed o key change) (so_far key)
    ∙ ap (λ (c : Change). changed (row_after (row_in old key) key (take i changes)) key c) is
    ∙ sym (row_after-append (row_in old key) key (take i changes) (get_or changes i d ∷ []))
    ∙ sym (ap (row_after (row_in old key) key) (take_more changes i d lt))

-- of each key, it is one of the changes', or they spare it
one_or_spared : (P : Key → Type 0) (changes : List Change) → All (λ c. P (key_of c)) changes → (key : Key) → P key ⊎ Spares key changes
one_or_spared P [] all key = inr tt
one_or_spared P (c ∷ cs) all key =
    elim (cases_Bool (same_key (key_of c) key)) [
      | inl same ↦ inl (subst P ((keys_compare (key_of c) key).0 same) (All-head (λ c. P (key_of c)) c cs all))
      | inr apart ↦ elim (one_or_spared P cs (All-tail (λ c. P (key_of c)) c cs all) key) [
        | inl is ↦ inl is
        | inr spared ↦ inr (apart, spared)
      ]
    ]

-- where the keys of all changes are swept, and only these may have had room, no room is left over
pub tidy_after : (old new : RowMap) (changes : List Change) → All (λ c. IsSwept new (key_of c)) changes → ((key : Key) → StaysSwept old new key)
    → IsTidyBut changes old → IsTidy new
tidy_after old new changes swept still tidy key =
    elim (one_or_spared (IsSwept new) changes swept key) [
      | inl is ↦ is
      | inr spared ↦ still key (tidy key spared)
    ]

pub swept_changes : (new : RowMap) (keys : List Key) (changes : List Change) → keys ≡ map key_of changes → All (IsSwept new) keys → All (λ c. IsSwept new (key_of c)) changes
swept_changes new keys changes is all = λ k d lt.
    let own : All (IsSwept new) (map key_of changes) = subst (All (IsSwept new)) is all in
    subst (IsSwept new) (get_or-map key_of changes k d) (own k (key_of d) (subst (λ (n : ℕ). k < n) (sym (length-map changes key_of)) lt))

pub none_tidy : (map : RowMap) → map.entries.entries ≡ [] → IsTidy map
none_tidy map none key h = absurd (no_room map key (ap (λ (es : _). lookup (is_at (key_cmp key)) es) none) h)
