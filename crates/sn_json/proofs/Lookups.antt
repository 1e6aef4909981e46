-- What a tree has at a place, and what its data has there.
use Rattle.std.proofs.Common.{◌≡◌, ℕ, List, [], ◌∷◌, length, Bool, true, false, cond, true≢false, Option, Some, None, option_map, option_and_then, Global, refl, sym, ap, ◌∙◌, subst, arith}
use Rattle.std.specs.Prelude.{is_some, unwrap_or}
use Rattle.std.specs.Str.{bytes_eq}
use Rattle.std.proofs.lemmas.Slice.Eq.{bytes_eq-Decides}
use Rattle.json.specs.Json as json
use Rattle.json.specs.Find as tree
use Rattle.json.specs.Value.{items_view, value_view}
use Rattle.json.specs.declared.value.Value.{Value}
use Rattle.serde_json.specs.Data.{Num, Data, null, number, array, object, Items, no_items, item, Members, no_members, put}
use Rattle.serde_json.specs.Find.{get, get_member, as_str, as_bool, as_null, as_number, as_array, as_object}
use Rattle.serde_json.specs.Read.{number_of, of_json, of_items, of_members}
use Rattle.serde_json.proofs.Views.{get_member-put, get_member-put_other}
use Rattle.sn_json.specs.Views.{data_of, items_of}

abbrev Tree : Type 0
Tree = Value Global

-- ---- a member

chained : {A B : Type 0} (f : A → Option B) (o : Option A) (b : B) → option_and_then f o ≡ Some b → (a : A) × (o ≡ Some a) × (f a ≡ Some b)
chained f None b e = absurd (cc)
chained f (Some a) b e = (a, refl, e)

-- the last member of a name has its data there; where there is none, what was there stays
abbrev Follows : Option json.Json → Option Data → Option Data → Type 0
Follows None before after = after ≡ before
Follows (Some j) before after = (d : Data) × (of_json j ≡ Some d) × (after ≡ Some d)

put_at : (name k : List ℕ) (d : Data) (found : Members) (b : Bool) → bytes_eq k name ≡ b → get_member name (put k d found) ≡ cond b (Some d) (get_member name found)
put_at name k d found true e =
    let same : k ≡ name = (bytes_eq-Decides k name).0 e in
    subst (λ n. get_member n (put k d found) ≡ Some d) same (get_member-put k d found)
put_at name k d found false e = get_member-put_other name k d found (λ same. true≢false (sym ((bytes_eq-Decides k name).1 (sym same)) ∙ e))

one_more : (o : Option json.Json) (j : json.Json) (d : Data) (b : Bool) (before between after : Option Data) → of_json j ≡ Some d → between ≡ cond b (Some d) before
    → Follows o between after → Follows (tree.later_or o (cond b (Some j) None)) before after
one_more (Some i) j d b before between after is put h = h
one_more None j d true before between after is put h = (d, is, h ∙ put)
one_more None j d false before between after is put h = h ∙ put

in_members : (name : List ℕ) (ms : json.Members) (found all : Members) → of_members ms found ≡ Some all → Follows (tree.get_member name ms) (get_member name found) (get_member name all)
in_members name json.no_members found all e = let same : all ≡ found = cc in ap (get_member name) same
in_members name (json.member k j ms) found all e =
    let first = chained (λ d. of_members ms (put k d found)) (of_json j) all e in
    one_more (tree.get_member name ms) j first.0 (bytes_eq k name) _ _ _ first.1 (put_at name k first.0 found (bytes_eq k name) refl) (in_members name ms (put k first.0 found) all first.2)

in_object : (name : List ℕ) (ms : json.Members) (o : Option Members) → of_members ms no_members ≡ o → is_some (option_map object o) ≡ true
    → Follows (tree.get_member name ms) None (get name (unwrap_or (option_map object o) null))
in_object name ms None e h = absurd (cc)
in_object name ms (Some all) e h = in_members name ms no_members all e

-- what holds of each data of a kind holds of what a tree of that kind has
of_kind : {A U : Type 0} (f : Data → A) (a : A) (kind : U → Data) → ((u : U) → f (kind u) ≡ a) → (o : Option U) → is_some (option_map kind o) ≡ true → f (unwrap_or (option_map kind o) null) ≡ a
of_kind f a kind each None h = absurd (cc)
of_kind f a kind each (Some u) h = each u

at_name : (name : List ℕ) (j : json.Json) → is_some (of_json j) ≡ true → Follows (tree.get name j) None (get name (data_of j))
at_name name json.null h = refl
at_name name (json.boolean b) h = refl
at_name name (json.number s) h = of_kind (get name) None number (λ n. refl) (number_of s) h
at_name name (json.string s) h = refl
at_name name (json.array js) h = of_kind (get name) None array (λ ds. refl) (of_items js) h
at_name name (json.object ms) h = in_object name ms (of_members ms no_members) refl h

pub get-some : (name : List ℕ) (j i : json.Json) → is_some (of_json j) ≡ true → Some i ≡ tree.get name j → (is_some (of_json i) ≡ true) × (Some (data_of i) ≡ get name (data_of j))
get-some name j i h e =
    let found = subst (λ o. Follows o None (get name (data_of j))) (sym e) (at_name name j h) in
    (ap is_some found.1, ap (λ o. Some (unwrap_or o null)) found.1 ∙ sym found.2)

pub get-none : (name : List ℕ) (j : json.Json) → is_some (of_json j) ≡ true → None ≡ tree.get name j → None ≡ get name (data_of j)
get-none name j h e = sym (subst (λ o. Follows o None (get name (data_of j))) (sym e) (at_name name j h))

-- ---- a kind

pub as_str-data : (j : json.Json) → is_some (of_json j) ≡ true → tree.as_str j ≡ as_str (data_of j)
as_str-data json.null h = refl
as_str-data (json.boolean b) h = refl
as_str-data (json.number s) h = sym (of_kind as_str None number (λ n. refl) (number_of s) h)
as_str-data (json.string s) h = refl
as_str-data (json.array js) h = sym (of_kind as_str None array (λ ds. refl) (of_items js) h)
as_str-data (json.object ms) h = sym (of_kind as_str None object (λ ds. refl) (of_members ms no_members) h)

pub as_bool-data : (j : json.Json) → is_some (of_json j) ≡ true → tree.as_bool j ≡ as_bool (data_of j)
as_bool-data json.null h = refl
as_bool-data (json.boolean b) h = refl
as_bool-data (json.number s) h = sym (of_kind as_bool None number (λ n. refl) (number_of s) h)
as_bool-data (json.string s) h = refl
as_bool-data (json.array js) h = sym (of_kind as_bool None array (λ ds. refl) (of_items js) h)
as_bool-data (json.object ms) h = sym (of_kind as_bool None object (λ ds. refl) (of_members ms no_members) h)

pub is_null-data : (j : json.Json) → is_some (of_json j) ≡ true → tree.is_null j ≡ is_some (as_null (data_of j))
is_null-data json.null h = refl
is_null-data (json.boolean b) h = refl
is_null-data (json.number s) h = sym (of_kind (λ d. is_some (as_null d)) false number (λ n. refl) (number_of s) h)
is_null-data (json.string s) h = refl
is_null-data (json.array js) h = sym (of_kind (λ d. is_some (as_null d)) false array (λ ds. refl) (of_items js) h)
is_null-data (json.object ms) h = sym (of_kind (λ d. is_some (as_null d)) false object (λ ds. refl) (of_members ms no_members) h)

pub is_object-data : (j : json.Json) → is_some (of_json j) ≡ true → is_some (tree.as_object j) ≡ is_some (as_object (data_of j))
is_object-data json.null h = refl
is_object-data (json.boolean b) h = refl
is_object-data (json.number s) h = sym (of_kind (λ d. is_some (as_object d)) false number (λ n. refl) (number_of s) h)
is_object-data (json.string s) h = refl
is_object-data (json.array js) h = sym (of_kind (λ d. is_some (as_object d)) false array (λ ds. refl) (of_items js) h)
is_object-data (json.object ms) h = sym (of_kind (λ d. is_some (as_object d)) true object (λ ds. refl) (of_members ms no_members) h)

the_number : (o : Option Num) → o ≡ as_number (unwrap_or (option_map number o) null)
the_number None = refl
the_number (Some n) = refl

pub as_number-data : (j : json.Json) → is_some (of_json j) ≡ true → option_and_then number_of (tree.as_number j) ≡ as_number (data_of j)
as_number-data json.null h = refl
as_number-data (json.boolean b) h = refl
as_number-data (json.number s) h = the_number (number_of s)
as_number-data (json.string s) h = refl
as_number-data (json.array js) h = sym (of_kind as_number None array (λ ds. refl) (of_items js) h)
as_number-data (json.object ms) h = sym (of_kind as_number None object (λ ds. refl) (of_members ms no_members) h)

-- ---- a list

the_items : (o : Option Items) → is_some (option_map array o) ≡ true → (is_some o ≡ true) × (Some (unwrap_or o no_items) ≡ as_array (unwrap_or (option_map array o) null))
the_items None h = absurd (cc)
the_items (Some ds) h = (refl, refl)

-- a tree's items, where it is an array, have its data's
abbrev HasItems : Option json.Items → Data → Type 0
HasItems None d = None ≡ as_array d
HasItems (Some js) d = (is_some (of_items js) ≡ true) × (Some (items_of js) ≡ as_array d)

items_in : (j : json.Json) → is_some (of_json j) ≡ true → HasItems (tree.as_array j) (data_of j)
items_in json.null h = refl
items_in (json.boolean b) h = refl
items_in (json.number s) h = sym (of_kind as_array None number (λ n. refl) (number_of s) h)
items_in (json.string s) h = refl
items_in (json.array js) h = the_items (of_items js) h
items_in (json.object ms) h = sym (of_kind as_array None object (λ ds. refl) (of_members ms no_members) h)

pub as_array-some : (j : json.Json) (js : json.Items) → is_some (of_json j) ≡ true → Some js ≡ tree.as_array j → (is_some (of_items js) ≡ true) × (Some (items_of js) ≡ as_array (data_of j))
as_array-some j js h e = subst (λ o. HasItems o (data_of j)) (sym e) (items_in j h)

pub as_array-none : (j : json.Json) → is_some (of_json j) ≡ true → None ≡ tree.as_array j → None ≡ as_array (data_of j)
as_array-none j h e = subst (λ o. HasItems o (data_of j)) (sym e) (items_in j h)

split : (o : Option Data) (p : Option Items) → is_some (option_and_then (λ d. option_map (item d) p) o) ≡ true
    → (is_some o ≡ true) × (is_some p ≡ true) × (unwrap_or (option_and_then (λ d. option_map (item d) p) o) no_items ≡ item (unwrap_or o null) (unwrap_or p no_items))
split None p h = absurd (cc)
split (Some d) None h = absurd (cc)
split (Some d) (Some ds) h = (refl, refl, refl)

first_and_rest : (j : json.Json) (js : json.Items) → is_some (of_items (json.item j js)) ≡ true
    → (is_some (of_json j) ≡ true) × (is_some (of_items js) ≡ true) × (items_of (json.item j js) ≡ item (data_of j) (items_of js))
first_and_rest j js h = split (of_json j) (of_items js) h

pub first_of : (vs : List Tree) (v : Tree) (rest : List Tree) → vs ≡ v ∷ rest → is_some (of_items (items_view vs)) ≡ true
    → (is_some (of_json (value_view v)) ≡ true) × (is_some (of_items (items_view rest)) ≡ true) × (items_of (items_view vs) ≡ item (data_of (value_view v)) (items_of (items_view rest)))
first_of vs v rest is h =
    let both = first_and_rest (value_view v) (items_view rest) (subst (λ ws. is_some (of_items (items_view ws)) ≡ true) is h) in
    (both.0, both.1, ap (λ ws. items_of (items_view ws)) is ∙ both.2)

pub none_left : (vs : List Tree) → length vs ≡ 0 → items_of (items_view vs) ≡ no_items
none_left [] h = refl
none_left (v ∷ vs) h = absurd (omega arith)
