-- When a tree has data, and what a whole text is.
use Rattle.std.proofs.Common.{◌≡◌, ℕ, ◌+◌, ◌<◌, List, [], ◌∷◌, length, drop, get_or, true, Option, Some, None, option_map, option_and_then, Global, Bor, refl, sym, ap, ◌∙◌}
use Rattle.std.proofs.lemmas.List.{drop_more}
use Rattle.std.specs.Prelude.{is_some, unwrap_or}
use Rattle.json.specs.Token.{Token}
use Rattle.json.specs.Json as json
use Rattle.json.specs.Value.{members_view, value_view}
use Rattle.json.specs.declared.value.Value.{Value}
use Rattle.serde_json.specs.Data.{Data, Members, no_members, null, object, put}
use Rattle.serde_json.specs.Read.{of_json, of_members}
use Rattle.sn_json.specs.Views.{data_of}

-- ---- the members of an object

next_same : (o : Option Data) (f g : Data → Option Members) → ((d : Data) → is_some (f d) ≡ is_some (g d)) → is_some (option_and_then f o) ≡ is_some (option_and_then g o)
next_same None f g same = refl
next_same (Some d) f g same = same d

-- whether members have data doesn't rest on those before them
any_before : (ms : json.Members) (a b : Members) → is_some (of_members ms a) ≡ is_some (of_members ms b)
any_before json.no_members a b = refl
any_before (json.member k j ms) a b = next_same (of_json j) (λ d. of_members ms (put k d a)) (λ d. of_members ms (put k d b)) (λ d. any_before ms (put k d a) (put k d b))

only_rest : (k : List ℕ) (ms : json.Members) (o : Option Data) → is_some o ≡ true → is_some (option_and_then (λ d. of_members ms (put k d no_members)) o) ≡ is_some (of_members ms no_members)
only_rest k ms None h = absurd (cc)
only_rest k ms (Some d) h = any_before ms (put k d no_members) no_members

abbrev Member : Type 0
Member = Bor (List ℕ) × Value Global

-- behind a member that has data
pub member_with : (ms : List Member) (i : ℕ) (m : Member) → i < length ms → m ≡ get_or ms i m → is_some (of_json (value_view m.1)) ≡ true
    → is_some (of_members (members_view (drop i ms)) no_members) ≡ is_some (of_members (members_view (drop (i + 1) ms)) no_members)
member_with ms i m within is h =
    let here = drop_more ms i m within ∙ ap (λ n. n ∷ drop (i + 1) ms) (sym is) in
    ap (λ ns. is_some (of_members (members_view ns) no_members)) here ∙ only_rest m.0.now (members_view (drop (i + 1) ms)) (of_json (value_view m.1)) h

mapped : {A B : Type 0} (f : A → B) (o : Option A) → is_some o ≡ is_some (option_map f o)
mapped f None = refl
mapped f (Some a) = refl

pub is_some-object : (ms : json.Members) → is_some (of_members ms no_members) ≡ is_some (of_json (json.object ms))
is_some-object ms = mapped object (of_members ms no_members)

-- ---- the whole text

some_of : (o : Option Data) → is_some o ≡ true → o ≡ Some (unwrap_or o null)
some_of None h = absurd (cc)
some_of (Some d) h = refl

abbrev pub whole : Option (json.Json × List Token) → Option Data
whole o = option_and_then of_json (option_and_then (λ p. json.if_last p.0 p.1) o)

pub whole-read : (o : Option (json.Json × List Token)) (j : json.Json) → o ≡ Some (j, []) → is_some (of_json j) ≡ true → whole o ≡ Some (data_of j)
whole-read o j e h = ap whole e ∙ some_of (of_json j) h
