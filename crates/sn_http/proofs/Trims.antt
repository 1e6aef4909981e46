-- Values that stand behind one space.
use Rattle.std.specs.Prelude.{◌≡◌, ℕ, ◌<◌, true, false, List, [], ◌∷◌, ◌++◌, length, reverse, codes, ⊤}
use Rattle.std.specs.List.{list_all, flat_map}
use Rattle.std.specs.Char.{is_ascii_digit}
use Rattle.std.specs.Int.{IsInRange}
use Rattle.std.specs.Str.Parse.{AllDigits}
use Rattle.std.proofs.Common.{refl, sym, ◌∙◌, ap, subst, arith, get_or, append-nil, append_assoc}
use Rattle.std.proofs.lemmas.Bool.{and_parts, and_from}
use Rattle.std.proofs.lemmas.List.{reverse-append, length-reverse}
use Rattle.std.proofs.lemmas.List.Elements.{All-nil, All-cons}
use Rattle.std.proofs.lemmas.List.Sums.{AllPass-from_list_all, list_all-from_AllPass}
use Rattle.std.proofs.lemmas.Str.Parse.{digit_from_value}
use Rattle.httparse.specs.Grammar.{crlf, Field, IsField, IsToken, print_field, is_ows, is_value_byte, skip_ows, trim_ows}
use Rattle.httparse.proofs.TrimLemmas.{skip_ows_no, trim_ows_space, AllPass-reverse}
use Rattle.sn_http.specs.Fields.{Fields, fields_of}
use Rattle.sn_http.specs.Lines.{line}
use Rattle.sn_http.specs.Options.{is_visible}

not_white : (b : ℕ) → is_visible b ≡ true → is_ows b ≡ false
not_white b is = grind arith

visible_value : (b : ℕ) → is_visible b ≡ true → is_value_byte b ≡ true
visible_value b is = grind arith

visible_digit : (c : ℕ) → IsInRange 48 57 c → is_visible c ≡ true
visible_digit c range = grind arith

ascii_digit : (c : ℕ) → IsInRange 48 57 c → is_ascii_digit c ≡ true
ascii_digit c range = grind arith

pub values_pass : (v : List ℕ) → list_all is_visible v ≡ true → list_all is_value_byte v ≡ true
values_pass [] all = refl
values_pass (b ∷ bs) all =
    let parts = and_parts (is_visible b) (list_all is_visible bs) all in
    and_from (is_value_byte b) (list_all is_value_byte bs) (visible_value b parts.0) (values_pass bs parts.1)

pub digits_visible : (ds : List ℕ) → AllDigits 10 ds → list_all is_visible ds ≡ true
digits_visible [] all = refl
digits_visible (c ∷ cs) all = and_from (is_visible c) (list_all is_visible cs) (visible_digit c (digit_from_value c all.0)) (digits_visible cs all.1)

pub digits_ascii : (ds : List ℕ) → AllDigits 10 ds → list_all is_ascii_digit ds ≡ true
digits_ascii [] all = refl
digits_ascii (c ∷ cs) all = and_from (is_ascii_digit c) (list_all is_ascii_digit cs) (ascii_digit c (digit_from_value c all.0)) (digits_ascii cs all.1)

skip_visible : (v w : List ℕ) → 0 < length v → list_all is_visible v ≡ true → skip_ows (v ++ w) ≡ v ++ w
skip_visible [] w some all = absurd (none some)
  where
    none : 0 < 0 → ⊥
    none lt = omega arith
skip_visible (b ∷ bs) w some all = skip_ows_no refl (sym (not_white b (and_parts (is_visible b) (list_all is_visible bs) all).0))

all_reversed : (v : List ℕ) → list_all is_visible v ≡ true → list_all is_visible (reverse v) ≡ true
all_reversed v all = list_all-from_AllPass is_visible (reverse v) (AllPass-reverse is_visible v (AllPass-from_list_all is_visible v all))

skip_back : (v w : List ℕ) → 0 < length v → list_all is_visible v ≡ true → skip_ows (reverse v ++ w) ≡ reverse v ++ w
skip_back v w some all = skip_visible (reverse v) w (omega (arith, some, length-reverse v)) (all_reversed v all)

pub trims : (v : List ℕ) → list_all is_visible v ≡ true → trim_ows (32 ∷ v) ≡ v
unfolding trim_ows
trims [] all = refl
trims (b ∷ bs) all =
    let v = b ∷ bs in
    let some : 0 < length v = omega arith in
    trim_ows_space v (skip_ows_no refl (sym (not_white b (and_parts (is_visible b) (list_all is_visible bs) all).0)))
    (subst (λ (l : List ℕ). skip_ows l ≡ l) (append-nil (reverse v)) (skip_back v [] some all))

pub bearer_trims : (token : List ℕ) → 0 < length token → list_all is_visible token ≡ true → trim_ows (32 ∷ (codes "Bearer " ++ token)) ≡ codes "Bearer " ++ token
bearer_trims token some all = trim_ows_space (codes "Bearer " ++ token) refl
    (subst (λ (l : List ℕ). skip_ows l ≡ l) (sym (reverse-append (codes "Bearer ") token)) (skip_back token (reverse (codes "Bearer ")) some all))

-- a field that is written
abbrev pub written : List ℕ × List ℕ → Field
written field = record { name = field.0; raw = 32 ∷ field.1; end = crlf }

pub record Written (field : List ℕ × List ℕ) : Type 0 where
  pub name : IsToken field.0
  pub value : list_all is_value_byte field.1 ≡ true
  pub trims : trim_ows (32 ∷ field.1) ≡ field.1

abbrev pub AllWritten : Fields → Type 0
AllWritten [] = ⊤
AllWritten (field ∷ fields) = Written field × AllWritten fields

pub both_written : (a b : Fields) → AllWritten a → AllWritten b → AllWritten (a ++ b)
both_written [] b x y = y
both_written (field ∷ fields) b x y = (x.0, both_written fields b x.1 y)

abbrev pub all_written : Fields → List Field
all_written [] = []
all_written (field ∷ fields) = written field ∷ all_written fields

pub fields_back : (fields : Fields) → AllWritten fields → fields_of (all_written fields) ≡ fields
fields_back [] x = refl
fields_back (field ∷ fields) x =
    ap (λ (v : List ℕ). (field.0, v) ∷ fields_of (all_written fields)) x.0.trims ∙ ap (λ (l : Fields). field ∷ l) (fields_back fields x.1)

pub fields_valid : (fields : Fields) → AllWritten fields → (k : ℕ) (d : Field) → k < length (all_written fields) → IsField (get_or (all_written fields) k d)
fields_valid fields x = all_of fields x
  where
    all_of : (fields : Fields) → AllWritten fields → (k : ℕ) (d : Field) → k < length (all_written fields) → IsField (get_or (all_written fields) k d)
    all_of [] x = All-nil IsField
    all_of (field ∷ fields) x = All-cons IsField (written field) (all_written fields)
        (record { name = x.0.name; raw = AllPass-from_list_all is_value_byte (32 ∷ field.1) (and_from true (list_all is_value_byte field.1) refl x.0.value) }) (all_of fields x.1)

pub lines_same : (fields : Fields) → flat_map print_field (all_written fields) ≡ flat_map line fields
lines_same [] = refl
lines_same (field ∷ fields) =
    ap (λ (l : List ℕ). (l ++ (13 ∷ 10 ∷ [])) ++ flat_map print_field (all_written fields)) (sym (append_assoc field.0 (codes ": ") field.1))
    ∙ ap (λ (l : List ℕ). line field ++ l) (lines_same fields)
