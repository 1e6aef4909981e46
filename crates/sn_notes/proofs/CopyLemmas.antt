-- A text without the white space at its end, and the copy of a content.
use Rattle.std.proofs.Common.{arith, ◌≡◌, ◌≢◌, ◌∙◌, ap, sym, refl, ℕ, zero, suc, ◌+◌, ◌-◌, ◌<◌, ◌≤◌, Bool, false, true, cond, eqb, leb, ◌&&◌, ◌⊎◌, inl, inr, List, [], ◌∷◌, ◌++◌, get_or, length, take, codes, Option, Some, None, IsTrue, IfSome, IfNone, MatchOption, Bor}
use Rattle.std.proofs.Math.Seq.{get_or-append_seam, take-append_seam}
use Rattle.std.proofs.lemmas.Bool.{eqb-true, false≢true}
use Rattle.std.proofs.lemmas.Bool.Decides.{leb_tells}
use Rattle.std.proofs.lemmas.List.{length-append, length-take-le, take_all, take_more}
use Rattle.std.proofs.lemmas.List.Sums.{suffix_len-take_no, suffix_len-take_yes}
use Rattle.std.specs.List.{slice_range, suffix_len}
use Rattle.uuid.specs.Text.{lower, hex_digit, nibble, digit_place, is_hyphen_place, hyphen}
use Rattle.uuid.proofs.TextLemmas.{by_index_length}
use Rattle.sn_items.specs.Objects.{is_object}
use Rattle.sn_string.specs.Uuids.{uuid_text}
use Rattle.sn_notes.specs.Copies.{comma, copy_of, is_space, marked, marked_or, opened, trimmed}
use Rattle.sn_string.specs.Bounds.{longest_content}

-- behind this place a text has white space alone
pub record IsTrimmedTo (text : List ℕ) (end : ℕ) : Type 0 where
  pub within : end ≤ length text
  pub rest : end + suffix_len is_space text ≡ length text + suffix_len is_space (take end text)
  pub next : end < length text → is_space (get_or text end 0) ≡ true

pub trimmed_whole : (text : List ℕ) → IsTrimmedTo text (length text)
trimmed_whole text = record {
  within = omega arith;
  rest = ap (λ front. length text + suffix_len is_space front) (sym (take_all (length text) text (omega arith)));
  next = λ less. absurd (omega arith);
}

pub trimmed_less : (text : List ℕ) (end : ℕ) → IsTrimmedTo text end → 0 < end → is_space (get_or text (end - 1) 0) ≡ true
    → IsTrimmedTo text (end - 1)
trimmed_less text end before positive white =
    let more = suffix_len-take_yes is_space text end 0 positive before.within white in
    record {
      within = omega arith;
      rest = omega (arith, before.rest);
      next = λ _. white;
    }

no_space : (text : List ℕ) (end : ℕ) → end ≤ length text → (0 < end → is_space (get_or text (end - 1) 0) ≡ false)
    → suffix_len is_space (take end text) ≡ 0
no_space text zero within stops = refl
no_space text (suc n) within stops = suffix_len-take_no is_space text (suc n) 0 (omega arith) within (stops (omega arith))

pub trimmed_here : (text : List ℕ) (end : ℕ) → IsTrimmedTo text end → (0 < end → is_space (get_or text (end - 1) 0) ≡ false)
    → take end text ≡ trimmed text
unfolding trimmed
trimmed_here text end before stops =
    let none = no_space text end before.within stops in
    let e : end ≡ length text - suffix_len is_space text = omega (arith, before.rest) in
    ap (λ n. take n text) e

pub trimmed_range : (text bytes kept : List ℕ) (end : ℕ) → bytes ≡ text → kept ≡ slice_range text 0 end
    → take end bytes ≡ trimmed bytes → kept ≡ trimmed text
trimmed_range text bytes kept end same range here =
    let whole : end - 0 ≡ end = omega arith in
    range ∙ ap (λ n. take n text) whole ∙ ap (λ s. take end s) (sym same) ∙ here ∙ ap trimmed same

length-trimmed : (text : List ℕ) → length (trimmed text) ≤ length text
unfolding trimmed
length-trimmed text =
    let n = length text - suffix_len is_space text in
    let within : n ≤ length text = omega arith in
    omega (arith, length-take-le n text within)

-- ---- the last byte of a text

ends_split : (text : List ℕ) (b : ℕ) → 0 < b → eqb (get_or text (length text - 1) 0) b ≡ true → text ≡ take (length text - 1) text ++ b ∷ []
ends_split [] b positive e = absurd (omega (arith, eqb-true 0 b e))
ends_split (x ∷ xs) b positive e =
    let n = length (x ∷ xs) - 1 in
    let less : n < length (x ∷ xs) = omega arith in
    let whole : n + 1 ≡ length (x ∷ xs) = omega arith in
    let all : take (length (x ∷ xs)) (x ∷ xs) ≡ x ∷ xs = take_all (length (x ∷ xs)) (x ∷ xs) (omega arith) in
    sym all ∙ ap (λ k. take k (x ∷ xs)) (sym whole) ∙ take_more (x ∷ xs) n 0 less
    ∙ ap (λ y. take n (x ∷ xs) ++ y ∷ []) (eqb-true (get_or (x ∷ xs) n 0) b e)

before_last : (front : List ℕ) (b : ℕ) → length (front ++ b ∷ []) - 1 ≡ length front
before_last front b = omega (arith, length-append front (b ∷ []))

last_of : (front : List ℕ) (b : ℕ) → get_or (front ++ b ∷ []) (length (front ++ b ∷ []) - 1) 0 ≡ b
last_of front b = ap (λ k. get_or (front ++ b ∷ []) k 0) (before_last front b) ∙ get_or-append_seam front b [] 0

front_of : (front : List ℕ) (b : ℕ) → take (length (front ++ b ∷ []) - 1) (front ++ b ∷ []) ≡ front
front_of front b = ap (λ k. take k (front ++ b ∷ [])) (before_last front b) ∙ take-append_seam front (b ∷ [])

-- ---- a text without the brace that closes it

abbrev without_brace : List ℕ → Bool → Option (List ℕ)
without_brace kept closed = cond closed (Some (take (length kept - 1) kept)) None

abbrev is_closed : List ℕ → Bool
is_closed kept = eqb (get_or kept (length kept - 1) 0) 125

opened_is : (text : List ℕ) → opened text ≡ without_brace (trimmed text) (is_closed (trimmed text))
unfolding opened
opened_is text = refl

closed_front : (front : List ℕ) → without_brace (front ++ 125 ∷ []) (is_closed (front ++ 125 ∷ [])) ≡ Some front
closed_front front =
    ap (λ v. without_brace (front ++ 125 ∷ []) (eqb v 125)) (last_of front 125) ∙ ap Some (front_of front 125)

pub opened_some : (text kept front : List ℕ) → kept ≡ trimmed text → kept ≡ front ++ 125 ∷ [] → opened text ≡ Some front
opened_some text kept front is split =
    let t : trimmed text ≡ front ++ 125 ∷ [] = sym is ∙ split in
    opened_is text ∙ ap (λ s. without_brace s (is_closed s)) t ∙ closed_front front

not_closed : (kept : List ℕ) (closed : Bool) → is_closed kept ≡ closed → ((front : List ℕ) → kept ≢ front ++ 125 ∷ []) → without_brace kept closed ≡ None
not_closed kept true is none = absurd (none (take (length kept - 1) kept) (ends_split kept 125 (omega arith) is))
not_closed kept false is none = refl

pub opened_none : (text kept : List ℕ) → kept ≡ trimmed text → ((front : List ℕ) → kept ≢ front ++ 125 ∷ []) → opened text ≡ None
opened_none text kept is none =
    opened_is text ∙ ap (λ s. without_brace s (is_closed s)) (sym is) ∙ not_closed kept (is_closed kept) refl none

pub opened_found : (text kept : List ℕ) (r : Option (Bor (List ℕ))) → kept ≡ trimmed text
    → MatchOption r ((front : List ℕ) → kept ≢ front ++ (125 ∷ [])) (λ x. kept ≡ x.now ++ (125 ∷ []))
    → IfSome r (λ front. opened text ≡ Some front.now) × IfNone r (opened text ≡ None)
opened_found text kept None is h = (tt, opened_none text kept is h)
opened_found text kept (Some x) is h = (opened_some text kept x.now is h, tt)

closed_split : (kept front : List ℕ) (closed : Bool) → is_closed kept ≡ closed → without_brace kept closed ≡ Some front → kept ≡ front ++ 125 ∷ []
closed_split kept front true is found =
    let e : take (length kept - 1) kept ≡ front = cc in
    ends_split kept 125 (omega arith) is ∙ ap (λ s. s ++ 125 ∷ []) e
closed_split kept front false is found = absurd (cc)

opened_shorter : (text front : List ℕ) → opened text ≡ Some front → length front + 1 ≤ length text
opened_shorter text front found =
    let kept = trimmed text in
    let split = closed_split kept front (is_closed kept) refl (sym (opened_is text) ∙ found) in
    omega (arith, length-trimmed text, ap length split, length-append front (125 ∷ []))

-- ---- the comma

pub comma_is : (front kept : List ℕ) (r : Bool) → kept ≡ trimmed front → r ≡ eqb (get_or kept (length kept - 1) 0) 123
    → comma front ≡ cond r [] (44 ∷ [])
unfolding comma
comma_is front kept r is test =
    ap (λ s. cond (eqb (get_or s (length s - 1) 0) 123) [] (44 ∷ [])) (sym is) ∙ ap (λ v. cond v [] (44 ∷ [])) (sym test)

length-cond : (b : Bool) (n : ℕ) (xs ys : List ℕ) → length xs ≤ n → length ys ≤ n → length (cond b xs ys) ≤ n
length-cond true n xs ys h k = h
length-cond false n xs ys h k = k

length-comma : (front : List ℕ) → length (comma front) ≤ 1
length-comma front =
    let kept = trimmed front in
    let r = eqb (get_or kept (length kept - 1) 0) 123 in
    let e = comma_is front kept r refl refl in
    rw e (length-cond r 1 [] (44 ∷ []) (omega arith) (omega arith))

-- ---- a marked text

length-uuid_text : (uuid : List ℕ) → length (uuid_text uuid) ≡ 36
length-uuid_text uuid =
    let character : ℕ → ℕ = λ k. cond (is_hyphen_place k) hyphen (hex_digit lower (nibble uuid (digit_place k))) in
    by_index_length 36 character

length-marked : (front uuid : List ℕ) → length (marked front uuid) ≤ length front + 54
unfolding marked
length-marked front uuid =
    let name : List ℕ = codes "\"conflict_of\":\"" in
    let end : List ℕ = codes "\"}" in
    omega (
      arith,
      length-append front (comma front ++ (name ++ (uuid_text uuid ++ end))),
      length-append (comma front) (name ++ (uuid_text uuid ++ end)),
      length-append name (uuid_text uuid ++ end),
      length-append (uuid_text uuid) end,
      length-comma front,
      length-uuid_text uuid,
    )

-- ---- the copy

le_true : (a b : ℕ) → ((leb a b ≡ true) × (a ≤ b)) ⊎ ((leb a b ≡ false) × (b < a)) → a ≤ b → leb a b ≡ true
le_true a b (inl found) h = found.0
le_true a b (inr found) h = absurd (omega (arith, found.1))

lt_false : (a b : ℕ) → ((leb a b ≡ true) × (a ≤ b)) ⊎ ((leb a b ≡ false) × (b < a)) → b < a → leb a b ≡ false
lt_false a b (inl found) h = absurd (omega (arith, found.1))
lt_false a b (inr found) h = found.0

both_chosen : (b o : Bool) (x y : List ℕ) → b ≡ true → o ≡ true → cond (b && o) x y ≡ x
both_chosen true true x y p q = refl
both_chosen true false x y p q = absurd (false≢true q)
both_chosen false o x y p q = absurd (false≢true p)

first_refuses : (b o : Bool) (x y : List ℕ) → b ≡ false → cond (b && o) x y ≡ y
first_refuses true o x y p = absurd (false≢true (sym p))
first_refuses false o x y p = refl

second_refuses : (b o : Bool) (x y : List ℕ) → o ≡ false → cond (b && o) x y ≡ y
second_refuses true true x y q = absurd (false≢true (sym q))
second_refuses true false x y q = refl
second_refuses false o x y q = refl

copy_is : (content uuid : List ℕ) (found : Option (List ℕ)) → opened content ≡ found → copy_of content uuid ≡ marked_or content found uuid
unfolding copy_of
copy_is content uuid found is = ap (λ o. marked_or content o uuid) is

pub copied : (content uuid front copy : List ℕ) (object : Bool) → length content ≤ longest_content → opened content ≡ Some front
    → copy ≡ marked front uuid → object ≡ is_object copy → object ≡ true → copy ≡ copy_of content uuid
copied content uuid front copy object short found is test passed =
    let right : is_object (marked front uuid) ≡ true = ap is_object (sym is) ∙ sym test ∙ passed in
    let first = le_true (length content) longest_content (leb_tells (length content) longest_content) short in
    is ∙ sym (copy_is content uuid (Some front) found
    ∙ both_chosen (leb (length content) longest_content) (is_object (marked front uuid)) (marked front uuid) content first right)

pub kept_other : (content uuid front copy : List ℕ) (object : Bool) → opened content ≡ Some front → copy ≡ marked front uuid
    → object ≡ is_object copy → object ≡ false → copy_of content uuid ≡ content
kept_other content uuid front copy object found is test failed =
    let wrong : is_object (marked front uuid) ≡ false = ap is_object (sym is) ∙ sym test ∙ failed in
    copy_is content uuid (Some front) found
    ∙ second_refuses (leb (length content) longest_content) (is_object (marked front uuid)) (marked front uuid) content wrong

pub kept_closed : (content uuid : List ℕ) → opened content ≡ None → copy_of content uuid ≡ content
kept_closed content uuid none = copy_is content uuid None none

kept_long_as : (content uuid : List ℕ) (found : Option (List ℕ)) → longest_content < length content → marked_or content found uuid ≡ content
kept_long_as content uuid None long = refl
kept_long_as content uuid (Some front) long =
    first_refuses (leb (length content) longest_content) (is_object (marked front uuid)) (marked front uuid) content
    (lt_false (length content) longest_content (leb_tells (length content) longest_content) long)

pub kept_long : (content uuid : List ℕ) → longest_content < length content → copy_of content uuid ≡ content
kept_long content uuid long = copy_is content uuid (opened content) refl ∙ kept_long_as content uuid (opened content) long

-- ---- what every copy is

chosen_object : (b o : Bool) (text content : List ℕ) → is_object text ≡ o → IsTrue (is_object content) → IsTrue (is_object (cond (b && o) text content))
chosen_object true true text content e h = e
chosen_object true false text content e h = h
chosen_object false o text content e h = h

object_or : (content uuid : List ℕ) (found : Option (List ℕ)) → IsTrue (is_object content) → IsTrue (is_object (marked_or content found uuid))
object_or content uuid None h = h
object_or content uuid (Some front) h =
    chosen_object (leb (length content) longest_content) (is_object (marked front uuid)) (marked front uuid) content refl h

pub copy_object : (content uuid copy : List ℕ) → copy ≡ copy_of content uuid → IsTrue (is_object content) → IsTrue (is_object copy)
copy_object content uuid copy is h =
    ap is_object (is ∙ copy_is content uuid (opened content) refl) ∙ object_or content uuid (opened content) h

bound_or : (content uuid : List ℕ) (found : Option (List ℕ)) → opened content ≡ found → length (marked_or content found uuid) ≤ length content + 53
bound_or content uuid None is = omega arith
bound_or content uuid (Some front) is =
    let less = opened_shorter content front is in
    let long = length-marked front uuid in
    length-cond (leb (length content) longest_content && is_object (marked front uuid)) (length content + 53) (marked front uuid) content
    (omega arith) (omega arith)

pub copy_bound : (content uuid copy : List ℕ) → copy ≡ copy_of content uuid → length copy ≤ length content + 53
copy_bound content uuid copy is =
    let e = is ∙ copy_is content uuid (opened content) refl in
    rw e (bound_or content uuid (opened content) refl)
