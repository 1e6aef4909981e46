-- Cutting a text at its first colon gives its first part.
use Rattle.std.proofs.Common.{arith, ◌≡◌, ◌∙◌, ap, subst, ℕ, ◌+◌, ◌<◌, ◌≤◌, false, List, [], ◌∷◌, length, take, drop, get_or}
use Rattle.std.specs.List.{position_or_len, slice_range}
use Rattle.std.specs.Str.{IsUtf8, IsCharBoundary}
use Rattle.std.proofs.lemmas.Bool.{eqb-true, false_from_ne_true}
use Rattle.std.proofs.lemmas.List.{get_or_default}
use Rattle.std.proofs.lemmas.List.Splits.{slice_split_first, slice_split_none, length-slice_split}
use Rattle.std.proofs.lemmas.List.Sums.{position_or_len_is}
use Rattle.std.proofs.lemmas.Str.{IsCharBoundary-after_ascii}
use Rattle.memchr.specs.Find.{Nowhere, NoneBefore, Passes}
use Rattle.sn_string.specs.Grammar.{is_colon, parts_of}

-- the first colon stands at this place
abbrev pub IsFirstColon : List ℕ → ℕ → Type 0
IsFirstColon text place = NoneBefore (Passes is_colon text) 0 (length text) place × Passes is_colon text place

-- a colon is ASCII
colon_is_ascii : (text : List ℕ) (place : ℕ) → Passes is_colon text place → get_or text place 0 < 128
colon_is_ascii text place at = let is : get_or text place 0 ≡ 58 = eqb-true _ _ at in omega (arith, is)

pub after_colon : (text : List ℕ) (place : ℕ) → IsUtf8 text → IsFirstColon text place → IsCharBoundary text (place + 1)
after_colon text place utf8 first = IsCharBoundary-after_ascii text place utf8 first.0.high (colon_is_ascii text place first.1)

none_below : (text : List ℕ) (place : ℕ) → Nowhere (Passes is_colon text) 0 place → (k : ℕ) → k < place → is_colon (get_or text k 0) ≡ false
none_below text place none k below = false_from_ne_true (is_colon (get_or text k 0)) (λ at. none k (omega arith) below at)

pub some_cut : (text : List ℕ) (place : ℕ) → IsFirstColon text place → parts_of text ≡ slice_range text 0 place ∷ parts_of (drop (place + 1) text)
some_cut text place first =
    let is : position_or_len is_colon text ≡ place =
    position_or_len_is is_colon text place 0 (omega (arith, first.0.high)) (none_below text place first.0.before) (λ within. first.1) in
    let parts = slice_split_first is_colon text 0 (omega (arith, is, first.0.high)) in
    parts ∙ ap (λ n. take n text ∷ parts_of (drop (n + 1) text)) is ∙ ap (λ n. take n text ∷ parts_of (drop (place + 1) text)) (omega arith)

some_more : (rest : List ℕ) → 1 ≤ length (parts_of rest)
some_more rest = omega (arith, length-slice_split is_colon rest)

pub more_cut : (text : List ℕ) (place : ℕ) → IsFirstColon text place → 2 ≤ length (parts_of text)
more_cut text place first =
    let parts = some_cut text place first in
    let more = some_more (drop (place + 1) text) in
    rw parts (omega arith)

pub no_cut : (text : List ℕ) → Nowhere (Passes is_colon text) 0 (length text) → parts_of text ≡ text ∷ []
no_cut text none =
    slice_split_none is_colon text (λ k d within. subst (λ x. is_colon x ≡ false) (get_or_default text k 0 d within) (none_below text (length text) none k within))
