-- The query that is written asks for its identifier.
use Rattle.std.proofs.Common.{arith, rules, ◌≡◌, ◌∙◌, ap, ℕ, ◌+◌, ◌/◌, ◌<◌, true, cond, ltb, ltb-true, List, [], ◌∷◌, map, codes, Some, IsUtf8, inl, inr, subst}
use Rattle.std.specs.List.{All}
use Rattle.std.specs.Str.{bytes_eq}
use Rattle.std.specs.Str.Lossy.{utf8_lossy}
use Rattle.std.proofs.Math.Utf8.{encode, encodes, next, scalar, scalar_cases, scalars}
use Rattle.std.proofs.lemmas.Bool.{and_parts, cond-true, cond_both}
use Rattle.std.proofs.lemmas.List.Elements.{All-append, All-cons, All-nil}
use Rattle.std.proofs.lemmas.Slice.Eq.{bytes_eq-Decides}
use Rattle.std.proofs.lemmas.Str.{IsUtf8-from_ascii, utf8_lossy-IsUtf8}
use Rattle.form_urlencoded.specs.Form.{decode, raw_pairs}
use Rattle.form_urlencoded.proofs.FormLemmas.{IsBytePair, round_trip}
use Rattle.sn_sync.specs.Members.{Bytes}
use Rattle.sn_sync.specs.Query.{first_of, first_value, query_text}

abbrev IsByte : ℕ → Type 0
IsByte b = b < 256

-- ---- the bytes of a text

All-encode : (c : ℕ) → scalar c ≡ true → All IsByte (encode c)
unfolding encode
All-encode c ok =
    let below : c < 1114112 = elim (scalar_cases c ok) [ inl low ↦ omega arith | inr high ↦ high.1 ] in
    let cons : (x : ℕ) (xs : Bytes) → x < 256 → All IsByte xs → All IsByte (x ∷ xs) = All-cons IsByte in
    let last : (x : ℕ) (xs : Bytes) → All IsByte xs → All IsByte (next x ∷ xs) = λ x xs rest. cons (next x) xs (omega arith) rest in
    let nil : All IsByte [] = All-nil IsByte in
    let two : Bytes = (192 + c / 64) ∷ next c ∷ [] in
    let three : Bytes = (224 + c / 4096) ∷ next (c / 64) ∷ next c ∷ [] in
    let four : Bytes = (240 + c / 262144) ∷ next (c / 4096) ∷ next (c / 64) ∷ next c ∷ [] in
    cond_both (ltb c 128) (c ∷ []) (cond (ltb c 2048) two (cond (ltb c 65536) three four)) (All IsByte)
    (λ low. let small : c < 128 = ltb-true c 128 low in cons c [] (omega arith) nil)
    (λ _. cond_both (ltb c 2048) two (cond (ltb c 65536) three four) (All IsByte)
    (λ low. let small : c < 2048 = ltb-true c 2048 low in cons (192 + c / 64) (next c ∷ []) (omega arith) (last c [] nil))
    (λ _. cond_both (ltb c 65536) three four (All IsByte)
    (λ low. let small : c < 65536 = ltb-true c 65536 low in cons (224 + c / 4096) (next (c / 64) ∷ next c ∷ []) (omega arith) (last (c / 64) (next c ∷ []) (last c [] nil)))
    (λ _. cons (240 + c / 262144) (next (c / 4096) ∷ next (c / 64) ∷ next c ∷ []) (omega arith)
    (last (c / 4096) (next (c / 64) ∷ next c ∷ []) (last (c / 64) (next c ∷ []) (last c [] nil))))))

All-encodes : (cs : List ℕ) → scalars cs ≡ true → All IsByte (encodes cs)
All-encodes [] ok = All-nil IsByte
All-encodes (c ∷ cs) ok =
    let parts = and_parts (scalar c) (scalars cs) ok in
    All-append IsByte (encode c) (encodes cs) (All-encode c parts.0) (All-encodes cs parts.1)

pub All-IsUtf8 : (text : Bytes) → IsUtf8 text → All IsByte text
All-IsUtf8 text h = subst (All IsByte) h.1.1 (All-encodes h.0 h.1.0)

-- ---- the query

abbrev decoded : Bytes × Bytes → Bytes × Bytes
decoded pair = (decode pair.0, decode pair.1)

-- the first pair has the name
first_of-pair : (pairs : List (Bytes × Bytes)) (name value : Bytes) → IsUtf8 name → IsUtf8 value
    → map decoded pairs ≡ (name, value) ∷ [] → first_of name pairs ≡ Some value
first_of-pair [] name value n v e = absurd (let impossible : ⊥ = cc in impossible)
first_of-pair (p ∷ ps) name value n v e =
    let both : decoded p ≡ (name, value) = cc in
    let named : decode p.0 ≡ name = ap (λ (q : Bytes × Bytes). q.0) both in
    let says : decode p.1 ≡ value = ap (λ (q : Bytes × Bytes). q.1) both in
    let same : bytes_eq (utf8_lossy (decode p.0)) name ≡ true = (bytes_eq-Decides (utf8_lossy (decode p.0)) name).1 (ap utf8_lossy named ∙ utf8_lossy-IsUtf8 name n) in
    cond-true _ _ _ same ∙ ap Some (ap utf8_lossy says ∙ utf8_lossy-IsUtf8 value v)

email-ascii : IsUtf8 (codes "email")
email-ascii = IsUtf8-from_ascii (codes "email") (search rules)

pub first_value-query : (identifier : Bytes) → IsUtf8 identifier → first_value (codes "email") (query_text identifier) ≡ Some identifier
first_value-query identifier h =
    let pair : Bytes × Bytes = (codes "email", identifier) in
    let bytes : IsBytePair pair = (All-IsUtf8 (codes "email") email-ascii, All-IsUtf8 identifier h) in
    first_of-pair (raw_pairs (query_text identifier)) (codes "email") identifier email-ascii h
    (round_trip (pair ∷ []) (All-cons IsBytePair pair [] bytes (All-nil IsBytePair)))
