-- Bytes that are written piece by piece.
use Rattle.std.specs.Prelude.{◌≡◌, ℕ, ◌+◌, ◌<◌, Bool, List, [], ◌∷◌, ◌++◌, length, take, codes, Result, Ok, Err, OnErr}
use Rattle.std.specs.declared.option.Option.{Option}
use Rattle.std.specs.List.{flat_map}
use Rattle.std.specs.Io.KnownBytes.{Appends}
use Rattle.std.proofs.Common.{sym, ◌∙◌, ap, subst, arith, append_assoc, append-nil, length-append}
use Rattle.std.proofs.KnownBytes.{Appends-trans}
use Rattle.std.proofs.Math.Seq.{take-append-add}
use Rattle.std.proofs.lemmas.List.{take-append-le}
use Rattle.std.proofs.lemmas.Grind.{flat_map-append}
use Rattle.std.proofs.lemmas.List.Concat.{flat_map-cons}
use Rattle.sn_io.specs.Streams.{TakesPart}
use Rattle.sn_http.specs.Lines.{line, content_type, content_length, close, only_if}
use Rattle.sn_http.specs.Answers.{Passes, allowed, challenge, status_line, answer}
use Rattle.sn_http.specs.Requests.{credentials, request_line}

-- pieces behind one another
pub pushed : (start mid end a b : List ℕ) → mid ≡ start ++ a → end ≡ mid ++ b → end ≡ start ++ (a ++ b)
pushed start mid end a b first second = second ∙ ap (λ (l : List ℕ). l ++ b) first ∙ append_assoc start a b

-- a part of the first piece
pub part_of_first : (old new : Option (List ℕ)) (first second : List ℕ) → TakesPart old new first → TakesPart old new (first ++ second)
part_of_first old new first second x = (
  x.0,
  omega (arith, x.1, length-append first second),
  subst (λ (l : List ℕ). Appends old new l) (sym (take-append-le x.0 first second (omega (arith, x.1)))) x.2,
)

-- the first piece, and a part of the second
pub part_of_second : (old mid new : Option (List ℕ)) (first second : List ℕ) → Appends old mid first → TakesPart mid new second → TakesPart old new (first ++ second)
part_of_second old mid new first second a x = (
  length first + x.0,
  omega (arith, x.1, length-append first second),
  subst (λ (l : List ℕ). Appends old new l) (sym (take-append-add first second x.0)) (Appends-trans old mid new first (take x.0 second) a x.2),
)

pub pass_two : (a b c : Option (List ℕ)) (s t u p q : List ℕ) → Passes a b s t p → Passes b c t u q → Passes a c s u (p ++ q)
pass_two a b c s t u p q x y = (
  x.0 ++ y.0,
  Appends-trans a b c x.0 y.0 x.1 y.1,
  append_assoc x.0 y.0 u ∙ ap (λ (l : List ℕ). x.0 ++ l) y.2 ∙ sym (append_assoc x.0 t q) ∙ ap (λ (l : List ℕ). l ++ q) x.2 ∙ append_assoc s p q,
)

regroup : (s t p q gone : List ℕ) → gone ++ t ≡ s ++ p → gone ++ (t ++ q) ≡ s ++ (p ++ q)
regroup s t p q gone is = sym (append_assoc gone t q) ∙ ap (λ (l : List ℕ). l ++ q) is ∙ append_assoc s p q

pub pass_part : (a b c : Option (List ℕ)) (s t p q : List ℕ) → Passes a b s t p → TakesPart b c (t ++ q) → TakesPart a c (s ++ (p ++ q))
pass_part a b c s t p q x y = subst (λ (l : List ℕ). TakesPart a c l) (regroup s t p q x.0 x.2) (part_of_second a b c x.0 (t ++ q) x.1 y)

pub pass_all : (a b c : Option (List ℕ)) (s t p q : List ℕ) → Passes a b s t p → Appends b c (t ++ q) → Appends a c (s ++ (p ++ q))
pass_all a b c s t p q x y = subst (λ (l : List ℕ). Appends a c l) (regroup s t p q x.0 x.2) (Appends-trans a b c x.0 (t ++ q) x.1 y)

pub part_more : (old new : Option (List ℕ)) (s p q : List ℕ) → TakesPart old new (s ++ p) → TakesPart old new (s ++ (p ++ q))
part_more old new s p q x = subst (λ (l : List ℕ). TakesPart old new l) (append_assoc s p q) (part_of_first old new (s ++ p) q x)

pub part_as : (old new : Option (List ℕ)) (a b : List ℕ) → a ≡ b → TakesPart old new a → TakesPart old new b
part_as old new a b is x = subst (λ (l : List ℕ). TakesPart old new l) is x

pub on_err : {T E : Type 0} (P : Type 0) (result : Result T E) → P → OnErr result P
on_err P (Ok value) p = tt
on_err P (Err error) p = p

pub allowed_line : (allow : List ℕ) → 0 < length allow → flat_map line (allowed allow) ≡ codes "Allow: " ++ (allow ++ codes "\r\n")
allowed_line [] some = absurd (none some)
  where
    none : 0 < 0 → ⊥
    none lt = omega arith
allowed_line (byte ∷ bytes) some = append-nil (line (codes "Allow", byte ∷ bytes))

pub credentials_line : (token : List ℕ) → 0 < length token → flat_map line (credentials token) ≡ codes "Authorization: Bearer " ++ (token ++ codes "\r\n")
credentials_line [] some = absurd (none some)
  where
    none : 0 < 0 → ⊥
    none lt = omega arith
credentials_line (byte ∷ bytes) some = append-nil (line (codes "Authorization", codes "Bearer " ++ byte ∷ bytes))

-- the pieces of an answer
pub answer_pieces : (status : ℕ) (allow : List ℕ) (closing : Bool) (body : List ℕ)
    → (status_line status ++ flat_map line (content_type ++ content_length (length body))) ++ (flat_map line (allowed allow) ++ ((flat_map line (challenge status) ++ flat_map line (only_if closing close) ++ codes "\r\n") ++ body)) ≡ answer status allow closing body
answer_pieces status allow closing body =
    together line (status_line status) (content_type ++ content_length (length body)) (allowed allow) (challenge status) (only_if closing close) (codes "\r\n") body
  where
    together : {X : Type 0} (f : X → List ℕ) (start : List ℕ) (a b c d : List X) (end body : List ℕ)
        → (start ++ flat_map f a) ++ (flat_map f b ++ ((flat_map f c ++ flat_map f d ++ end) ++ body)) ≡ (start ++ (flat_map f (a ++ b ++ c ++ d) ++ end)) ++ body
    together f start a b c d end body = simp (flat_map-append, append_assoc)

-- the pieces of a request
pub request_pieces : (method target host token body : List ℕ) (post : Bool)
    → request_line method target ++ (line (codes "Host", host) ++ (flat_map line (only_if post content_type) ++ (flat_map line (credentials token) ++ (flat_map line (content_length (length body)) ++ (line (codes "Connection", codes "close") ++ (codes "\r\n" ++ body))))))
    ≡ (request_line method target ++ (flat_map line ((codes "Host", host) ∷ (only_if post content_type ++ credentials token ++ content_length (length body) ++ close)) ++ codes "\r\n")) ++ body
request_pieces method target host token body post =
    together line (request_line method target) (codes "Host", host) (only_if post content_type) (credentials token) (content_length (length body)) (codes "Connection", codes "close") (codes "\r\n") body
  where
    together : {X : Type 0} (f : X → List ℕ) (start : List ℕ) (a : X) (b c d : List X) (e : X) (end body : List ℕ)
        → start ++ (f a ++ (flat_map f b ++ (flat_map f c ++ (flat_map f d ++ (f e ++ (end ++ body)))))) ≡ (start ++ (flat_map f (a ∷ (b ++ c ++ d ++ e ∷ [])) ++ end)) ++ body
    together f start a b c d e end body = simp (flat_map-append, flat_map-cons, append_assoc, append-nil)

-- the end of an answer's head
abbrev pub answer_end : ℕ → Bool → List ℕ
answer_end status closing = flat_map line (challenge status) ++ flat_map line (only_if closing close) ++ codes "\r\n"

abbrev pub answer_start : ℕ → ℕ → List ℕ
answer_start status size = status_line status ++ flat_map line (content_type ++ content_length size)

pub answer_is : (start piece : List ℕ) (status : ℕ) (allow : List ℕ) (closing : Bool) (body : List ℕ) → start ≡ answer_start status (length body) → piece ≡ answer_end status closing
    → start ++ (flat_map line (allowed allow) ++ (piece ++ body)) ≡ answer status allow closing body
answer_is start piece status allow closing body start_is piece_is =
    ap (λ (l : List ℕ). l ++ (flat_map line (allowed allow) ++ (piece ++ body))) start_is
    ∙ ap (λ (l : List ℕ). answer_start status (length body) ++ (flat_map line (allowed allow) ++ (l ++ body))) piece_is
    ∙ answer_pieces status allow closing body
