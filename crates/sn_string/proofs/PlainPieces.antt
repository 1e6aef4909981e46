-- The plain JSON of parameters from its pieces, and of pieces that are written one after the other.
use Rattle.std.proofs.Common.{◌≡◌, ◌∙◌, ap, sym, ℕ, List, [], ◌∷◌, ◌++◌, append_assoc, codes, decimal}
use Rattle.std.specs.Str.{IsUtf8}
use Rattle.std.proofs.lemmas.Str.{IsUtf8-append}
use Rattle.sn_string.specs.Parameters.{plain_json}
use Rattle.sn_string.specs.declared.params.Params.{Params}

-- the pieces are put together as the JSON is written
pub plain_json-pieces : (json later last end identifier digits nonce : List ℕ) (p : Params)
    → json ≡ codes "{\"identifier\":\"" ++ (identifier ++ 34 ∷ later)
    → later ≡ codes ",\"pw_cost\":" ++ (digits ++ 44 ∷ last)
    → last ≡ codes "\"pw_nonce\":\"" ++ end
    → end ≡ nonce ++ codes "\",\"version\":\"003\"}"
    → identifier ≡ p.identifier → digits ≡ decimal p.pw_cost → nonce ≡ p.pw_nonce → json ≡ plain_json p
unfolding plain_json
plain_json-pieces json later last end identifier digits nonce p whole after_name after_cost after_nonce name cost seed =
    whole
    ∙ ap (λ t. codes "{\"identifier\":\"" ++ (identifier ++ 34 ∷ t)) after_name
    ∙ ap (λ t. codes "{\"identifier\":\"" ++ (identifier ++ (codes "\",\"pw_cost\":" ++ (digits ++ 44 ∷ t)))) after_cost
    ∙ ap (λ t. codes "{\"identifier\":\"" ++ (identifier ++ (codes "\",\"pw_cost\":" ++ (digits ++ (codes ",\"pw_nonce\":\"" ++ t))))) after_nonce
    ∙ ap (λ t. codes "{\"identifier\":\"" ++ (t ++ (codes "\",\"pw_cost\":" ++ (digits ++ (codes ",\"pw_nonce\":\"" ++ (nonce ++ codes "\",\"version\":\"003\"}")))))) name
    ∙ ap (λ t. codes "{\"identifier\":\"" ++ (p.identifier ++ (codes "\",\"pw_cost\":" ++ (t ++ (codes ",\"pw_nonce\":\"" ++ (nonce ++ codes "\",\"version\":\"003\"}")))))) cost
    ∙ ap (λ t. codes "{\"identifier\":\"" ++ (p.identifier ++ (codes "\",\"pw_cost\":" ++ (decimal p.pw_cost ++ (codes ",\"pw_nonce\":\"" ++ (t ++ codes "\",\"version\":\"003\"}")))))) seed

-- ---- pieces that are written

push_step : (s t x y : List ℕ) → t ≡ s ++ x → s ++ (x ++ y) ≡ t ++ y
push_step s t x y e = sym (append_assoc s x y) ∙ ap (λ (l : List ℕ). l ++ y) (sym e)

-- seven, behind the empty text
pub pushed_seven : (z s t u v w x y : List ℕ) (a b c d e f g : List ℕ) → z ≡ [] → s ≡ z ++ a → t ≡ s ++ b → u ≡ t ++ c → v ≡ u ++ d → w ≡ v ++ e → x ≡ w ++ f
    → y ≡ x ++ g → y ≡ a ++ (b ++ (c ++ (d ++ (e ++ (f ++ g)))))
pushed_seven z s t u v w x y a b c d e f g none one two three four five six seven =
    sym (
    ap (λ (l : List ℕ). l ++ (a ++ (b ++ (c ++ (d ++ (e ++ (f ++ g))))))) (sym none)
    ∙ push_step z s a (b ++ (c ++ (d ++ (e ++ (f ++ g))))) one
    ∙ push_step s t b (c ++ (d ++ (e ++ (f ++ g)))) two
    ∙ push_step t u c (d ++ (e ++ (f ++ g))) three
    ∙ push_step u v d (e ++ (f ++ g)) four
    ∙ push_step v w e (f ++ g) five
    ∙ push_step w x f g six
    ∙ sym seven
    )

-- what they are for parameters
pub plain_json-written : (text identifier digits nonce : List ℕ) (p : Params)
    → text ≡ codes "{\"identifier\":\"" ++ (identifier ++ (codes "\",\"pw_cost\":" ++ (digits ++ (codes ",\"pw_nonce\":\"" ++ (nonce ++ codes "\",\"version\":\"003\"}")))))
    → identifier ≡ p.identifier → digits ≡ decimal p.pw_cost → nonce ≡ p.pw_nonce → text ≡ plain_json p
unfolding plain_json
plain_json-written text identifier digits nonce p whole name cost seed =
    whole
    ∙ ap (λ t. codes "{\"identifier\":\"" ++ (t ++ (codes "\",\"pw_cost\":" ++ (digits ++ (codes ",\"pw_nonce\":\"" ++ (nonce ++ codes "\",\"version\":\"003\"}")))))) name
    ∙ ap (λ t. codes "{\"identifier\":\"" ++ (p.identifier ++ (codes "\",\"pw_cost\":" ++ (t ++ (codes ",\"pw_nonce\":\"" ++ (nonce ++ codes "\",\"version\":\"003\"}")))))) cost
    ∙ ap (λ t. codes "{\"identifier\":\"" ++ (p.identifier ++ (codes "\",\"pw_cost\":" ++ (decimal p.pw_cost ++ (codes ",\"pw_nonce\":\"" ++ (t ++ codes "\",\"version\":\"003\"}")))))) seed

pub utf8_seven : (a b c d e f g : List ℕ) → IsUtf8 a → IsUtf8 b → IsUtf8 c → IsUtf8 d → IsUtf8 e → IsUtf8 f → IsUtf8 g → IsUtf8 (a ++ (b ++ (c ++ (d ++ (e ++ (f ++ g))))))
utf8_seven a b c d e f g one two three four five six seven =
    IsUtf8-append a _ one (IsUtf8-append b _ two (IsUtf8-append c _ three (IsUtf8-append d _ four (IsUtf8-append e _ five (IsUtf8-append f g six seven)))))
