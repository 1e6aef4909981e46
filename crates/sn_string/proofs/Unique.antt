-- A text has one reading, and one refusal.
use Rattle.std.proofs.Common.{◌≡◌, ◌≢◌, ◌∙◌, sym, ap, subst, ℕ, List, [], ◌∷◌, Result, Ok, Err, refl}
use Rattle.std.proofs.Props.{props}
use Rattle.std.specs.Prelude.{MatchResult}
use mathlib.Core.HLevel.{is_prop→PathP}
use Rattle.serde_json.specs.Data.{Data}
use Rattle.sn_string.specs.Bounds.{IsIdentifier, IsCost, IsNonce}
use Rattle.sn_string.specs.Grammar.{Is003, Reading, parts_of, version}
use Rattle.sn_string.specs.Laws.{IsOutcome}
use Rattle.sn_string.specs.Parameters.{HasParams, IsParamsJson, IsParamsPart}
use Rattle.sn_string.specs.Parts.{reading_of}
use Rattle.sn_string.specs.Refusals.{IsRefusal, RefusedFor, IsLeftmost}
use Rattle.sn_string.specs.declared.params.KeySet.{KeySet}
use Rattle.sn_string.specs.declared.params.Params.{Params}
use Rattle.sn_string.specs.declared.reader.Parts.{Parts}
use Rattle.sn_string.specs.declared.reader.StringError.{StringError}
use Rattle.sn_string.specs.declared.reader.StringError.TheVariants as error
use Rattle.sn_string.proofs.Base64Facts.{IsParamsJson-part}

-- parameters are equal where their three values are
pub same_params : (p q : Params) → p.identifier ≡ q.identifier → p.pw_cost ≡ q.pw_cost → p.pw_nonce ≡ q.pw_nonce → p ≡ q
same_params p q i c n =
    λ k. record {
      identifier = i k;
      pw_cost = c k;
      pw_nonce = n k;
      identifier_fits = is_prop→PathP (λ j. IsIdentifier (i j)) (λ j. hlevel props) p.identifier_fits q.identifier_fits k;
      cost_fits = is_prop→PathP (λ j. IsCost (c j)) (λ j. hlevel props) p.cost_fits q.cost_fits k;
      nonce_fits = is_prop→PathP (λ j. IsNonce (n j)) (λ j. hlevel props) p.nonce_fits q.nonce_fits k;
    }

-- key sets are equal where their parameters' values and their keys are
pub same_keys : (a b : KeySet) → a.params.identifier ≡ b.params.identifier → a.params.pw_cost ≡ b.params.pw_cost
    → a.params.pw_nonce ≡ b.params.pw_nonce → a.pw ≡ b.pw → a.mk ≡ b.mk → a.ak ≡ b.ak → a ≡ b
same_keys a b i c n pw mk ak =
    let params : a.params ≡ b.params = same_params a.params b.params i c n in
    λ k. record { params = params k; pw = pw k; mk = mk k; ak = ak k }

one_value : (value : Data) (p q : Params) → HasParams value p → HasParams value q → p ≡ q
one_value value p q h k =
    let i : p.identifier ≡ q.identifier = let e = sym h.identifier ∙ k.identifier in cc in
    let c : p.pw_cost ≡ q.pw_cost = let e = sym h.pw_cost ∙ k.pw_cost in cc in
    let n : p.pw_nonce ≡ q.pw_nonce = let e = sym h.pw_nonce ∙ k.pw_nonce in cc in
    same_params p q i c n

one_json : (json : List ℕ) (p q : Params) → IsParamsJson json p → IsParamsJson json q → p ≡ q
one_json json p q h k =
    let same : h.value ≡ k.value = let e = sym h.reads ∙ k.reads in cc in
    let P : Data → Type 0 = λ value. HasParams value p in
    one_value k.value p q (subst P same h.members) k.members

-- a params part stands for one set of parameters at most
pub one_params : (part : List ℕ) (p q : Params) → IsParamsPart part p → IsParamsPart part q → p ≡ q
one_params part p q h k = one_json k.json p q (IsParamsJson-part part k.json p k.encoded h) k.says

pub one_reading : (text : List ℕ) (a b : Reading) → Is003 text a → Is003 text b → a ≡ b
one_reading text a b h k =
    let e = sym h.parts ∙ k.parts in
    let hash : a.hash ≡ b.hash = cc in
    let uuid : a.uuid ≡ b.uuid = cc in
    let iv : a.iv ≡ b.iv = cc in
    let ciphertext : a.ciphertext ≡ b.ciphertext = cc in
    let part : a.params_text ≡ b.params_text = cc in
    let P : List ℕ → Type 0 = λ t. IsParamsPart t a.params in
    let params : a.params ≡ b.params = one_params b.params_text a.params b.params (subst P part h.params) k.params in
    λ i. record { hash = hash i; uuid = uuid i; iv = iv i; ciphertext = ciphertext i; params_text = part i; params = params i }

leftmost_of : (text : List ℕ) (r : Reading) (e : StringError) → Is003 text r → RefusedFor (parts_of text) e
    → IsLeftmost version r.hash r.uuid r.iv r.ciphertext r.params_text e
leftmost_of text r e h refusal =
    let P : List (List ℕ) → Type 0 = λ l. RefusedFor l e in
    subst P h.parts refusal

-- six parts in their forms are not refused
none_refused : (text : List ℕ) (r : Reading) (e : StringError) → Is003 text r → IsRefusal text e → e ≡ error.Memory
none_refused text r (error.Parts count) h refusal = absurd (leftmost_of text r (error.Parts count) h refusal)
none_refused text r (error.Version place) h refusal = absurd ((leftmost_of text r (error.Version place) h refusal).0 refl)
none_refused text r (error.Hash place) h refusal = absurd ((leftmost_of text r (error.Hash place) h refusal).1 h.hash)
none_refused text r (error.Uuid place) h refusal = absurd ((leftmost_of text r (error.Uuid place) h refusal).2 h.uuid)
none_refused text r (error.Iv place) h refusal = absurd ((leftmost_of text r (error.Iv place) h refusal).3 h.iv)
none_refused text r (error.Ciphertext place) h refusal = absurd ((leftmost_of text r (error.Ciphertext place) h refusal).4 h.ciphertext)
none_refused text r (error.Params place) h refusal = absurd ((leftmost_of text r (error.Params place) h refusal).5 r.params h.params)
none_refused text r error.Memory h refusal = refl

pub read_back : (text : List ℕ) (r : Reading) → Is003 text r → (outcome : Result Parts StringError) → IsOutcome text outcome
    → MatchResult outcome (λ parts. reading_of parts ≡ r) (λ e. e ≡ error.Memory)
read_back text r h (Ok parts) is = one_reading text (reading_of parts) r is h
read_back text r h (Err e) refusal = none_refused text r e h refusal

-- ---- one refusal

one_leftmost : (v h u i c p : List ℕ) (a b : StringError) → IsLeftmost v h u i c p a → IsLeftmost v h u i c p b → a ≡ b
one_leftmost v h u i c p (error.Parts n) b x y = absurd x
one_leftmost v h u i c p error.Memory b x y = absurd x
one_leftmost v h u i c p (error.Version m) (error.Parts n) x y = absurd y
one_leftmost v h u i c p (error.Version m) (error.Version n) x y = ap error.Version (x.1 ∙ sym y.1)
one_leftmost v h u i c p (error.Version m) (error.Hash n) x y = absurd (x.0 y.0)
one_leftmost v h u i c p (error.Version m) (error.Uuid n) x y = absurd (x.0 y.0)
one_leftmost v h u i c p (error.Version m) (error.Iv n) x y = absurd (x.0 y.0)
one_leftmost v h u i c p (error.Version m) (error.Ciphertext n) x y = absurd (x.0 y.0)
one_leftmost v h u i c p (error.Version m) (error.Params n) x y = absurd (x.0 y.0)
one_leftmost v h u i c p (error.Version m) error.Memory x y = absurd y
one_leftmost v h u i c p (error.Hash m) (error.Parts n) x y = absurd y
one_leftmost v h u i c p (error.Hash m) (error.Version n) x y = absurd (y.0 x.0)
one_leftmost v h u i c p (error.Hash m) (error.Hash n) x y = ap error.Hash (x.2 ∙ sym y.2)
one_leftmost v h u i c p (error.Hash m) (error.Uuid n) x y = absurd (x.1 y.1)
one_leftmost v h u i c p (error.Hash m) (error.Iv n) x y = absurd (x.1 y.1)
one_leftmost v h u i c p (error.Hash m) (error.Ciphertext n) x y = absurd (x.1 y.1)
one_leftmost v h u i c p (error.Hash m) (error.Params n) x y = absurd (x.1 y.1)
one_leftmost v h u i c p (error.Hash m) error.Memory x y = absurd y
one_leftmost v h u i c p (error.Uuid m) (error.Parts n) x y = absurd y
one_leftmost v h u i c p (error.Uuid m) (error.Version n) x y = absurd (y.0 x.0)
one_leftmost v h u i c p (error.Uuid m) (error.Hash n) x y = absurd (y.1 x.1)
one_leftmost v h u i c p (error.Uuid m) (error.Uuid n) x y = ap error.Uuid (x.3 ∙ sym y.3)
one_leftmost v h u i c p (error.Uuid m) (error.Iv n) x y = absurd (x.2 y.2)
one_leftmost v h u i c p (error.Uuid m) (error.Ciphertext n) x y = absurd (x.2 y.2)
one_leftmost v h u i c p (error.Uuid m) (error.Params n) x y = absurd (x.2 y.2)
one_leftmost v h u i c p (error.Uuid m) error.Memory x y = absurd y
one_leftmost v h u i c p (error.Iv m) (error.Parts n) x y = absurd y
one_leftmost v h u i c p (error.Iv m) (error.Version n) x y = absurd (y.0 x.0)
one_leftmost v h u i c p (error.Iv m) (error.Hash n) x y = absurd (y.1 x.1)
one_leftmost v h u i c p (error.Iv m) (error.Uuid n) x y = absurd (y.2 x.2)
one_leftmost v h u i c p (error.Iv m) (error.Iv n) x y = ap error.Iv (x.4 ∙ sym y.4)
one_leftmost v h u i c p (error.Iv m) (error.Ciphertext n) x y = absurd (x.3 y.3)
one_leftmost v h u i c p (error.Iv m) (error.Params n) x y = absurd (x.3 y.3)
one_leftmost v h u i c p (error.Iv m) error.Memory x y = absurd y
one_leftmost v h u i c p (error.Ciphertext m) (error.Parts n) x y = absurd y
one_leftmost v h u i c p (error.Ciphertext m) (error.Version n) x y = absurd (y.0 x.0)
one_leftmost v h u i c p (error.Ciphertext m) (error.Hash n) x y = absurd (y.1 x.1)
one_leftmost v h u i c p (error.Ciphertext m) (error.Uuid n) x y = absurd (y.2 x.2)
one_leftmost v h u i c p (error.Ciphertext m) (error.Iv n) x y = absurd (y.3 x.3)
one_leftmost v h u i c p (error.Ciphertext m) (error.Ciphertext n) x y = ap error.Ciphertext (x.5 ∙ sym y.5)
one_leftmost v h u i c p (error.Ciphertext m) (error.Params n) x y = absurd (x.4 y.4)
one_leftmost v h u i c p (error.Ciphertext m) error.Memory x y = absurd y
one_leftmost v h u i c p (error.Params m) (error.Parts n) x y = absurd y
one_leftmost v h u i c p (error.Params m) (error.Version n) x y = absurd (y.0 x.0)
one_leftmost v h u i c p (error.Params m) (error.Hash n) x y = absurd (y.1 x.1)
one_leftmost v h u i c p (error.Params m) (error.Uuid n) x y = absurd (y.2 x.2)
one_leftmost v h u i c p (error.Params m) (error.Iv n) x y = absurd (y.3 x.3)
one_leftmost v h u i c p (error.Params m) (error.Ciphertext n) x y = absurd (y.4 x.4)
one_leftmost v h u i c p (error.Params m) (error.Params n) x y = ap error.Params (x.6 ∙ sym y.6)
one_leftmost v h u i c p (error.Params m) error.Memory x y = absurd y

one_of : (parts : List (List ℕ)) (a b : StringError) → RefusedFor parts a → RefusedFor parts b → a ≡ b
one_of [] a b x y = x ∙ sym y
one_of (v ∷ []) a b x y = x ∙ sym y
one_of (v ∷ h ∷ []) a b x y = x ∙ sym y
one_of (v ∷ h ∷ u ∷ []) a b x y = x ∙ sym y
one_of (v ∷ h ∷ u ∷ i ∷ []) a b x y = x ∙ sym y
one_of (v ∷ h ∷ u ∷ i ∷ c ∷ []) a b x y = x ∙ sym y
one_of (v ∷ h ∷ u ∷ i ∷ c ∷ p ∷ []) a b x y = one_leftmost v h u i c p a b x y
one_of (v ∷ h ∷ u ∷ i ∷ c ∷ p ∷ q ∷ qs) a b x y = x ∙ sym y

refusal_of : (text : List ℕ) (e : StringError) → e ≢ error.Memory → IsRefusal text e → RefusedFor (parts_of text) e
refusal_of text (error.Parts n) other h = h
refusal_of text (error.Version n) other h = h
refusal_of text (error.Hash n) other h = h
refusal_of text (error.Uuid n) other h = h
refusal_of text (error.Iv n) other h = h
refusal_of text (error.Ciphertext n) other h = h
refusal_of text (error.Params n) other h = h
refusal_of text error.Memory other h = absurd (other refl)

pub one_refusal : (text : List ℕ) (a b : StringError) → a ≢ error.Memory → b ≢ error.Memory → IsRefusal text a → IsRefusal text b → a ≡ b
one_refusal text a b na nb x y = one_of (parts_of text) a b (refusal_of text a na x) (refusal_of text b nb y)
