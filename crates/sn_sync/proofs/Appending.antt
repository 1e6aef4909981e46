-- Tokens that are appended one after another.
use Rattle.std.proofs.Common.{◌∙◌, ap, List, [], ◌∷◌, ◌++◌, Ok, OnOk, Result, append_assoc, append-nil, refl, sym}
use Rattle.std.proofs.lemmas.Result.{on_ok_weaker}
use Rattle.json.specs.Token.{Token}
use Rattle.json.specs.Written.{Writes, Written}
use Rattle.sn_sync.specs.Appended.{Appends}

pub Appends-none : (a : Written) → Appends a a []
Appends-none a = record { before = refl; tokens = sym (append-nil a.tokens) }

pub Appends-one : {E : Type 0} {a b : Written} {t : Token} → Writes {E = E} (Ok tt) a b t → Appends a b (t ∷ [])
Appends-one {E} {a} {b} {t} w = record { before = w.room.0; tokens = w.ok }

Appends-both : {a b c : Written} {xs ys : List Token} → Appends a b xs → Appends b c ys → Appends a c (xs ++ ys)
Appends-both {a} {b} {c} {xs} {ys} h k = record {
  before = k.before ∙ h.before;
  tokens = k.tokens ∙ ap (λ ts. ts ++ ys) h.tokens ∙ append_assoc a.tokens xs ys;
}

-- these tokens, and then those
infixr 20 ◌>>◌
pub ◌>>◌ : {a b c : Written} {xs ys : List Token} → Appends a b xs → Appends b c ys → Appends a c (xs ++ ys)
h >> k = Appends-both h k

-- the last token, whose answer is given back
pub ends_with : {E Q : Type 0} {r : Result (Unit {0}) E} {a b : Written} {t : Token} → Writes r a b t → (Appends a b (t ∷ []) → Q) → OnOk r Q
ends_with {E} {Q} {r} {a} {b} {t} w f = on_ok_weaker r (λ tokens. f (record { before = w.room.0; tokens = tokens })) w.ok
