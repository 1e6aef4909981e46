-- A text names a uuid where its parts are in their forms and the third spells it.
use Rattle.std.proofs.Common.{◌≡◌, ◌≢◌, ◌↔◌, ◌∙◌, sym, ap, subst, refl, ℕ, List, [], ◌∷◌, length, Bool, true, false, Result, Ok, Err, IfOk, IsTrue}
use Rattle.sn_string.specs.Grammar.{Is003, IsHash, IsUuid, IsIv, IsCiphertext, Reading, parts_of, version}
use Rattle.sn_string.specs.Parameters.{IsParamsPart}
use Rattle.sn_string.specs.Parts.{IsSix, HasForms}
use Rattle.sn_string.specs.Uuids.{IsUuidText}
use Rattle.sn_string.specs.declared.params.Params.{Params}
use Rattle.sn_string.specs.declared.reader.Six.{Six}

-- the text that was written for a uuid is compared with another
pub spelled_text : (text written uuid : List ℕ) (is : Bool) → IsUuidText written uuid → (IsTrue is ↔ (written ≡ text))
    → (IsTrue is ↔ IsUuidText text uuid)
spelled_text text written uuid is spelled test = (
  λ holds. subst (λ t. IsUuidText t uuid) (test.0 holds) spelled,
  λ other. test.1 (spelled.spelled ∙ sym other.spelled),
)

-- no reading names the uuid
abbrev pub NamesNone : List ℕ → List ℕ → Type 0
NamesNone text uuid = (r : Reading) → Is003 text r → ¬ (IsUuidText r.uuid uuid)

-- a reading has six parts
pub not_six : (text uuid : List ℕ) → length (parts_of text) ≢ 6 → NamesNone text uuid
not_six text uuid other r h names = other (ap length h.parts)

-- and they are in their forms
forms_of : (text : List ℕ) (six : Six) (r : Reading) → IsSix text six → Is003 text r → HasForms six
forms_of text six r parts h =
    let e = sym h.parts ∙ parts in
    let v : six.version.now ≡ version = cc in
    let hash : r.hash ≡ six.hash.now = cc in
    let uuid : r.uuid ≡ six.uuid.now = cc in
    let iv : r.iv ≡ six.iv.now = cc in
    let ciphertext : r.ciphertext ≡ six.ciphertext.now = cc in
    record {
      version = v;
      hash = subst IsHash hash h.hash;
      uuid = subst IsUuid uuid h.uuid;
      iv = subst IsIv iv h.iv;
      ciphertext = subst IsCiphertext ciphertext h.ciphertext;
    }

pub other_forms : (text uuid : List ℕ) (six : Six) (is : Bool) → IsSix text six → (IsTrue is ↔ (HasForms six × IsUuidText six.uuid.now uuid))
    → is ≡ false → NamesNone text uuid
other_forms text uuid six is parts test not r h names =
    let e = sym h.parts ∙ parts in
    let same : r.uuid ≡ six.uuid.now = cc in
    let spelled : IsUuidText six.uuid.now uuid = subst (λ t. IsUuidText t uuid) same names in
    let holds : is ≡ true = test.1 (forms_of text six r parts h, spelled) in
    (let f = sym not ∙ holds in cc)

-- the reading of six parts with these parameters
abbrev reading_with : Six → Params → Reading
reading_with six p = record {
  hash = six.hash.now;
  uuid = six.uuid.now;
  iv = six.iv.now;
  ciphertext = six.ciphertext.now;
  params_text = six.params_text.now;
  params = p;
}

Is003-six : (text : List ℕ) (six : Six) (p : Params) → IsSix text six → HasForms six → IsParamsPart six.params_text.now p → Is003 text (reading_with six p)
Is003-six text six p parts forms part = record {
  parts = parts ∙ ap (λ v. v ∷ six.hash.now ∷ six.uuid.now ∷ six.iv.now ∷ six.ciphertext.now ∷ six.params_text.now ∷ []) forms.version;
  hash = forms.hash;
  uuid = forms.uuid;
  iv = forms.iv;
  ciphertext = forms.ciphertext;
  params = part;
}

last_of : (text : List ℕ) (six : Six) (r : Reading) → IsSix text six → Is003 text r → IsParamsPart six.params_text.now r.params
last_of text six r parts h =
    let e = sym h.parts ∙ parts in
    let same : r.params_text ≡ six.params_text.now = cc in
    subst (λ t. IsParamsPart t r.params) same h.params

abbrev pub Names : List ℕ → List ℕ → Type 0
Names text uuid = (r : Reading) × Is003 text r × IsUuidText r.uuid uuid

-- whether the last part stands for parameters decides
pub named_six : {E : Type 0} (text uuid : List ℕ) (six : Six) (outcome : Result Bool E) → IsSix text six → HasForms six × IsUuidText six.uuid.now uuid
    → IfOk outcome (λ is. IsTrue is ↔ ((p : Params) × IsParamsPart six.params_text.now p)) → IfOk outcome (λ is. IsTrue is ↔ Names text uuid)
named_six text uuid six (Ok is) parts forms test = (
  λ holds. let found = test.0 holds in (reading_with six found.0, Is003-six text six found.0 parts forms.0 found.1, forms.1),
  λ own. test.1 (own.0.params, last_of text six own.0 parts own.1),
)
named_six text uuid six (Err e) parts forms test = tt

pub named_none : (text uuid : List ℕ) → NamesNone text uuid → (IsTrue false ↔ Names text uuid)
named_none text uuid none = (λ holds. absurd cc, λ own. absurd (none own.0 own.1 own.2))

abbrev pub NamesUnder : List ℕ → List ℕ → Params → Type 0
NamesUnder text uuid p = (r : Reading) × Is003 text r × IsUuidText r.uuid uuid × (r.params ≡ p)

-- and whether it stands for these
pub named_under : {E : Type 0} (text uuid : List ℕ) (p : Params) (six : Six) (outcome : Result Bool E) → IsSix text six
    → HasForms six × IsUuidText six.uuid.now uuid → IfOk outcome (λ is. IsTrue is ↔ IsParamsPart six.params_text.now p)
    → IfOk outcome (λ is. IsTrue is ↔ NamesUnder text uuid p)
named_under text uuid p six (Ok is) parts forms test = (
  λ holds. (reading_with six p, Is003-six text six p parts forms.0 (test.0 holds), forms.1, refl),
  λ own. test.1 (subst (λ q. IsParamsPart six.params_text.now q) own.3 (last_of text six own.0 parts own.1)),
)
named_under text uuid p six (Err e) parts forms test = tt

pub named_under_none : (text uuid : List ℕ) (p : Params) → NamesNone text uuid → (IsTrue false ↔ NamesUnder text uuid p)
named_under_none text uuid p none = (λ holds. absurd cc, λ own. absurd (none own.0 own.1 own.2))
