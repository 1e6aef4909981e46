-- Whether strings carry parameters.
use Rattle.std.proofs.Common.{◌≡◌, ◌≢◌, ◌∙◌, Bool, true, false, IfOk, IsTrue, ◌↔◌, List, ℕ, Result, Ok, Err, sym, ap}
use Rattle.sn_rows.specs.declared.server_rows.ItemRow.{ItemRow}
use Rattle.sn_string.specs.Grammar.{Is003, Reading}
use Rattle.sn_string.specs.Parts.{reading_of}
use Rattle.sn_string.specs.Refusals.{IsRefusal}
use Rattle.sn_string.specs.declared.params.Params.{Params}
use Rattle.sn_string.specs.declared.reader.Parts.{Parts}
use Rattle.sn_string.specs.declared.reader.StringError.{StringError}
use Rattle.sn_string.specs.declared.reader.StringError.TheVariants as error
use Rattle.sn_string.proofs.Facts.{one_reading, read_back}
use Rattle.sn_account.specs.Rules.{Carries, CarriesText}

-- a text that is read carries what it is read with, and nothing else
pub carries_read : (text : List ℕ) (parts : Parts) (params : Params) (same : Bool) → Is003 text (reading_of parts)
    → (IsTrue same ↔ (parts.params ≡ params)) → (IsTrue same ↔ CarriesText text params)
carries_read text parts params same reads test = (
  λ holds. (reading_of parts, reads, test.0 holds),
  λ carried. test.1 (ap (λ (r : Reading). r.params) (one_reading text (reading_of parts) carried.0 reads carried.1) ∙ carried.2),
)

-- a text that is refused carries nothing
carries_refused : (text : List ℕ) (e : StringError) (params : Params) (b : Bool) → IsRefusal text e → (b ≡ false) × (e ≢ error.Memory)
    → (IsTrue b ↔ CarriesText text params)
carries_refused text e params b refusal not = (
  λ holds. absurd (let e = sym not.0 ∙ holds in cc),
  λ carried. absurd (not.1 (read_back text carried.0 carried.1 (Err e) refusal)),
)

pub carries_none : {E : Type 0} (text : List ℕ) (e : StringError) (params : Params) (outcome : Result Bool E) → IsRefusal text e
    → IfOk outcome (λ b. (b ≡ false) × (e ≢ error.Memory)) → IfOk outcome (λ b. IsTrue b ↔ CarriesText text params)
carries_none text e params (Ok b) refusal not = carries_refused text e params b refusal not
carries_none text e params (Err f) refusal not = tt

-- where the first string carries others, so does the item
pub carries_not_first : (item : ItemRow) (params : Params) (first : Bool) → (IsTrue first ↔ CarriesText item.content params)
    → first ≡ false → (IsTrue false ↔ Carries item params)
carries_not_first item params first test not = (
  λ holds. cc,
  λ carried. sym not ∙ test.1 carried.0,
)

-- and else it goes by the second
carries_both : (item : ItemRow) (params : Params) (first second : Bool) → (IsTrue first ↔ CarriesText item.content params) → first ≡ true
    → (IsTrue second ↔ CarriesText item.enc params) → (IsTrue second ↔ Carries item params)
carries_both item params first second test is other = (
  λ holds. (test.0 is, other.0 holds),
  λ carried. other.1 carried.1,
)

pub carries_second : {E : Type 0} (item : ItemRow) (params : Params) (first : Bool) (second : Result Bool E)
    → (IsTrue first ↔ CarriesText item.content params) → first ≡ true
    → IfOk second (λ carried. IsTrue carried ↔ CarriesText item.enc params)
    → IfOk second (λ carried. IsTrue carried ↔ Carries item params)
carries_second item params first (Ok second) test is other = carries_both item params first second test is other
carries_second item params first (Err e) test is other = tt
