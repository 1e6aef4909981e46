-- Which set the versions of a row carry.
use Rattle.std.proofs.Common.{◌≡◌, ◌≢◌, ◌↔◌, ◌∙◌, ap, sym, subst, inl, inr, ℕ, List, Bool, true, false, Option, Some, Result, Ok, Err, IfOk, IsTrue}
use Rattle.sn_items.specs.Items.{Carries, CarriesParams}
use Rattle.sn_items.specs.declared.sealed.Sealed.{Sealed}
use Rattle.sn_rekey.specs.Carrying.{CarriesOther, CarriesSet, IsOfOther}
use Rattle.sn_rows.specs.declared.body.RowBody.{RowBody}
use Rattle.sn_rows.specs.declared.body.RowBody.TheVariants as row
use Rattle.sn_rows.specs.declared.body.RowStrings.{RowStrings}
use Rattle.sn_rows.specs.declared.device_rows.LocalItem.{LocalItem}
use Rattle.sn_sets.specs.Sets.{sealed_of}
use Rattle.sn_string.specs.Grammar.{Is003, Reading}
use Rattle.sn_string.specs.Refusals.{IsRefusal}
use Rattle.sn_string.specs.declared.params.KeySet.{KeySet}
use Rattle.sn_string.specs.declared.params.Params.{Params}
use Rattle.sn_string.specs.declared.reader.StringError.{StringError}
use Rattle.sn_string.specs.declared.reader.StringError.TheVariants.{Memory}
use Rattle.sn_string.proofs.Facts.{one_reading, read_back}

-- a test that fails
not_holds : {A : Type 0} (b : Bool) → (IsTrue b ↔ A) → b ≡ false → ¬ A
not_holds b test is = λ a. (let e : b ≡ true = test.1 a in absurd (let f = sym is ∙ e in cc))

-- ---- one string

pub carries_read : (text : List ℕ) (reading : Reading) (params : Params) (b : Bool) → Is003 text reading
    → (IsTrue b ↔ (reading.params ≡ params)) → (IsTrue b ↔ CarriesParams text params)
carries_read text reading params b reads test = (
  λ holds. record { reading = reading; reads = reads; params_are = test.0 holds },
  λ carries. test.1 (ap (λ (r : Reading). r.params) (one_reading text reading carries.reading reads carries.reads) ∙ carries.params_are),
)

pub carries_none : {E : Type 0} (text : List ℕ) (params : Params) (error : StringError) (outcome : Result Bool E) → IsRefusal text error
    → IfOk outcome (λ is. (is ≡ false) × (error ≢ Memory)) → IfOk outcome (λ b. IsTrue b ↔ CarriesParams text params)
carries_none text params error (Ok b) refused none = (
  λ holds. absurd (let e : b ≡ true = holds in let f = sym none.0 ∙ e in cc),
  λ carries. absurd (none.1 (read_back text carries.reading carries.reads (Err error) refused)),
)
carries_none text params error (Err e) refused none = tt

-- ---- both strings

pub enc_carries_not : (sealed : Sealed) (params : Params) (b : Bool) → (IsTrue b ↔ CarriesParams sealed.enc params) → b ≡ false
    → (IsTrue false ↔ Carries sealed params)
enc_carries_not sealed params b test is = (λ holds. absurd cc, λ carries. absurd (not_holds b test is carries.enc))

pub both_carry : {E : Type 0} (sealed : Sealed) (params : Params) (b : Bool) (outcome : Result Bool E) → (IsTrue b ↔ CarriesParams sealed.enc params)
    → b ≡ true → IfOk outcome (λ c. IsTrue c ↔ CarriesParams sealed.content params) → IfOk outcome (λ c. IsTrue c ↔ Carries sealed params)
both_carry sealed params b (Ok c) enc is content = (
  λ holds. record { enc = enc.0 is; content = content.0 holds },
  λ carries. content.1 carries.content,
)
both_carry sealed params b (Err e) enc is content = tt

-- ---- one place

pub sealed_carries : {E : Type 0} (set : KeySet) (place : Option RowBody) (strings : RowStrings) (outcome : Result Bool E) → place ≡ Some (row.Sealed strings)
    → IfOk outcome (λ b. IsTrue b ↔ Carries (sealed_of strings) set.params) → IfOk outcome (λ b. IsTrue b ↔ CarriesSet set place)
sealed_carries set place strings outcome is test =
    let P : Option RowBody → Type 0 = λ p. IfOk outcome (λ b. IsTrue b ↔ CarriesSet set p) in
    subst P (sym is) test

-- ---- the row

last_other : (set : KeySet) (local : LocalItem) (b : Bool) → ¬ (CarriesOther set local.body) → ¬ (CarriesOther set local.latest)
    → (IsTrue b ↔ CarriesOther set local.posted) → IsOfOther set local → IsTrue b
last_other set local b body latest posted (inl other) = absurd (body other)
last_other set local b body latest posted (inr (inl other)) = absurd (latest other)
last_other set local b body latest posted (inr (inr other)) = posted.1 other

pub other_posted : {E : Type 0} (set : KeySet) (local : LocalItem) (first second : Bool) (outcome : Result Bool E)
    → (IsTrue first ↔ CarriesOther set local.body) → first ≡ false → (IsTrue second ↔ CarriesOther set local.latest) → second ≡ false
    → IfOk outcome (λ b. IsTrue b ↔ CarriesOther set local.posted) → IfOk outcome (λ b. IsTrue b ↔ IsOfOther set local)
other_posted set local first second (Ok b) body not_body latest not_latest posted = (
  λ holds. inr (inr (posted.0 holds)),
  λ other. last_other set local b (not_holds first body not_body) (not_holds second latest not_latest) posted other,
)
other_posted set local first second (Err e) body not_body latest not_latest posted = tt
