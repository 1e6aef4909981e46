-- An item's two strings have one content, and where they have one, no refusal but want of memory.
use Rattle.std.proofs.Common.{◌≡◌, ◌⊎◌, ◌∙◌, inl, inr, refl, sym, ap, subst, ℕ, List, Bool, true, false, Result, Ok, Err, IfOk, IfErr}
use Rattle.std.specs.Prelude.{IsTrue, ◌≢◌}
use Rattle.sn_cbc.specs.Cbc.{AreBytes}
use Rattle.sn_items.specs.ItemRefusals.{ItemHasCause}
use Rattle.sn_items.specs.Items.{CarriesParams, OpensItem, OpensKey, authentication_half, encryption_half}
use Rattle.sn_items.specs.Objects.{is_object}
use Rattle.sn_items.specs.Opens.{Opens}
use Rattle.sn_items.specs.declared.error.ItemError.{ItemError}
use Rattle.sn_items.specs.declared.error.ItemError.TheVariants.{Form, OtherUuid, HashMismatch, Padding, NotUtf8, NotItemKey, NotObject, OtherSet, Memory}
use Rattle.sn_items.specs.declared.sealed.Sealed.{Sealed}
use Rattle.sn_items.specs.declared.sealed.Which.{Which}
use Rattle.sn_items.specs.declared.sealed.Which.TheVariants.{Enc, Content}
use Rattle.sn_items.proofs.OpenLemmas.{no_form_refusal, no_refusal, opens_once, same_digits}
use Rattle.sn_items.proofs.Utf8Bytes.{utf8_bytes}
use Rattle.sn_string.specs.Grammar.{Reading, Is003}
use Rattle.sn_string.specs.Hex.{IsLowerHex}
use Rattle.sn_string.specs.declared.params.KeySet.{KeySet}
use Rattle.sn_string.specs.declared.params.Params.{Params}
use Rattle.sn_string.proofs.Facts.{one_reading}

one_text : (text uuid ek ak a b : List ℕ) → Opens text uuid ek ak a → Opens text uuid ek ak b → a ≡ b
one_text text uuid ek ak a b first second =
    opens_once text uuid ek ak a b (utf8_bytes a first.utf8) (utf8_bytes b second.utf8) first second

one_key : (enc uuid : List ℕ) (set : KeySet) (a b : List ℕ) → OpensKey enc uuid set a → OpensKey enc uuid set b → a ≡ b
one_key enc uuid set a b first second =
    let same : first.digits ≡ second.digits = one_text enc uuid set.mk set.ak first.digits second.digits first.opens second.opens in
    same_digits 64 second.digits a b (subst (λ digits. IsLowerHex 64 digits a) same first.spelled) second.spelled

-- the content string opens under another's key, if it is the same
under : (content uuid a b text : List ℕ) → a ≡ b → Opens content uuid (encryption_half a) (authentication_half a) text
    → Opens content uuid (encryption_half b) (authentication_half b) text
under content uuid a b text same opens = subst (λ key. Opens content uuid (encryption_half key) (authentication_half key) text) same opens

pub one_content : (sealed : Sealed) (uuid : List ℕ) (set : KeySet) (content other : List ℕ)
    → OpensItem sealed uuid set content → OpensItem sealed uuid set other → content ≡ other
one_content sealed uuid set content other first second =
    let same : first.key ≡ second.key = one_key sealed.enc uuid set first.key second.key first.enc second.enc in
    one_text sealed.content uuid (encryption_half second.key) (authentication_half second.key) content other
    (under sealed.content uuid first.key second.key content same first.opens) second.opens

-- a text carries one set's parameters
one_params : (text : List ℕ) (reading : Reading) (params : Params) → CarriesParams text params → Is003 text reading → reading.params ≡ params
one_params text reading params carries reads =
    ap (λ (r : Reading). r.params) (one_reading text reading carries.reading reads carries.reads) ∙ carries.params_are

not_both : (b : Bool) → IsTrue b → b ≡ false → ⊥
not_both b t f = cc

pub no_item_refusal : (sealed : Sealed) (uuid : List ℕ) (set : KeySet) (content : List ℕ) (which : Which) (error : ItemError)
    → OpensItem sealed uuid set content → ItemHasCause sealed uuid set which error → error ≡ Memory
no_item_refusal sealed uuid set content Enc (Form error) opens cause =
    absurd (no_form_refusal sealed.enc opens.carries.enc.reading error opens.carries.enc.reads cause)
no_item_refusal sealed uuid set content Enc (OtherUuid written) opens cause =
    no_refusal sealed.enc uuid set.mk set.ak opens.enc.digits (OtherUuid written) (utf8_bytes opens.enc.digits opens.enc.opens.utf8) opens.enc.opens cause.cause
no_item_refusal sealed uuid set content Enc (HashMismatch written computed) opens cause =
    no_refusal sealed.enc uuid set.mk set.ak opens.enc.digits (HashMismatch written computed) (utf8_bytes opens.enc.digits opens.enc.opens.utf8) opens.enc.opens cause.cause
no_item_refusal sealed uuid set content Enc Padding opens cause =
    no_refusal sealed.enc uuid set.mk set.ak opens.enc.digits Padding (utf8_bytes opens.enc.digits opens.enc.opens.utf8) opens.enc.opens cause.cause
no_item_refusal sealed uuid set content Enc (NotUtf8 place) opens cause =
    no_refusal sealed.enc uuid set.mk set.ak opens.enc.digits (NotUtf8 place) (utf8_bytes opens.enc.digits opens.enc.opens.utf8) opens.enc.opens cause.cause
no_item_refusal sealed uuid set content Enc NotItemKey opens cause =
    let same : opens.enc.digits ≡ cause.cause.text = one_text sealed.enc uuid set.mk set.ak opens.enc.digits cause.cause.text opens.enc.opens cause.cause.opens in
    absurd (cause.cause.none opens.key (subst (λ text. IsLowerHex 64 text opens.key) same opens.enc.spelled))
no_item_refusal sealed uuid set content Enc NotObject opens cause = absurd cause
no_item_refusal sealed uuid set content Enc (OtherSet nonce) opens cause =
    absurd (cause.differs (one_params sealed.enc cause.enc set.params opens.carries.enc cause.read.enc_reads))
no_item_refusal sealed uuid set content Enc Memory opens cause = refl
no_item_refusal sealed uuid set content Content (Form error) opens cause =
    absurd (no_form_refusal sealed.content opens.carries.content.reading error opens.carries.content.reads cause.refused)
no_item_refusal sealed uuid set content Content (OtherUuid written) opens cause =
    let same : opens.key ≡ cause.key = one_key sealed.enc uuid set opens.key cause.key opens.enc cause.enc in
    no_refusal sealed.content uuid (encryption_half cause.key) (authentication_half cause.key) content (OtherUuid written) (utf8_bytes content opens.opens.utf8)
    (under sealed.content uuid opens.key cause.key content same opens.opens) cause.cause
no_item_refusal sealed uuid set content Content (HashMismatch written computed) opens cause =
    let same : opens.key ≡ cause.key = one_key sealed.enc uuid set opens.key cause.key opens.enc cause.enc in
    no_refusal sealed.content uuid (encryption_half cause.key) (authentication_half cause.key) content (HashMismatch written computed) (utf8_bytes content opens.opens.utf8)
    (under sealed.content uuid opens.key cause.key content same opens.opens) cause.cause
no_item_refusal sealed uuid set content Content Padding opens cause =
    let same : opens.key ≡ cause.key = one_key sealed.enc uuid set opens.key cause.key opens.enc cause.enc in
    no_refusal sealed.content uuid (encryption_half cause.key) (authentication_half cause.key) content Padding (utf8_bytes content opens.opens.utf8)
    (under sealed.content uuid opens.key cause.key content same opens.opens) cause.cause
no_item_refusal sealed uuid set content Content (NotUtf8 place) opens cause =
    let same : opens.key ≡ cause.key = one_key sealed.enc uuid set opens.key cause.key opens.enc cause.enc in
    no_refusal sealed.content uuid (encryption_half cause.key) (authentication_half cause.key) content (NotUtf8 place) (utf8_bytes content opens.opens.utf8)
    (under sealed.content uuid opens.key cause.key content same opens.opens) cause.cause
no_item_refusal sealed uuid set content Content NotItemKey opens cause = absurd cause
no_item_refusal sealed uuid set content Content NotObject opens cause =
    let key_same : opens.key ≡ cause.key = one_key sealed.enc uuid set opens.key cause.key opens.enc cause.enc in
    let same : content ≡ cause.cause.text =
    one_text sealed.content uuid (encryption_half cause.key) (authentication_half cause.key) content cause.cause.text
    (under sealed.content uuid opens.key cause.key content key_same opens.opens) cause.cause.opens in
    absurd (not_both (is_object cause.cause.text) (subst (λ text. IsTrue (is_object text)) same opens.object) cause.cause.none)
no_item_refusal sealed uuid set content Content (OtherSet nonce) opens cause =
    absurd (cause.differs (one_params sealed.content cause.content set.params opens.carries.content cause.read.content_reads))
no_item_refusal sealed uuid set content Content Memory opens cause = refl

pub only_item : (sealed : Sealed) (uuid : List ℕ) (set : KeySet) (content : List ℕ) (answer : Result (List ℕ) (Which × ItemError))
    → OpensItem sealed uuid set content
    → IfOk answer (OpensItem sealed uuid set)
    → IfErr answer (λ why. ItemHasCause sealed uuid set why.0 why.1)
    → (answer ≡ Ok content) ⊎ ((which : Which) × (answer ≡ Err (which, Memory)))
only_item sealed uuid set content (Ok opened) opens ok err = inl (ap Ok (one_content sealed uuid set opened content ok opens))
only_item sealed uuid set content (Err why) opens ok err =
    inr (why.0, ap (λ error. Err (why.0, error)) (no_item_refusal sealed uuid set content why.0 why.1 opens err))
