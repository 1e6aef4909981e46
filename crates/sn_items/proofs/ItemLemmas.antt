-- From what each string gives to what the item gives.
use Rattle.std.proofs.Common.{◌≡◌, ◌≢◌, ◌∙◌, refl, sym, ap, subst, ℕ, List}
use Rattle.std.specs.Prelude.{IsTrue}
use Rattle.sn_items.specs.ItemRefusals.{BothRead, ContentStringCause, ContentHasCause, EncHasCause, KeyStringCause, SaysNonce, form_of}
use Rattle.sn_items.specs.Items.{Carries, OpensKey}
use Rattle.sn_items.specs.declared.error.ItemError.{ItemError}
use Rattle.sn_items.specs.declared.error.ItemError.TheVariants.{Form, OtherUuid, HashMismatch, Padding, NotUtf8, NotItemKey, NotObject, OtherSet, Memory}
use Rattle.sn_items.specs.declared.sealed.Sealed.{Sealed}
use Rattle.sn_string.specs.Grammar.{Reading, Is003}
use Rattle.sn_string.specs.Refusals.{IsRefusal}
use Rattle.sn_string.specs.declared.params.KeySet.{KeySet}
use Rattle.sn_string.specs.declared.params.Params.{Params}
use Rattle.sn_string.specs.declared.reader.StringError.{StringError}
use Rattle.sn_string.specs.declared.reader.StringError.TheVariants as string

pub enc_form : (sealed : Sealed) (uuid : List ℕ) (set : KeySet) (error : StringError) → IsRefusal sealed.enc error
    → EncHasCause sealed uuid set (form_of error)
enc_form sealed uuid set string.Memory refused = tt
enc_form sealed uuid set (string.Parts n) refused = refused
enc_form sealed uuid set (string.Version n) refused = refused
enc_form sealed uuid set (string.Hash n) refused = refused
enc_form sealed uuid set (string.Uuid n) refused = refused
enc_form sealed uuid set (string.Iv n) refused = refused
enc_form sealed uuid set (string.Ciphertext n) refused = refused
enc_form sealed uuid set (string.Params n) refused = refused

pub content_form : (sealed : Sealed) (uuid : List ℕ) (set : KeySet) (enc : Reading) (error : StringError) → Is003 sealed.enc enc
    → IsRefusal sealed.content error → ContentHasCause sealed uuid set (form_of error)
content_form sealed uuid set enc string.Memory reads refused = tt
content_form sealed uuid set enc (string.Parts n) reads refused = record { enc = enc; enc_reads = reads; refused = refused }
content_form sealed uuid set enc (string.Version n) reads refused = record { enc = enc; enc_reads = reads; refused = refused }
content_form sealed uuid set enc (string.Hash n) reads refused = record { enc = enc; enc_reads = reads; refused = refused }
content_form sealed uuid set enc (string.Uuid n) reads refused = record { enc = enc; enc_reads = reads; refused = refused }
content_form sealed uuid set enc (string.Iv n) reads refused = record { enc = enc; enc_reads = reads; refused = refused }
content_form sealed uuid set enc (string.Ciphertext n) reads refused = record { enc = enc; enc_reads = reads; refused = refused }
content_form sealed uuid set enc (string.Params n) reads refused = record { enc = enc; enc_reads = reads; refused = refused }

pub enc_other : (sealed : Sealed) (uuid : List ℕ) (set : KeySet) (enc content : Reading) (error : ItemError) → Is003 sealed.enc enc
    → Is003 sealed.content content → enc.params ≢ set.params → SaysNonce enc.params.pw_nonce error → EncHasCause sealed uuid set error
enc_other sealed uuid set enc content (OtherSet nonce) enc_reads content_reads differs says =
    record { enc = enc; content = content; read = record { enc_reads = enc_reads; content_reads = content_reads }; differs = differs; nonce_is = says }
enc_other sealed uuid set enc content Memory enc_reads content_reads differs says = tt
enc_other sealed uuid set enc content (Form e) enc_reads content_reads differs says = absurd says
enc_other sealed uuid set enc content (OtherUuid written) enc_reads content_reads differs says = absurd says
enc_other sealed uuid set enc content (HashMismatch written computed) enc_reads content_reads differs says = absurd says
enc_other sealed uuid set enc content Padding enc_reads content_reads differs says = absurd says
enc_other sealed uuid set enc content (NotUtf8 place) enc_reads content_reads differs says = absurd says
enc_other sealed uuid set enc content NotItemKey enc_reads content_reads differs says = absurd says
enc_other sealed uuid set enc content NotObject enc_reads content_reads differs says = absurd says

pub content_other : (sealed : Sealed) (uuid : List ℕ) (set : KeySet) (enc content : Reading) (error : ItemError) → Is003 sealed.enc enc
    → Is003 sealed.content content → enc.params ≡ set.params → content.params ≢ set.params → SaysNonce content.params.pw_nonce error
    → ContentHasCause sealed uuid set error
content_other sealed uuid set enc content (OtherSet nonce) enc_reads content_reads same differs says =
    record {
      enc = enc;
      content = content;
      read = record { enc_reads = enc_reads; content_reads = content_reads };
      same = same;
      differs = differs;
      nonce_is = says;
    }
content_other sealed uuid set enc content Memory enc_reads content_reads same differs says = tt
content_other sealed uuid set enc content (Form e) enc_reads content_reads same differs says = absurd says
content_other sealed uuid set enc content (OtherUuid written) enc_reads content_reads same differs says = absurd says
content_other sealed uuid set enc content (HashMismatch written computed) enc_reads content_reads same differs says = absurd says
content_other sealed uuid set enc content Padding enc_reads content_reads same differs says = absurd says
content_other sealed uuid set enc content (NotUtf8 place) enc_reads content_reads same differs says = absurd says
content_other sealed uuid set enc content NotItemKey enc_reads content_reads same differs says = absurd says
content_other sealed uuid set enc content NotObject enc_reads content_reads same differs says = absurd says

pub both_carry : (sealed : Sealed) (params : Params) (enc content : Reading) → Is003 sealed.enc enc → Is003 sealed.content content
    → enc.params ≡ params → content.params ≡ params → Carries sealed params
both_carry sealed params enc content enc_reads content_reads enc_same content_same =
    record {
      enc = record { reading = enc; reads = enc_reads; params_are = enc_same };
      content = record { reading = content; reads = content_reads; params_are = content_same };
    }

pub enc_cause : (sealed : Sealed) (uuid : List ℕ) (set : KeySet) (error : ItemError) → Carries sealed set.params
    → KeyStringCause sealed.enc uuid set error → EncHasCause sealed uuid set error
enc_cause sealed uuid set (Form e) carries cause = cause
enc_cause sealed uuid set (OtherUuid written) carries cause = record { carries = carries; cause = cause }
enc_cause sealed uuid set (HashMismatch written computed) carries cause = record { carries = carries; cause = cause }
enc_cause sealed uuid set Padding carries cause = record { carries = carries; cause = cause }
enc_cause sealed uuid set (NotUtf8 place) carries cause = record { carries = carries; cause = cause }
enc_cause sealed uuid set NotItemKey carries cause = record { carries = carries; cause = cause }
enc_cause sealed uuid set NotObject carries cause = absurd cause
enc_cause sealed uuid set (OtherSet nonce) carries cause = absurd cause
enc_cause sealed uuid set Memory carries cause = tt

pub content_cause : (sealed : Sealed) (uuid key : List ℕ) (set : KeySet) (error : ItemError) → Carries sealed set.params
    → OpensKey sealed.enc uuid set key → ContentStringCause sealed.content uuid key error → ContentHasCause sealed uuid set error
content_cause sealed uuid key set (Form e) carries enc cause =
    record { enc = carries.enc.reading; enc_reads = carries.enc.reads; refused = cause }
content_cause sealed uuid key set (OtherUuid written) carries enc cause = record { carries = carries; key = key; enc = enc; cause = cause }
content_cause sealed uuid key set (HashMismatch written computed) carries enc cause =
    record { carries = carries; key = key; enc = enc; cause = cause }
content_cause sealed uuid key set Padding carries enc cause = record { carries = carries; key = key; enc = enc; cause = cause }
content_cause sealed uuid key set (NotUtf8 place) carries enc cause = record { carries = carries; key = key; enc = enc; cause = cause }
content_cause sealed uuid key set NotItemKey carries enc cause = absurd cause
content_cause sealed uuid key set NotObject carries enc cause = record { carries = carries; key = key; enc = enc; cause = cause }
content_cause sealed uuid key set (OtherSet nonce) carries enc cause = absurd cause
content_cause sealed uuid key set Memory carries enc cause = tt
