-- What the parts of a text fix.
use Rattle.std.proofs.Common.{◌≡◌, ◌⊎◌, inl, inr, ℕ, List, [], Result, Ok, Err, IfOk, IfErr, Option, Some, None, String, string_bytes, refl, sym, ap, subst, ◌∙◌}
use Rattle.std.specs.declared.alloc.Global.{Global}
use Rattle.std.specs.Str.{IsUtf8}
use Rattle.sn_cbc.specs.Cbc.{AreBytes, IsCbc, IsWhole, padded}
use Rattle.sn_cbc.proofs.Facts.{one_text, padded_bytes, padded_injective}
use Rattle.sn_items.specs.Opens.{Opens, Decrypts, IsAuthentic, hash_of}
use Rattle.sn_items.specs.Refusals.{HasCause}
use Rattle.sn_items.specs.Utf8.{IsValidTo}
use Rattle.sn_items.specs.declared.error.ItemError.{ItemError}
use Rattle.sn_items.specs.declared.error.ItemError.TheVariants.{Form, OtherUuid, HashMismatch, Padding, NotUtf8, NotItemKey, NotObject, OtherSet, Memory}
use Rattle.sn_string.specs.Base64.{IsBase64}
use Rattle.sn_string.specs.Grammar.{Reading, Is003, IsCiphertext, parts_of}
use Rattle.sn_string.specs.Hex.{IsLowerHex}
use Rattle.sn_string.specs.Refusals.{RefusedFor}
use Rattle.sn_string.specs.Uuids.{IsUuidText}
use Rattle.sn_string.specs.declared.reader.StringError.{StringError}
use Rattle.sn_string.specs.declared.reader.StringError.TheVariants as string
use Rattle.sn_string.proofs.Facts.{decode_sized-lower, one_reading, parsed-spelled, read_back, same_bytes}

ok_value : {E : Type 0} → List ℕ → Result (List ℕ) E → List ℕ
ok_value none (Ok x) = x
ok_value none (Err e) = none

-- digits spell one list of bytes
pub same_digits : (n : ℕ) (text a b : List ℕ) → IsLowerHex n text a → IsLowerHex n text b → a ≡ b
unfolding ok_value
same_digits n text a b first second =
    ap (ok_value []) (sym (decode_sized-lower n text a first) ∙ decode_sized-lower n text b second)

-- parts stand for one plain text
pub one_plain : (iv_part ciphertext_part key plain other : List ℕ) → AreBytes plain → AreBytes other
    → Decrypts iv_part ciphertext_part key plain → Decrypts iv_part ciphertext_part key other → plain ≡ other
one_plain iv_part ciphertext_part key plain other plain_small other_small first second =
    let iv_same : second.iv ≡ first.iv = same_digits 16 iv_part second.iv first.iv second.iv_is first.iv_is in
    let bytes_same : second.bytes ≡ first.bytes = same_bytes ciphertext_part second.bytes first.bytes second.bytes_are first.bytes_are in
    let cbc : IsCbc key first.iv other first.bytes =
    subst (λ iv. IsCbc key iv other first.bytes) iv_same (subst (IsCbc key second.iv other) bytes_same second.cbc) in
    padded_injective plain other (one_text key first.iv (padded plain) (padded other) first.bytes first.iv_is.count first.iv_is.fit
    first.bytes_are.fit (padded_bytes plain plain_small) (padded_bytes other other_small) first.cbc cbc)

-- a text opens to one plain text
pub opens_once : (text uuid encryption_key authentication_key plain other : List ℕ) → AreBytes plain → AreBytes other
    → Opens text uuid encryption_key authentication_key plain → Opens text uuid encryption_key authentication_key other → plain ≡ other
opens_once text uuid encryption_key authentication_key plain other plain_small other_small first second =
    let same : second.reading ≡ first.reading =
    one_reading text second.reading first.reading second.authentic.names.reads first.authentic.names.reads in
    let decrypts : Decrypts first.reading.iv first.reading.ciphertext encryption_key other =
    subst (λ r. Decrypts r.iv r.ciphertext encryption_key other) same second.decrypts in
    one_plain first.reading.iv first.reading.ciphertext encryption_key plain other plain_small other_small first.decrypts decrypts

-- other bytes of a whole ciphertext are whole
pub whole_bytes : (part bytes : List ℕ) → IsCiphertext part → IsBase64 part bytes → IsWhole bytes
whole_bytes part bytes form are =
    subst IsWhole (same_bytes part form.bytes bytes form.encoded are) (record { some = form.some; whole = form.whole })

-- bytes that stand for no plain text, as parts
pub no_plain : (iv_part ciphertext_part key iv bytes : List ℕ) → IsLowerHex 16 iv_part iv → IsBase64 ciphertext_part bytes
    → ((plain : List ℕ) → AreBytes plain → ¬ (IsCbc key iv plain bytes))
    → (plain : List ℕ) → AreBytes plain → ¬ (Decrypts iv_part ciphertext_part key plain)
no_plain iv_part ciphertext_part key iv bytes iv_is bytes_are none plain small found =
    none plain small
    (subst (λ v. IsCbc key v plain bytes) (same_digits 16 iv_part found.iv iv found.iv_is iv_is)
    (subst (IsCbc key found.iv plain) (same_bytes ciphertext_part found.bytes bytes found.bytes_are bytes_are) found.cbc))

-- what opening answers for the plain bytes
pub opened_text : {E : Type 0} (r : Result (String Global) E) (reading : Reading) (uuid encryption_key authentication_key plain : List ℕ)
    → IfOk r (λ text. IsUtf8 plain × (string_bytes text ≡ plain))
    → ((text : List ℕ) → Is003 text reading → IsAuthentic text reading uuid authentication_key)
    → Decrypts reading.iv reading.ciphertext encryption_key plain
    → IfOk r (λ opened. (text : List ℕ) → Is003 text reading → Opens text uuid encryption_key authentication_key (string_bytes opened))
opened_text (Ok opened) reading uuid encryption_key authentication_key plain is authentic decrypts = λ text reads.
    record {
      reading = reading;
      authentic = authentic text reads;
      decrypts = subst (Decrypts reading.iv reading.ciphertext encryption_key) (sym is.1) decrypts;
      utf8 = subst IsUtf8 (sym is.1) is.0;
    }
opened_text (Err e) reading uuid encryption_key authentication_key plain is authentic decrypts = tt

pub refused_text : {T : Type 0} (r : Result T ItemError) (reading : Reading) (uuid encryption_key authentication_key plain : List ℕ)
    → IfErr r (λ error. (place : ℕ) × (error ≡ NotUtf8 place) × IsValidTo plain place)
    → ((text : List ℕ) → Is003 text reading → IsAuthentic text reading uuid authentication_key)
    → Decrypts reading.iv reading.ciphertext encryption_key plain
    → IfErr r (λ error. (text : List ℕ) → Is003 text reading → HasCause text uuid encryption_key authentication_key error)
refused_text (Ok x) reading uuid encryption_key authentication_key plain is authentic decrypts = tt
refused_text (Err e) reading uuid encryption_key authentication_key plain is authentic decrypts = λ text reads.
    subst (HasCause text uuid encryption_key authentication_key) (sym is.1)
    (record { reading = reading; authentic = authentic text reads; plain = plain; decrypts = decrypts; valid = is.2 })

some_value : List ℕ → Option (List ℕ) → List ℕ
some_value none (Some x) = x
some_value none None = none

-- a text spells one uuid
same_uuid : (text a b : List ℕ) → IsUuidText text a → IsUuidText text b → a ≡ b
unfolding some_value
same_uuid text a b first second = ap (some_value []) (parsed-spelled text a first ∙ sym (parsed-spelled text b second))

-- no other refusal is want of memory
IsOther : StringError → Type 0
IsOther string.Memory = Unit {0}
IsOther (string.Parts n) = ⊥
IsOther (string.Version n) = ⊥
IsOther (string.Hash n) = ⊥
IsOther (string.Uuid n) = ⊥
IsOther (string.Iv n) = ⊥
IsOther (string.Ciphertext n) = ⊥
IsOther (string.Params n) = ⊥

is_memory : (error : StringError) → error ≡ string.Memory → IsOther error
unfolding IsOther
is_memory error e = subst IsOther (sym e) tt

-- a 003 string has no refusal of its form
pub no_form_refusal : (text : List ℕ) (reading : Reading) (error : StringError) → Is003 text reading → ¬ (RefusedFor (parts_of text) error)
unfolding IsOther
no_form_refusal text reading (string.Parts n) reads refusal =
    is_memory (string.Parts n) (read_back text reading reads (Err (string.Parts n)) refusal)
no_form_refusal text reading (string.Version n) reads refusal =
    is_memory (string.Version n) (read_back text reading reads (Err (string.Version n)) refusal)
no_form_refusal text reading (string.Hash n) reads refusal =
    is_memory (string.Hash n) (read_back text reading reads (Err (string.Hash n)) refusal)
no_form_refusal text reading (string.Uuid n) reads refusal =
    is_memory (string.Uuid n) (read_back text reading reads (Err (string.Uuid n)) refusal)
no_form_refusal text reading (string.Iv n) reads refusal =
    is_memory (string.Iv n) (read_back text reading reads (Err (string.Iv n)) refusal)
no_form_refusal text reading (string.Ciphertext n) reads refusal =
    is_memory (string.Ciphertext n) (read_back text reading reads (Err (string.Ciphertext n)) refusal)
no_form_refusal text reading (string.Params n) reads refusal =
    is_memory (string.Params n) (read_back text reading reads (Err (string.Params n)) refusal)
no_form_refusal text reading string.Memory reads refusal = subst (λ parts. RefusedFor parts string.Memory) reads.parts refusal

-- a text that opens has no refusal but want of memory
pub no_refusal : (text uuid encryption_key authentication_key plain : List ℕ) (error : ItemError) → AreBytes plain
    → Opens text uuid encryption_key authentication_key plain → HasCause text uuid encryption_key authentication_key error → error ≡ Memory
no_refusal text uuid encryption_key authentication_key plain (Form error) small opens cause =
    absurd (no_form_refusal text opens.reading error opens.authentic.names.reads cause)
no_refusal text uuid encryption_key authentication_key plain (OtherUuid written) small opens cause =
    let same = one_reading text cause.reading opens.reading cause.names.reads opens.authentic.names.reads in
    absurd (cause.differs (same_uuid cause.reading.uuid written uuid cause.names.uuid_is
    (subst (λ r. IsUuidText r.uuid uuid) (sym same) opens.authentic.names.uuid_is)))
no_refusal text uuid encryption_key authentication_key plain (HashMismatch written computed) small opens cause =
    let same = one_reading text cause.reading opens.reading cause.names.reads opens.authentic.names.reads in
    let hash_is : IsLowerHex 32 cause.reading.hash (hash_of authentication_key cause.reading) =
    subst (λ r. IsLowerHex 32 r.hash (hash_of authentication_key r)) (sym same) opens.authentic.hash_is in
    absurd (cause.differs (same_digits 32 cause.reading.hash written (hash_of authentication_key cause.reading) cause.written_is hash_is
    ∙ sym cause.computed_is))
no_refusal text uuid encryption_key authentication_key plain Padding small opens cause =
    let same = one_reading text cause.reading opens.reading cause.authentic.names.reads opens.authentic.names.reads in
    absurd (cause.none plain small (subst (λ r. Decrypts r.iv r.ciphertext encryption_key plain) (sym same) opens.decrypts))
no_refusal text uuid encryption_key authentication_key plain (NotUtf8 place) small opens cause =
    let same = one_reading text cause.reading opens.reading cause.authentic.names.reads opens.authentic.names.reads in
    let decrypts : Decrypts cause.reading.iv cause.reading.ciphertext encryption_key plain =
    subst (λ r. Decrypts r.iv r.ciphertext encryption_key plain) (sym same) opens.decrypts in
    let plain_same : plain ≡ cause.plain =
    one_plain cause.reading.iv cause.reading.ciphertext encryption_key plain cause.plain small cause.valid.are decrypts cause.decrypts in
    absurd (cause.valid.invalid (subst IsUtf8 plain_same opens.utf8))
no_refusal text uuid encryption_key authentication_key plain NotItemKey small opens cause = absurd cause
no_refusal text uuid encryption_key authentication_key plain NotObject small opens cause = absurd cause
no_refusal text uuid encryption_key authentication_key plain (OtherSet nonce) small opens cause = absurd cause
no_refusal text uuid encryption_key authentication_key plain Memory small opens cause = refl

-- so what opening may answer is the plain text or want of memory
pub only_answer : (text uuid encryption_key authentication_key plain : List ℕ) (answer : Result (List ℕ) ItemError) → AreBytes plain
    → Opens text uuid encryption_key authentication_key plain
    → IfOk answer (λ opened. AreBytes opened × Opens text uuid encryption_key authentication_key opened)
    → IfErr answer (HasCause text uuid encryption_key authentication_key)
    → (answer ≡ Ok plain) ⊎ (answer ≡ Err Memory)
only_answer text uuid encryption_key authentication_key plain (Ok opened) small opens ok err =
    inl (ap Ok (opens_once text uuid encryption_key authentication_key opened plain ok.0 small ok.1 opens))
only_answer text uuid encryption_key authentication_key plain (Err error) small opens ok err =
    inr (ap Err (no_refusal text uuid encryption_key authentication_key plain error small opens err))
