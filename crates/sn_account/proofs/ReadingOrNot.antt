-- A text is a 003 string, or it isn't.
use Rattle.std.proofs.Common.{◌≡◌, ℕ, zero, suc, ◌%◌, ◌<◌, List, [], ◌∷◌, length, slice_index, Option, Some, None, Result, Ok, Err, Bool, true, false, All, codes, refl, sym, ap, ◌∙◌, subst, inl, inr, arith}
use Rattle.std.specs.Str.{is_utf8}
use Rattle.std.proofs.lemmas.Str.{IsUtf8-from_is_utf8, is_utf8-from_IsUtf8}
use Rattle.base64.specs.Engines.{standard}
use Rattle.base64.specs.GeneralPurpose.{IsBytes, decode_of}
use Rattle.base64.specs.declared.decode.DecodeError.{DecodeError}
use Rattle.hex.specs.Hex.{decode_sized, encode_lower}
use Rattle.hex.specs.declared.error.FromHexError.{FromHexError}
use Rattle.serde_json.specs.Data.{Data, array, boolean, float, negative, null, number, object, string, unsigned}
use Rattle.serde_json.specs.Find.{get}
use Rattle.serde_json.specs.Read.{read}
use Rattle.uuid.specs.Text.{parsed}
use Rattle.sn_rows.specs.declared.server_rows.ItemRow.{ItemRow}
use Rattle.sn_string.proofs.Facts.{decode_of-base64, decode_sized-lower, one_reading, parsed-spelled, same_params}
use Rattle.sn_string.specs.Base64.{IsBase64, base64_text}
use Rattle.sn_string.specs.Bounds.{IsCost, IsIdentifier, IsNonce}
use Rattle.sn_string.specs.Grammar.{Is003, IsCiphertext, IsHash, IsIv, IsUuid, Reading, parts_of, version}
use Rattle.sn_string.specs.Hex.{IsLowerHex}
use Rattle.sn_string.specs.Parameters.{HasParams, IsParamsJson, IsParamsPart}
use Rattle.sn_string.specs.Uuids.{IsUuidText, uuid_text}
use Rattle.sn_string.specs.declared.params.Params.{Params}
use Rattle.sn_account.specs.Incoming.{IsOwnString}
use Rattle.sn_account.specs.Lookups.{Bytes}
use Rattle.sn_account.specs.Rules.{Carries, CarriesText}
use Rattle.sn_account.proofs.Deciding.{Decided, at_most, both, decided_so, each, same_list, same_number}

-- of one candidate at most
only_or_none : {A : Type 0} (Is : A → Type 0) (one : A) → ((other : A) → Is other → other ≡ one) → Decided (Is one) → Decided ((a : A) × Is a)
only_or_none Is one only (inl is) = inl (one, is)
only_or_none Is one only (inr off) = inr (λ found. off (subst Is (only found.0 found.1) found.1))

are_bytes : (bytes : Bytes) → Decided (IsBytes bytes)
are_bytes bytes = decided_so (at_places bytes) (each_of bytes) (each (λ b. b < 256) (λ b. at_most (suc b) 256) bytes)
  where
    at_places : (xs : Bytes) → All (λ b. b < 256) xs → (i : ℕ) → slice_index xs i < 256
    at_places [] all i = omega arith
    at_places (x ∷ xs) all zero = all 0 0 (omega arith)
    at_places (x ∷ xs) all (suc i) = at_places xs (λ k d low. all (suc k) d (omega arith)) i

    each_of : (xs : Bytes) → IsBytes xs → All (λ b. b < 256) xs
    each_of [] is k d low = absurd (omega arith)
    each_of (x ∷ xs) is zero d low = is 0
    each_of (x ∷ xs) is (suc k) d low = each_of xs (λ i. is (suc i)) k d (omega arith)

-- ---- hex digits and uuids

hex_of : (n : ℕ) (text bytes : Bytes) → Decided (IsLowerHex n text bytes)
hex_of n text bytes =
    decided_so (λ p. record { count = p.0; fit = p.1.0; spelled = p.1.1 }) (λ is. (is.count, (is.fit, is.spelled)))
    (both (same_number (length bytes) n) (both (are_bytes bytes) (same_list text (encode_lower bytes))))

is_hex : (n : ℕ) (text : Bytes) → Decided ((bytes : Bytes) × IsLowerHex n text bytes)
is_hex n text = by_result (decode_sized text n) refl
  where
    by_result : (r : Result Bytes FromHexError) → decode_sized text n ≡ r → Decided ((bytes : Bytes) × IsLowerHex n text bytes)
    by_result (Ok bytes) e =
        only_or_none (IsLowerHex n text) bytes (λ other is. (let f = sym (decode_sized-lower n text other is) ∙ e in cc)) (hex_of n text bytes)
    by_result (Err x) e = inr (λ found. (let f = sym (decode_sized-lower n text found.0 found.1) ∙ e in absurd cc))

uuid_of : (text uuid : Bytes) → Decided (IsUuidText text uuid)
uuid_of text uuid =
    decided_so (λ p. record { count = p.0; fit = p.1.0; spelled = p.1.1 }) (λ is. (is.count, (is.fit, is.spelled)))
    (both (same_number (length uuid) 16) (both (each (λ b. b < 256) (λ b. at_most (suc b) 256) uuid) (same_list text (uuid_text uuid))))

is_uuid : (text : Bytes) → Decided (IsUuid text)
is_uuid text = by_option (parsed text) refl
  where
    by_option : (o : Option Bytes) → parsed text ≡ o → Decided (IsUuid text)
    by_option (Some uuid) e = only_or_none (IsUuidText text) uuid (λ other is. (let f = parsed-spelled text other is ∙ e in cc)) (uuid_of text uuid)
    by_option None e = inr (λ found. (let f = parsed-spelled text found.0 found.1 ∙ e in absurd cc))

-- ---- base64

base64_of : (text bytes : Bytes) → Decided (IsBase64 text bytes)
base64_of text bytes =
    decided_so (λ p. record { fit = p.0; spelled = p.1 }) (λ is. (is.fit, is.spelled)) (both (are_bytes bytes) (same_list text (base64_text bytes)))

-- the bytes of a base64 text, with what is asked of them
is_base64 : (text : Bytes) (P : Bytes → Type 0) → ((bytes : Bytes) → Decided (P bytes)) → Decided ((bytes : Bytes) × (IsBase64 text bytes × P bytes))
is_base64 text P decide = by_result (decode_of standard text) refl
  where
    by_result : (r : Result Bytes DecodeError) → decode_of standard text ≡ r → Decided ((bytes : Bytes) × (IsBase64 text bytes × P bytes))
    by_result (Ok bytes) e =
        only_or_none (λ b. IsBase64 text b × P b) bytes (λ other is. (let f = sym (decode_of-base64 text other is.0) ∙ e in cc))
        (both (base64_of text bytes) (decide bytes))
    by_result (Err x) e = inr (λ found. (let f = sym (decode_of-base64 text found.0 found.1.0) ∙ e in absurd cc))

is_ciphertext : (text : Bytes) → Decided (IsCiphertext text)
is_ciphertext text =
    decided_so (λ p. record { bytes = p.0; encoded = p.1.0; some = p.1.1.0; whole = p.1.1.1 }) (λ is. (is.bytes, (is.encoded, (is.some, is.whole))))
    (is_base64 text (λ bytes. (0 < length bytes) × (length bytes % 16 ≡ 0)) (λ bytes. both (at_most 1 (length bytes)) (same_number (length bytes % 16) 0)))

-- ---- parameters

-- the text of a member
is_text : (o : Option Data) → Decided ((text : Bytes) × (o ≡ Some (string text)))
is_text (Some (string text)) = inl (text, refl)
is_text None = inr (λ found. (let e = found.1 in absurd cc))
is_text (Some null) = inr (λ found. (let e = found.1 in absurd cc))
is_text (Some (boolean b)) = inr (λ found. (let e = found.1 in absurd cc))
is_text (Some (number n)) = inr (λ found. (let e = found.1 in absurd cc))
is_text (Some (array ds)) = inr (λ found. (let e = found.1 in absurd cc))
is_text (Some (object ms)) = inr (λ found. (let e = found.1 in absurd cc))

is_number : (o : Option Data) → Decided ((n : ℕ) × (o ≡ Some (number (unsigned n))))
is_number (Some (number (unsigned n))) = inl (n, refl)
is_number None = inr (λ found. (let e = found.1 in absurd cc))
is_number (Some null) = inr (λ found. (let e = found.1 in absurd cc))
is_number (Some (boolean b)) = inr (λ found. (let e = found.1 in absurd cc))
is_number (Some (string text)) = inr (λ found. (let e = found.1 in absurd cc))
is_number (Some (number (negative z))) = inr (λ found. (let e = found.1 in absurd cc))
is_number (Some (number (float x))) = inr (λ found. (let e = found.1 in absurd cc))
is_number (Some (array ds)) = inr (λ found. (let e = found.1 in absurd cc))
is_number (Some (object ms)) = inr (λ found. (let e = found.1 in absurd cc))

-- one text, or number, stands in a member
with_text : (o : Option Data) (P : Bytes → Type 0) → ((text : Bytes) → Decided (P text)) → Decided ((text : Bytes) × ((o ≡ Some (string text)) × P text))
with_text o P decide = by_text (is_text o)
  where
    by_text : Decided ((text : Bytes) × (o ≡ Some (string text))) → Decided ((text : Bytes) × ((o ≡ Some (string text)) × P text))
    by_text (inl (text, e)) = only_or_none (λ t. (o ≡ Some (string t)) × P t) text (λ other is. (let f = is.0 in cc)) (both (inl e) (decide text))
    by_text (inr none) = inr (λ found. none (found.0, found.1.0))

with_number : (o : Option Data) (P : ℕ → Type 0) → ((n : ℕ) → Decided (P n)) → Decided ((n : ℕ) × ((o ≡ Some (number (unsigned n))) × P n))
with_number o P decide = by_number (is_number o)
  where
    by_number : Decided ((n : ℕ) × (o ≡ Some (number (unsigned n)))) → Decided ((n : ℕ) × ((o ≡ Some (number (unsigned n))) × P n))
    by_number (inl (n, e)) = only_or_none (λ k. (o ≡ Some (number (unsigned k))) × P k) n (λ other is. (let f = is.0 in cc)) (both (inl e) (decide n))
    by_number (inr none) = inr (λ found. none (found.0, found.1.0))

module _ (value : Data) where
  abbrev Identified : Type 0
  Identified = (t : Bytes) × ((get (codes "identifier") value ≡ Some (string t)) × IsIdentifier t)

  abbrev Costs : Type 0
  Costs = (n : ℕ) × ((get (codes "pw_cost") value ≡ Some (number (unsigned n))) × IsCost n)

  abbrev Salted : Type 0
  Salted = (t : Bytes) × ((get (codes "pw_nonce") value ≡ Some (string t)) × IsNonce t)

  abbrev Versioned : Type 0
  Versioned = (t : Bytes) × ((get (codes "version") value ≡ Some (string t)) × (t ≡ codes "003"))

  params_of : Identified × (Costs × (Salted × Versioned)) → (p : Params) × HasParams value p
  params_of (identifier, (cost, (nonce, version))) = (
    record {
      identifier = identifier.0;
      pw_cost = cost.0;
      pw_nonce = nonce.0;
      identifier_fits = identifier.1.1;
      cost_fits = cost.1.1;
      nonce_fits = nonce.1.1;
    },
    record {
      identifier = identifier.1.0;
      pw_cost = cost.1.0;
      pw_nonce = nonce.1.0;
      version = version.1.0 ∙ ap (λ (t : Bytes). Some (string t)) version.1.1;
    },
  )

  members_of : (p : Params) × HasParams value p → Identified × (Costs × (Salted × Versioned))
  members_of (p, h) = (
    (p.identifier, (h.identifier, p.identifier_fits)),
    ((p.pw_cost, (h.pw_cost, p.cost_fits)), ((p.pw_nonce, (h.pw_nonce, p.nonce_fits)), (codes "003", (h.version, refl)))),
  )

  has_params : Decided ((p : Params) × HasParams value p)
  has_params =
      decided_so params_of members_of
      (both (with_text (get (codes "identifier") value) IsIdentifier (λ t. both (at_most 1 (length t)) (at_most (length t) 254)))
      (both (with_number (get (codes "pw_cost") value) IsCost (λ n. both (at_most 1 n) (at_most n 4294967295)))
      (both (with_text (get (codes "pw_nonce") value) IsNonce (λ t. both (at_most 1 (length t)) (at_most (length t) 256)))
      (with_text (get (codes "version") value) (λ t. t ≡ codes "003") (λ t. same_list t (codes "003"))))))

-- the text of parameters
is_params_json : (json : Bytes) → Decided ((p : Params) × IsParamsJson json p)
is_params_json json = by_utf8 (is_utf8 json) refl (read json) refl
  where
    by_utf8 : (t : Bool) → is_utf8 json ≡ t → (o : Option Data) → read json ≡ o → Decided ((p : Params) × IsParamsJson json p)
    by_utf8 false e o f = inr (λ found. (let g = is_utf8-from_IsUtf8 json found.1.utf8 in absurd cc))
    by_utf8 true e None f = inr (λ found. (let g = found.1.reads in absurd cc))
    by_utf8 true e (Some value) f =
        decided_so (λ found. (found.0, record { utf8 = IsUtf8-from_is_utf8 json e; value = value; reads = f; members = found.1 }))
        (λ found. (let same : found.1.value ≡ value = (let g = sym found.1.reads ∙ f in cc) in
        (found.0, subst (λ (d : Data). HasParams d found.0) same found.1.members)))
        (has_params value)

is_params_part : (part : Bytes) → Decided ((p : Params) × IsParamsPart part p)
is_params_part part =
    decided_so
    (λ found. (found.1.1.1.0, record { short = found.0; json = found.1.0; encoded = found.1.1.0; says = found.1.1.1.1 }))
    (λ found. (found.1.short, (found.1.json, (found.1.encoded, (found.0, found.1.says)))))
    (both (at_most (length part) 8192) (is_base64 part (λ json. (p : Params) × IsParamsJson json p) is_params_json))

-- ---- the whole

-- what stands between the colons
six_or_not : (parts : List Bytes) → Decided ((hash : Bytes) × (uuid : Bytes) × (iv : Bytes) × (ciphertext : Bytes) × (params : Bytes)
    × (parts ≡ version ∷ hash ∷ uuid ∷ iv ∷ ciphertext ∷ params ∷ []))
six_or_not (v ∷ hash ∷ uuid ∷ iv ∷ ciphertext ∷ params ∷ []) =
    decided_so (λ e. (hash, uuid, iv, ciphertext, params, ap (λ (x : Bytes). x ∷ hash ∷ uuid ∷ iv ∷ ciphertext ∷ params ∷ []) e))
    (λ found. (let e = found.5 in cc)) (same_list v version)
six_or_not [] = inr (λ found. (let e = found.5 in absurd cc))
six_or_not (a ∷ []) = inr (λ found. (let e = found.5 in absurd cc))
six_or_not (a ∷ b ∷ []) = inr (λ found. (let e = found.5 in absurd cc))
six_or_not (a ∷ b ∷ c ∷ []) = inr (λ found. (let e = found.5 in absurd cc))
six_or_not (a ∷ b ∷ c ∷ d ∷ []) = inr (λ found. (let e = found.5 in absurd cc))
six_or_not (a ∷ b ∷ c ∷ d ∷ e ∷ []) = inr (λ found. (let f = found.5 in absurd cc))
six_or_not (a ∷ b ∷ c ∷ d ∷ e ∷ f ∷ g ∷ more) = inr (λ found. (let h = found.5 in absurd cc))

-- the five parts in their forms
abbrev InForms : Bytes → Bytes → Bytes → Bytes → Bytes → Type 0
InForms hash uuid iv ciphertext params = IsHash hash × (IsUuid uuid × (IsIv iv × (IsCiphertext ciphertext × ((p : Params) × IsParamsPart params p))))

in_forms : (hash uuid iv ciphertext params : Bytes) → Decided (InForms hash uuid iv ciphertext params)
in_forms hash uuid iv ciphertext params =
    both (is_hex 32 hash) (both (is_uuid uuid) (both (is_hex 16 iv) (both (is_ciphertext ciphertext) (is_params_part params))))

module _ (text : Bytes) where
  abbrev Six : Type 0
  Six = (hash : Bytes) × (uuid : Bytes) × (iv : Bytes) × (ciphertext : Bytes) × (params : Bytes)
      × (parts_of text ≡ version ∷ hash ∷ uuid ∷ iv ∷ ciphertext ∷ params ∷ [])

  six_of : (r : Reading) → Is003 text r → Six
  six_of r is = (r.hash, r.uuid, r.iv, r.ciphertext, r.params_text, is.parts)

  module _ (hash uuid iv ciphertext params : Bytes) (e : parts_of text ≡ version ∷ hash ∷ uuid ∷ iv ∷ ciphertext ∷ params ∷ []) where
    reading_of : InForms hash uuid iv ciphertext params → (r : Reading) × Is003 text r
    reading_of (a, (b, (c, (d, (p, says))))) = (
      record { hash = hash; uuid = uuid; iv = iv; ciphertext = ciphertext; params_text = params; params = p },
      record { parts = e; hash = a; uuid = b; iv = c; ciphertext = d; params = says },
    )

    forms_of : (r : Reading) × Is003 text r → InForms hash uuid iv ciphertext params
    forms_of (r, is) =
        let both_ways = sym is.parts ∙ e in
        let hashes : r.hash ≡ hash = cc in
        let uuids : r.uuid ≡ uuid = cc in
        let ivs : r.iv ≡ iv = cc in
        let ciphertexts : r.ciphertext ≡ ciphertext = cc in
        let texts : r.params_text ≡ params = cc in (
          subst IsHash hashes is.hash,
          (
            subst IsUuid uuids is.uuid,
            (
              subst IsIv ivs is.iv,
              (
                subst IsCiphertext ciphertexts is.ciphertext,
                (r.params, subst (λ (t : Bytes). IsParamsPart t r.params) texts is.params),
              ),
            ),
          ),
        )

  by_parts : Decided Six → Decided ((r : Reading) × Is003 text r)
  by_parts (inr off) = inr (λ found. off (six_of found.0 found.1))
  by_parts (inl (hash, uuid, iv, ciphertext, params, e)) =
      decided_so (reading_of hash uuid iv ciphertext params e) (forms_of hash uuid iv ciphertext params e) (in_forms hash uuid iv ciphertext params)

  pub reading_or_not : Decided ((r : Reading) × Is003 text r)
  reading_or_not = by_parts (six_or_not (parts_of text))

-- ---- with parameters, and of a uuid

params_or_not : (p q : Params) → Decided (p ≡ q)
params_or_not p q =
    decided_so (λ e. same_params p q e.0 e.1.0 e.1.1)
    (λ e. (ap (λ (x : Params). x.identifier) e, (ap (λ (x : Params). x.pw_cost) e, ap (λ (x : Params). x.pw_nonce) e)))
    (both (same_list p.identifier q.identifier) (both (same_number p.pw_cost q.pw_cost) (same_list p.pw_nonce q.pw_nonce)))

-- what a text reads as, with what is asked of that
reads_so : (text : Bytes) (P : Reading → Type 0) → ((r : Reading) → Decided (P r)) → Decided ((r : Reading) × (Is003 text r × P r))
reads_so text P decide = by_reading (reading_or_not text)
  where
    by_reading : Decided ((r : Reading) × Is003 text r) → Decided ((r : Reading) × (Is003 text r × P r))
    by_reading (inl (r, is)) = only_or_none (λ x. Is003 text x × P x) r (λ other also. one_reading text other r also.0 is) (both (inl is) (decide r))
    by_reading (inr off) = inr (λ found. off (found.0, found.1.0))

carries_text : (text : Bytes) (p : Params) → Decided (CarriesText text p)
carries_text text p =
    decided_so (λ found. (found.0, found.1.0, found.1.1)) (λ found. (found.0, (found.1, found.2)))
    (reads_so text (λ r. r.params ≡ p) (λ r. params_or_not r.params p))

pub carries : (item : ItemRow) (p : Params) → Decided (Carries item p)
carries item p = both (carries_text item.content p) (carries_text item.enc p)

own_string : (uuid : Bytes) (p : Params) (text : Bytes) → Decided (IsOwnString uuid p text)
own_string uuid p text =
    decided_so (λ found. (found.0, found.1.0, found.1.1.0, found.1.1.1)) (λ found. (found.0, (found.1, (found.2, found.3))))
    (reads_so text (λ r. (r.uuid ≡ uuid_text uuid) × (r.params ≡ p)) (λ r. both (same_list r.uuid (uuid_text uuid)) (params_or_not r.params p)))

pub own_strings : (uuid : Bytes) (p : Params) (content enc : Bytes) → Decided (IsOwnString uuid p content × IsOwnString uuid p enc)
own_strings uuid p content enc = both (own_string uuid p content) (own_string uuid p enc)
