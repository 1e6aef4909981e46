-- What a member of a JSON object says (RFC 8259, 4). A member is None where the object has none of its name.
use Rattle.std.specs.Prelude.{◌≡◌, ◌⊎◌, ℕ, ◌≤◌, List, [], length, Bool, false, Option, Some, None, IsSome, All}
use Rattle.serde_json.specs.Data.{Data, boolean, null, number, string, unsigned}
use Rattle.serde_json.specs.Find.{as_object}
use Rattle.sn_string.specs.Bounds.{IsCost, IsIdentifier, IsNonce}
use Rattle.sn_string.specs.Hex.{IsLowerHex}
use Rattle.sn_string.specs.Uuids.{IsUuidText}
use Rattle.sn_sync.specs.Stamps.{IsStampText}

abbrev pub Bytes : Type 0
Bytes = List ℕ

abbrev pub IsObject : Data → Type 0
IsObject d = IsSome (as_object d)

-- the member is null, or there is none
abbrev pub IsLeftOut : Option Data → Type 0
IsLeftOut m = (m ≡ None) ⊎ (m ≡ Some null)

abbrev pub SaysText : Option Data → Bytes → Type 0
SaysText m text = m ≡ Some (string text)

-- the one text that is allowed
abbrev pub SaysWord : Bytes → Option Data → Bytes → Type 0
SaysWord word m text = SaysText m text × (text ≡ word)

abbrev pub SaysIdentifier : Option Data → Bytes → Type 0
SaysIdentifier m text = SaysText m text × IsIdentifier text

abbrev pub SaysNonce : Option Data → Bytes → Type 0
SaysNonce m text = SaysText m text × IsNonce text

abbrev pub SaysNumber : Option Data → ℕ → Type 0
SaysNumber m n = m ≡ Some (number (unsigned n))

-- a whole number without fraction or exponent
abbrev pub SaysCost : Option Data → ℕ → Type 0
SaysCost m n = SaysNumber m n × IsCost n

-- 32 bytes in 64 lower-case hex digits
abbrev pub SaysHash : Option Data → Bytes → Type 0
SaysHash m bytes = (digits : Bytes) × SaysText m digits × IsLowerHex 32 digits bytes

abbrev pub SaysUuid : Option Data → Bytes → Type 0
SaysUuid m uuid = (text : Bytes) × SaysText m text × IsUuidText text uuid

-- a text, null or left out
abbrev pub SaysOptional : Option Data → Option Bytes → Type 0
SaysOptional m None = IsLeftOut m
SaysOptional m (Some text) = SaysText m text

-- a text or null
abbrev pub SaysNullable : Option Data → Option Bytes → Type 0
SaysNullable m None = m ≡ Some null
SaysNullable m (Some text) = SaysText m text

-- a text, which is empty where it is null or left out
abbrev pub SaysTextOrEmpty : Option Data → Bytes → Type 0
SaysTextOrEmpty m text = SaysText m text ⊎ (IsLeftOut m × (text ≡ []))

-- true or false, and false where it is null or left out
abbrev pub SaysFlag : Option Data → Bool → Type 0
SaysFlag m flag = (m ≡ Some (boolean flag)) ⊎ (IsLeftOut m × (flag ≡ false))

-- a stamp, by its text
abbrev pub SaysStamp : Option Data → ℕ → Type 0
SaysStamp m stamp = (text : Bytes) × SaysText m text × IsStampText text stamp

-- the text of a stamp
abbrev pub SaysStampText : Option Data → Bytes → Type 0
SaysStampText m text = SaysText m text × ((stamp : ℕ) × IsStampText text stamp)

-- a session token: 1 to 1,024 letters, digits and signs of ASCII
abbrev pub IsSessionToken : Bytes → Type 0
IsSessionToken text = (1 ≤ length text) × (length text ≤ 1024) × All (λ c. (33 ≤ c) × (c ≤ 126)) text

abbrev pub SaysSessionToken : Option Data → Bytes → Type 0
SaysSessionToken m text = SaysText m text × IsSessionToken text
