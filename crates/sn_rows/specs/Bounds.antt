-- The bounds of the columns. A test is a function into `Bool`, so that a column's form can be computed.
use Rattle.std.specs.Prelude.{ℕ, ◌≤◌, ◌==◌, Bool, false, ◌&&◌, ◌||◌, nat_le, if◌then◌else◌, IsTrue, List, [], ◌∷◌, length}
use Rattle.std.specs.List.{list_all}
use Rattle.std.specs.Str.{is_utf8}
pub use Rattle.sn_string.specs.Bounds.{last_stamp, most_string}

-- UTF-8 of so many bytes
abbrev pub is_text_of : ℕ → ℕ → List ℕ → Bool
is_text_of least most text = is_utf8 text && (nat_le least (length text) && nat_le (length text) most)

-- an account's identifier
abbrev pub is_identifier : List ℕ → Bool
is_identifier text = is_text_of 1 254 text

-- a password's nonce
abbrev pub is_nonce : List ℕ → Bool
is_nonce text = is_text_of 1 256 text

-- an item's type
abbrev pub is_type : List ℕ → Bool
is_type text = is_text_of 1 255 text

-- a type that may be left empty
abbrev pub is_type_or_empty : List ℕ → Bool
is_type_or_empty text = is_text_of 0 255 text

-- a string of an item on the server
abbrev pub is_server_string : List ℕ → Bool
is_server_string text = is_text_of 0 most_string text

-- a visible ASCII character
abbrev pub is_visible : ℕ → Bool
is_visible byte = nat_le 33 byte && nat_le byte 126

-- a session token
abbrev pub is_token : List ℕ → Bool
is_token text = is_text_of 1 1024 text && list_all is_visible text

-- a sync or cursor token as a server gave it, which may be any text of an answer; empty where there is none
abbrev pub is_sync_token : List ℕ → Bool
is_sync_token text = is_text_of 0 33554432 text

abbrev pub is_colon : ℕ → Bool
is_colon byte = byte == 58

abbrev pub has_colon : List ℕ → Bool
has_colon [] = false
has_colon (byte ∷ bytes) = is_colon byte || has_colon bytes

-- what stands after the last colon; nothing where there is none
abbrev pub after_colon : List ℕ → List ℕ
after_colon [] = []
after_colon (byte ∷ bytes) = if has_colon bytes then after_colon bytes else (if is_colon byte then bytes else [])

-- what stands before the last colon; all where there is none
abbrev pub before_colon : List ℕ → List ℕ
before_colon [] = []
before_colon (byte ∷ bytes) = if has_colon bytes then byte ∷ before_colon bytes else (if is_colon byte then [] else byte ∷ bytes)

-- the bounds of what stands before, and after, the last colon of a string on a device
abbrev pub has_device_lengths : List ℕ → Bool
has_device_lengths text = nat_le (length (before_colon text)) most_string && nat_le (length (after_colon text)) 8192

-- a string of an item on a device: before its last colon its first parts, after it its params
abbrev pub is_device_string : List ℕ → Bool
is_device_string text = is_utf8 text && has_device_lengths text

-- The same bounds as facts, for a text that is known to be UTF-8.
abbrev pub HasLength : ℕ → ℕ → List ℕ → Type 0
HasLength least most text = (least ≤ length text) × (length text ≤ most)

abbrev pub HasDeviceLengths : List ℕ → Type 0
HasDeviceLengths text = (length (before_colon text) ≤ most_string) × (length (after_colon text) ≤ 8192)

abbrev pub IsVisible : List ℕ → Type 0
IsVisible text = IsTrue (list_all is_visible text)
