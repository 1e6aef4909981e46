-- The text of an answer to a sync is short enough for whoever reads it.
use Rattle.std.specs.Prelude.{◌≡◌, ◌≢◌, ℕ, ◌+◌, ◌≤◌, List, length, sum_by, Option, Some, None, All}
use Rattle.sn_rows.specs.Table.{Rows}
use Rattle.sn_rows.specs.declared.change.Change.{Change}
use Rattle.sn_string.specs.Grammar.{Is003, Reading}
use Rattle.sn_sync.specs.Fits.{FitsRequest}
use Rattle.sn_sync.specs.Stamps.{IsStampText}
use Rattle.sn_sync.specs.Written.{WritesAnswer}
use Rattle.sn_sync.specs.declared.answer.Answer.{Answer}
use Rattle.sn_sync.specs.declared.item.Body.{Body}
use Rattle.sn_sync.specs.declared.item.Body.TheVariants as body
use Rattle.sn_sync.specs.declared.item.Item.{Item}
use Rattle.sn_sync.specs.declared.request.Request.TheVariants as request
use Rattle.sn_account.specs.Lookups.{Bytes}
use Rattle.sn_account.specs.Rule.{Rule}
use Rattle.sn_account.specs.Sound.{IsSound}
use Rattle.sn_account.specs.Syncs.{strings_in}

-- a JSON string has this byte as it is (RFC 8259, 7): it is no control character, quotation mark or reverse solidus
abbrev pub IsUnescaped : ℕ → Type 0
IsUnescaped byte = (32 ≤ byte) × (byte ≢ 34) × (byte ≢ 92)

abbrev pub AreUnescaped : Bytes → Type 0
AreUnescaped text = All IsUnescaped text

-- as those of a 003 string are
abbrev pub SealedAreUnescaped : Type 0
SealedAreUnescaped = (text : Bytes) (reading : Reading) → Is003 text reading → AreUnescaped text

-- a stamp's text has so many bytes
abbrev pub StampsAreShort : Type 0
StampsAreShort = (text : Bytes) (stamp : ℕ) → IsStampText text stamp → length text ≡ 27

-- the bytes of a body's strings
abbrev pub strings_size : Body → ℕ
strings_size body.Deleted = 0
strings_size (body.Strings content enc) = length content + length enc

-- the version that an item names, where it names one, has at most 255 bytes, as a stamp's text has
abbrev pub NamesShortly : Option Bytes → Type 0
NamesShortly None = Unit {0}
NamesShortly (Some text) = length text ≤ 255

-- at most 150 items, whose strings have at most 4 MiB and stand in JSON as they are
pub record IsModest (items : List Item) : Type 0 where
  pub few : length items ≤ 150
  pub light : sum_by (λ i. strings_size i.body) items ≤ 4194304
  pub unescaped : All (λ i. All AreUnescaped (strings_in i.body)) items
  pub named : All (λ i. NamesShortly i.updated_at) items

-- then the answer has at most 32 MiB
abbrev pub AnswersAreShort : Type 0
AnswersAreShort = (rows : Rows) (token : Bytes) (items : List Item) (limit : ℕ) (sync_token cursor_token : Option Bytes) (now : ℕ) (changes : List Change)
    (given : Answer) (text : Bytes) → IsSound rows → FitsRequest (request.Sync token items limit sync_token cursor_token) → IsModest items
    → Rule rows (request.Sync token items limit sync_token cursor_token) now changes given → WritesAnswer given text → length text ≤ 33554432
