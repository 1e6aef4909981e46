-- Each request has an answer.
use Rattle.std.specs.Prelude.{ℕ, ◌≤◌, List, All}
use Rattle.std.specs.Str.{IsUtf8}
use Rattle.sn_rows.specs.Table.{Rows}
use Rattle.sn_rows.specs.declared.change.Change.{Change}
use Rattle.sn_rows.specs.declared.server_rows.GenerationRow.{GenerationRow}
use Rattle.sn_sync.specs.Fits.{FitsRequest}
use Rattle.sn_sync.specs.declared.answer.Answer.{Answer}
use Rattle.sn_sync.specs.declared.request.Request.{Request}
use Rattle.sn_sync.specs.declared.request.Request.TheVariants as request
use Rattle.sn_account.specs.Lookups.{HasGeneration}
use Rattle.sn_account.specs.Rule.{Rule}
use Rattle.sn_account.specs.Sound.{IsSound}

-- what becomes a row's text is UTF-8, as every text of a request is
abbrev pub AreTexts : Request → Type 0
AreTexts (request.Register params pw) = IsUtf8 params.identifier × IsUtf8 params.pw_nonce
AreTexts (request.Params identifier) = Unit {0}
AreTexts (request.SignIn identifier pw) = Unit {0}
AreTexts (request.ChangePw token current pw cost nonce) = IsUtf8 nonce
AreTexts (request.Sync token items limit sync_token cursor_token) = All (λ i. IsUtf8 i.kind) items

-- each generation's cost has 32 bits, as every row's has
abbrev pub HaveCosts : Rows → Type 0
HaveCosts rows = (n g : ℕ) (r : GenerationRow) → HasGeneration rows n g r → r.pw_cost ≤ 4294967295

-- of sound rows, at any time
abbrev pub EachIsAnswered : Type 0
EachIsAnswered = (rows : Rows) (r : Request) (now : ℕ) → IsSound rows → FitsRequest r → AreTexts r
    → (changes : List Change) × (given : Answer) × Rule rows r now changes given
