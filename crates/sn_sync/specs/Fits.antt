-- The bounds within which a message is written so that it is read back: what is read is within them.
use Rattle.std.specs.Prelude.{◌≡◌, ◌≢◌, ◌<◌, ◌≤◌, ℕ, length, Some, None, All}
use Rattle.std.specs.Str.{IsUtf8}
use Rattle.sn_string.specs.Bounds.{IsCost, IsIdentifier, IsNonce}
use Rattle.sn_sync.specs.Members.{Bytes, IsSessionToken}
use Rattle.sn_sync.specs.Stamps.{IsStampText}
use Rattle.sn_sync.specs.declared.answer.Answer.{Answer}
use Rattle.sn_sync.specs.declared.answer.Answer.TheVariants as answer
use Rattle.sn_sync.specs.declared.answer.Conflict.{Conflict}
use Rattle.sn_sync.specs.declared.answer.Conflict.TheVariants as conflict
use Rattle.sn_sync.specs.declared.answer.More.{More}
use Rattle.sn_sync.specs.declared.answer.More.TheVariants as more
use Rattle.sn_sync.specs.declared.item.Body.{Body}
use Rattle.sn_sync.specs.declared.item.Body.TheVariants as body
use Rattle.sn_sync.specs.declared.item.Item.{Item}
use Rattle.sn_sync.specs.declared.request.Request.{Request}
use Rattle.sn_sync.specs.declared.request.Request.TheVariants as request
use Rattle.sn_sync.specs.declared.request.Route.{Route}
use Rattle.sn_sync.specs.declared.request.Route.TheVariants as route

-- so many bytes
abbrev pub AreBytes : ℕ → Bytes → Type 0
AreBytes n bytes = (length bytes ≡ n) × All (λ b. b < 256) bytes

abbrev pub FitsKind : Body → Bytes → Type 0
FitsKind body.Deleted kind = length kind ≤ 255
FitsKind (body.Strings content enc) kind = (1 ≤ length kind) × (length kind ≤ 255)

-- an item of a request, or one that is given back unsaved
pub record FitsSent (i : Item) : Type 0 where
  pub uuid : AreBytes 16 i.uuid
  pub kind : FitsKind i.body i.kind
  pub created : i.created ≡ None

-- an item that the account has: it was accepted first at one stamp and last at another
pub record FitsStored (i : Item) : Type 0 where
  pub uuid : AreBytes 16 i.uuid
  pub kind : FitsKind i.body i.kind
  pub first : ℕ
  pub created : i.created ≡ Some first
  pub text : Bytes
  pub updated_at : i.updated_at ≡ Some text
  pub last : ℕ
  pub stamped : IsStampText text last

-- within its bounds
abbrev pub FitsRequest : Request → Type 0
FitsRequest (request.Register params pw) = AreBytes 32 pw
FitsRequest (request.Params identifier) = IsIdentifier identifier × IsUtf8 identifier
FitsRequest (request.SignIn identifier pw) = IsIdentifier identifier × AreBytes 32 pw
FitsRequest (request.ChangePw token current pw cost nonce) = AreBytes 32 current × AreBytes 32 pw × IsCost cost × IsNonce nonce
FitsRequest (request.Sync token items limit sync_token cursor_token) = All FitsSent items × (1 ≤ limit) × (limit ≤ 500)

-- ---- answers

abbrev pub FitsConflict : Conflict → Type 0
FitsConflict (conflict.Sync server) = FitsStored server
FitsConflict (conflict.Uuid unsaved) = FitsSent unsaved
FitsConflict (conflict.Content unsaved) = FitsSent unsaved

abbrev pub FitsMore : More → Type 0
FitsMore more.Nothing = Unit {0}
FitsMore (more.Name name) = Unit {0}
FitsMore (more.Number n) = Unit {0}
FitsMore (more.Uuid uuid) = AreBytes 16 uuid
FitsMore (more.Both n uuid) = AreBytes 16 uuid

-- within its bounds, and an answer of this status on this route
abbrev pub FitsAnswer : Route → ℕ → Answer → Type 0
FitsAnswer on status (answer.Account token identifier uuid) =
    (on ≢ route.Params) × (on ≢ route.Sync) × (status ≡ 200) × IsSessionToken token × IsIdentifier identifier × AreBytes 16 uuid
FitsAnswer on status (answer.Params params) = (on ≡ route.Params) × (status ≡ 200)
FitsAnswer on status (answer.Sync conflicts cursor_token retrieved saved sync_token) =
    (on ≡ route.Sync) × (status ≡ 200) × All FitsConflict conflicts × All FitsStored retrieved × All FitsStored saved
FitsAnswer on status (answer.Refused s tag further) = (s ≡ status) × (status ≢ 200) × FitsMore further
