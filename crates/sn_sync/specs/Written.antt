-- The messages that are written: compact JSON (RFC 8259) with the members in alphabetical order.
use Rattle.std.specs.Prelude.{◌≡◌, ℕ, List, [], ◌∷◌, codes, true, false, Option, Some, None}
use Rattle.std.specs.Str.{IsUtf8}
use Rattle.hex.specs.Hex.{encode_lower}
use Rattle.serde_json.specs.Data.{Data, Items, array, boolean, item, member, no_items, no_members, null, number, object, string, unsigned}
use Rattle.serde_json.specs.Read.{read}
use Rattle.serde_json.specs.Written.{compact_text}
use Rattle.sn_string.specs.Parameters.{params_data}
use Rattle.sn_string.specs.Uuids.{uuid_text}
use Rattle.sn_sync.specs.Members.{Bytes}
use Rattle.sn_sync.specs.Query.{query_text}
use Rattle.sn_sync.specs.Requests.{api_version}
use Rattle.sn_sync.specs.Answers.{content_error, sync_conflict, uuid_conflict}
use Rattle.sn_sync.specs.Stamps.{IsStampText}
use Rattle.sn_sync.specs.declared.answer.Answer.{Answer}
use Rattle.sn_sync.specs.declared.answer.Answer.TheVariants as answer
use Rattle.sn_sync.specs.declared.answer.Conflict.{Conflict}
use Rattle.sn_sync.specs.declared.answer.Conflict.TheVariants as conflict
use Rattle.sn_sync.specs.declared.answer.More.{More}
use Rattle.sn_sync.specs.declared.answer.More.TheVariants as more
use Rattle.sn_sync.specs.declared.item.Body.{Body}
use Rattle.sn_sync.specs.declared.item.Body.TheVariants as body
use Rattle.sn_sync.specs.declared.item.Item.{Item}
use Rattle.sn_sync.specs.declared.request.Request.{Request}
use Rattle.sn_sync.specs.declared.request.Request.TheVariants as request

-- the text is the compact JSON of this value, and reads as it
pub record IsJsonOf (d : Data) (text : Bytes) : Type 0 where
  pub utf8 : IsUtf8 text
  pub compact : text ≡ compact_text d
  pub reads : read text ≡ Some d

abbrev pub optional_data : Option Bytes → Data
optional_data None = null
optional_data (Some text) = string text

abbrev pub hash_data : Bytes → Data
hash_data bytes = string (encode_lower bytes)

abbrev pub uuid_data : Bytes → Data
uuid_data uuid = string (uuid_text uuid)

-- ---- items

-- the text of the stamp of the first acceptance, or null
abbrev pub IsCreatedData : Option ℕ → Data → Type 0
IsCreatedData None d = d ≡ null
IsCreatedData (Some stamp) d = (text : Bytes) × IsStampText text stamp × (d ≡ string text)

-- an item, with this in the place of its first acceptance; a deleted one has no strings
abbrev pub item_data : Data → Item → Body → Data
item_data created i (body.Strings content enc) = object (member (codes "content") (string content)
    (member (codes "content_type") (string i.kind)
    (member (codes "created_at") created
    (member (codes "deleted") (boolean false)
    (member (codes "enc_item_key") (string enc)
    (member (codes "updated_at") (optional_data i.updated_at)
    (member (codes "uuid") (uuid_data i.uuid) no_members)))))))
item_data created i body.Deleted = object (member (codes "content") null
    (member (codes "content_type") (string i.kind)
    (member (codes "created_at") created
    (member (codes "deleted") (boolean true)
    (member (codes "enc_item_key") null
    (member (codes "updated_at") (optional_data i.updated_at)
    (member (codes "uuid") (uuid_data i.uuid) no_members)))))))

pub record IsItemData (i : Item) (d : Data) : Type 0 where
  pub created : Data
  pub spells : IsCreatedData i.created created
  pub is : d ≡ item_data created i i.body

-- the items, in order
abbrev pub AreItemsData : List Item → Items → Type 0
AreItemsData [] no_items = Unit {0}
AreItemsData [] (item d ds) = ⊥
AreItemsData (i ∷ is) no_items = ⊥
AreItemsData (i ∷ is) (item d ds) = IsItemData i d × AreItemsData is ds

-- ---- requests

abbrev pub sync_data : Items → ℕ → Option Bytes → Option Bytes → Data
sync_data items limit sync_token cursor_token = object (member (codes "api") (string api_version)
    (member (codes "cursor_token") (optional_data cursor_token)
    (member (codes "items") (array items)
    (member (codes "limit") (number (unsigned limit))
    (member (codes "sync_token") (optional_data sync_token) no_members)))))

-- the value is the body of this request; a request for parameters has none
abbrev pub IsRequestData : Request → Data → Type 0
IsRequestData (request.Register params pw) d = d ≡ object (member (codes "email") (string params.identifier)
    (member (codes "password") (hash_data pw)
    (member (codes "pw_cost") (number (unsigned params.pw_cost))
    (member (codes "pw_nonce") (string params.pw_nonce)
    (member (codes "version") (string (codes "003")) no_members)))))
IsRequestData (request.Params identifier) d = ⊥
IsRequestData (request.SignIn identifier pw) d = d ≡ object (member (codes "email") (string identifier)
    (member (codes "password") (hash_data pw) no_members))
IsRequestData (request.ChangePw token current pw cost nonce) d = d ≡ object (member (codes "current_password") (hash_data current)
    (member (codes "new_password") (hash_data pw)
    (member (codes "pw_cost") (number (unsigned cost))
    (member (codes "pw_nonce") (string nonce)
    (member (codes "version") (string (codes "003")) no_members)))))
IsRequestData (request.Sync token items limit sync_token cursor_token) d =
    (ds : Items) × AreItemsData items ds × (d ≡ sync_data ds limit sync_token cursor_token)

-- the text that is sent for a request: for parameters the query, else the body
abbrev pub WritesRequest : Request → Bytes → Type 0
WritesRequest (request.Params identifier) text = text ≡ query_text identifier
WritesRequest (request.Register params pw) text = (d : Data) × IsRequestData (request.Register params pw) d × IsJsonOf d text
WritesRequest (request.SignIn identifier pw) text = (d : Data) × IsRequestData (request.SignIn identifier pw) d × IsJsonOf d text
WritesRequest (request.ChangePw token current pw cost nonce) text =
    (d : Data) × IsRequestData (request.ChangePw token current pw cost nonce) d × IsJsonOf d text
WritesRequest (request.Sync token items limit sync_token cursor_token) text =
    (d : Data) × IsRequestData (request.Sync token items limit sync_token cursor_token) d × IsJsonOf d text

-- ---- answers

-- an item in the member of this name, with the conflict's type, which stands before `unsaved_item` and behind `server_item`
abbrev pub IsConflictData : Conflict → Data → Type 0
IsConflictData (conflict.Sync server) d = (inner : Data) × IsItemData server inner
    × (d ≡ object (member (codes "server_item") inner (member (codes "type") (string sync_conflict) no_members)))
IsConflictData (conflict.Uuid unsaved) d = (inner : Data) × IsItemData unsaved inner
    × (d ≡ object (member (codes "type") (string uuid_conflict) (member (codes "unsaved_item") inner no_members)))
IsConflictData (conflict.Content unsaved) d = (inner : Data) × IsItemData unsaved inner
    × (d ≡ object (member (codes "type") (string content_error) (member (codes "unsaved_item") inner no_members)))

abbrev pub AreConflictsData : List Conflict → Items → Type 0
AreConflictsData [] no_items = Unit {0}
AreConflictsData [] (item d ds) = ⊥
AreConflictsData (c ∷ cs) no_items = ⊥
AreConflictsData (c ∷ cs) (item d ds) = IsConflictData c d × AreConflictsData cs ds

-- a refusal's tag, with its further members
abbrev pub error_data : Bytes → More → Data
error_data tag more.Nothing = object (member (codes "tag") (string tag) no_members)
error_data tag (more.Name name) = object (member (codes "name") (string name) (member (codes "tag") (string tag) no_members))
error_data tag (more.Number n) = object (member (codes "number") (number (unsigned n)) (member (codes "tag") (string tag) no_members))
error_data tag (more.Uuid uuid) = object (member (codes "tag") (string tag) (member (codes "uuid") (uuid_data uuid) no_members))
error_data tag (more.Both n uuid) = object (member (codes "number") (number (unsigned n))
    (member (codes "tag") (string tag) (member (codes "uuid") (uuid_data uuid) no_members)))

abbrev pub user_data : Bytes → Bytes → Data
user_data identifier uuid = object (member (codes "email") (string identifier) (member (codes "uuid") (uuid_data uuid) no_members))

abbrev pub synced_data : Items → Option Bytes → Items → Items → Bytes → Data
synced_data conflicts cursor_token retrieved saved sync_token = object (member (codes "conflicts") (array conflicts)
    (member (codes "cursor_token") (optional_data cursor_token)
    (member (codes "retrieved_items") (array retrieved)
    (member (codes "saved_items") (array saved)
    (member (codes "sync_token") (string sync_token) no_members)))))

-- the value is the body of this answer
abbrev pub IsAnswerData : Answer → Data → Type 0
IsAnswerData (answer.Account token identifier uuid) d =
    d ≡ object (member (codes "token") (string token) (member (codes "user") (user_data identifier uuid) no_members))
IsAnswerData (answer.Params params) d = d ≡ params_data params
IsAnswerData (answer.Sync conflicts cursor_token retrieved saved sync_token) d =
    (cs gs ss : Items) × AreConflictsData conflicts cs × AreItemsData retrieved gs × AreItemsData saved ss
    × (d ≡ synced_data cs cursor_token gs ss sync_token)
IsAnswerData (answer.Refused status tag further) d = d ≡ object (member (codes "error") (error_data tag further) no_members)

-- the text that is sent for an answer
abbrev pub WritesAnswer : Answer → Bytes → Type 0
WritesAnswer a text = (d : Data) × IsAnswerData a d × IsJsonOf d text
