-- What an answer says: its members, and the first of them that is out of form.
use Rattle.std.specs.Prelude.{◌≡◌, ◌≢◌, ◌⊎◌, ℕ, List, [], ◌∷◌, codes, Option, Some, None}
use Rattle.serde_json.specs.Data.{Data, Items, array, item, no_items}
use Rattle.serde_json.specs.Find.{get}
use Rattle.sn_string.specs.declared.params.Params.{Params}
use Rattle.sn_sync.specs.Items.{IsItem, RefusesItem, RefusesList, SaysItems, Standing, sent, stored}
use Rattle.sn_sync.specs.Members.{Bytes, IsObject, SaysCost, SaysIdentifier, SaysNonce, SaysNullable, SaysNumber, SaysSessionToken, SaysText, SaysUuid, SaysWord}
use Rattle.sn_sync.specs.Refusals.{Done, Next, Then}
use Rattle.sn_sync.specs.Requests.{HasBody, RefusesBody}
use Rattle.sn_sync.specs.declared.answer.Answer.{Answer}
use Rattle.sn_sync.specs.declared.answer.Answer.TheVariants as answer
use Rattle.sn_sync.specs.declared.answer.Conflict.{Conflict}
use Rattle.sn_sync.specs.declared.answer.Conflict.TheVariants as conflict
use Rattle.sn_sync.specs.declared.answer.More.{More}
use Rattle.sn_sync.specs.declared.answer.More.TheVariants as more
use Rattle.sn_sync.specs.declared.error.SyncError.{SyncError}
use Rattle.sn_sync.specs.declared.error.SyncError.TheVariants as error
use Rattle.sn_sync.specs.declared.item.Item.{Item}
use Rattle.sn_sync.specs.declared.request.Route.{Route}
use Rattle.sn_sync.specs.declared.request.Route.TheVariants as route

-- ---- an account: the answer to a registration, a sign-in and a change of password

-- the member `user` names the account
pub record IsUser (d : Data) (identifier uuid : Bytes) : Type 0 where
  pub object : IsObject d
  pub email : SaysIdentifier (get (codes "email") d) identifier
  pub named : SaysUuid (get (codes "uuid") d) uuid

abbrev pub SaysUser : Option Data → Bytes → Bytes → Type 0
SaysUser m identifier uuid = (d : Data) × (m ≡ Some d) × IsUser d identifier uuid

-- the members of a user, where the member is an object
abbrev pub RefusesUserOf : Data → SyncError → Type 0
RefusesUserOf d =
    Then (SaysIdentifier (get (codes "email") d)) (codes "email")
    (Then (SaysUuid (get (codes "uuid") d)) (codes "uuid")
    Done)

-- no object is there, or its first fault
abbrev pub RefusesUser : Option Data → SyncError → Type 0
RefusesUser m e =
    (((d : Data) → m ≡ Some d → ¬ (IsObject d)) × (e ≡ error.Member (codes "user")))
    ⊎ ((d : Data) × (m ≡ Some d) × IsObject d × RefusesUserOf d e)

pub record IsAccount (d : Data) (token identifier uuid : Bytes) : Type 0 where
  pub session : SaysSessionToken (get (codes "token") d) token
  pub user : SaysUser (get (codes "user") d) identifier uuid

abbrev pub RefusesAccount : Data → SyncError → Type 0
RefusesAccount d =
    Then (SaysSessionToken (get (codes "token") d)) (codes "token")
    (RefusesUser (get (codes "user") d))

-- ---- parameters

pub record IsParams (d : Data) (params : Params) : Type 0 where
  pub identifier : SaysIdentifier (get (codes "identifier") d) params.identifier
  pub pw_cost : SaysCost (get (codes "pw_cost") d) params.pw_cost
  pub pw_nonce : SaysNonce (get (codes "pw_nonce") d) params.pw_nonce
  pub version : SaysWord (codes "003") (get (codes "version") d) (codes "003")

abbrev pub RefusesParams : Data → SyncError → Type 0
RefusesParams d =
    Then (SaysIdentifier (get (codes "identifier") d)) (codes "identifier")
    (Then (SaysCost (get (codes "pw_cost") d)) (codes "pw_cost")
    (Then (SaysNonce (get (codes "pw_nonce") d)) (codes "pw_nonce")
    (Then (SaysWord (codes "003") (get (codes "version") d)) (codes "version")
    Done)))

-- ---- conflicts

abbrev pub sync_conflict : Bytes
sync_conflict = codes "sync_conflict"

abbrev pub uuid_conflict : Bytes
uuid_conflict = codes "uuid_conflict"

abbrev pub content_error : Bytes
content_error = codes "content_error"

abbrev pub SaysItem : Standing → Option Data → Item → Type 0
SaysItem standing m i = (d : Data) × (m ≡ Some d) × IsItem standing d i

-- there is no such member, or its value is refused
abbrev pub RefusesMember : Standing → Bytes → Option Data → SyncError → Type 0
RefusesMember standing name None e = e ≡ error.Member name
RefusesMember standing name (Some d) e = RefusesItem standing name d e

-- the account's item where it was changed meanwhile, and else the item that was sent
abbrev pub SaysConflict : Data → Conflict → Type 0
SaysConflict d (conflict.Sync server) =
    SaysText (get (codes "type") d) sync_conflict × SaysItem stored (get (codes "server_item") d) server
SaysConflict d (conflict.Uuid unsaved) =
    SaysText (get (codes "type") d) uuid_conflict × SaysItem sent (get (codes "unsaved_item") d) unsaved
SaysConflict d (conflict.Content unsaved) =
    SaysText (get (codes "type") d) content_error × SaysItem sent (get (codes "unsaved_item") d) unsaved

abbrev pub IsConflict : Data → Conflict → Type 0
IsConflict d c = IsObject d × SaysConflict d c

-- the type is one of the three
abbrev pub IsConflictType : Option Data → Type 0
IsConflictType m = SaysText m sync_conflict ⊎ SaysText m uuid_conflict ⊎ SaysText m content_error

abbrev pub RefusesTyped : Data → SyncError → Type 0
RefusesTyped d e =
    (SaysText (get (codes "type") d) sync_conflict × RefusesMember stored (codes "server_item") (get (codes "server_item") d) e)
    ⊎ (SaysText (get (codes "type") d) uuid_conflict × RefusesMember sent (codes "unsaved_item") (get (codes "unsaved_item") d) e)
    ⊎ (SaysText (get (codes "type") d) content_error × RefusesMember sent (codes "unsaved_item") (get (codes "unsaved_item") d) e)

abbrev pub RefusesConflict : Data → SyncError → Type 0
RefusesConflict d e =
    (¬ (IsObject d) × (e ≡ error.Member (codes "conflicts")))
    ⊎ (IsObject d × ¬ (IsConflictType (get (codes "type") d)) × (e ≡ error.Member (codes "type")))
    ⊎ (IsObject d × RefusesTyped d e)

-- the values are these conflicts, in order
abbrev pub AreConflicts : Items → List Conflict → Type 0
AreConflicts no_items [] = Unit {0}
AreConflicts no_items (c ∷ cs) = ⊥
AreConflicts (item d ds) [] = ⊥
AreConflicts (item d ds) (c ∷ cs) = IsConflict d c × AreConflicts ds cs

-- the first of the values that is no conflict is refused so
abbrev pub RefusesConflicts : Items → SyncError → Type 0
RefusesConflicts no_items e = ⊥
RefusesConflicts (item d ds) e = Next ((c : Conflict) × IsConflict d c) (RefusesConflict d) (RefusesConflicts ds) e

abbrev pub SaysConflicts : Option Data → List Conflict → Type 0
SaysConflicts m conflicts = (ds : Items) × (m ≡ Some (array ds)) × AreConflicts ds conflicts

abbrev pub RefusesConflictList : Option Data → SyncError → Type 0
RefusesConflictList m e =
    (((ds : Items) → m ≢ Some (array ds)) × (e ≡ error.Member (codes "conflicts")))
    ⊎ ((ds : Items) × (m ≡ Some (array ds)) × RefusesConflicts ds e)

-- ---- a sync

pub record IsSynced (d : Data) (conflicts : List Conflict) (cursor_token : Option Bytes) (retrieved saved : List Item) (sync_token : Bytes)
    : Type 0 where
  pub refused : SaysConflicts (get (codes "conflicts") d) conflicts
  pub cursor : SaysNullable (get (codes "cursor_token") d) cursor_token
  pub given : SaysItems stored (get (codes "retrieved_items") d) retrieved
  pub kept : SaysItems stored (get (codes "saved_items") d) saved
  pub token : SaysText (get (codes "sync_token") d) sync_token

abbrev pub RefusesSynced : Data → SyncError → Type 0
RefusesSynced d =
    Next ((cs : List Conflict) × SaysConflicts (get (codes "conflicts") d) cs) (RefusesConflictList (get (codes "conflicts") d))
    (Then (SaysNullable (get (codes "cursor_token") d)) (codes "cursor_token")
    (Next ((is : List Item) × SaysItems stored (get (codes "retrieved_items") d) is)
    (RefusesList stored (codes "retrieved_items") (get (codes "retrieved_items") d))
    (Next ((is : List Item) × SaysItems stored (get (codes "saved_items") d) is)
    (RefusesList stored (codes "saved_items") (get (codes "saved_items") d))
    (Then (SaysText (get (codes "sync_token") d)) (codes "sync_token")
    Done))))

-- ---- a refusal

abbrev pub HasNoNumber : Data → Type 0
HasNoNumber d = (n : ℕ) → ¬ (SaysNumber (get (codes "number") d) n)

abbrev pub HasNoUuid : Data → Type 0
HasNoUuid d = (u : Bytes) → ¬ (SaysUuid (get (codes "uuid") d) u)

-- of the further members a number and a uuid together, else the number, else the uuid, else a name
abbrev pub SaysMore : Data → More → Type 0
SaysMore d (more.Both n uuid) = SaysNumber (get (codes "number") d) n × SaysUuid (get (codes "uuid") d) uuid
SaysMore d (more.Number n) = SaysNumber (get (codes "number") d) n × HasNoUuid d
SaysMore d (more.Uuid uuid) = SaysUuid (get (codes "uuid") d) uuid × HasNoNumber d
SaysMore d (more.Name name) = SaysText (get (codes "name") d) name × HasNoNumber d × HasNoUuid d
SaysMore d more.Nothing = HasNoNumber d × HasNoUuid d × ((name : Bytes) → ¬ (SaysText (get (codes "name") d) name))

-- the member `error` has a text as its tag
abbrev pub SaysError : Option Data → Bytes → More → Type 0
SaysError m tag further = (d : Data) × (m ≡ Some d) × SaysText (get (codes "tag") d) tag × SaysMore d further

abbrev pub RefusesRefused : Data → SyncError → Type 0
RefusesRefused d e =
    ((inner : Data) (tag : Bytes) → get (codes "error") d ≡ Some inner → ¬ (SaysText (get (codes "tag") inner) tag))
    × (e ≡ error.Member (codes "error"))

-- ---- each route

-- the object is the body of this answer, where the status is 200
abbrev pub SaysOn : Route → Data → Answer → Type 0
SaysOn route.Params d (answer.Params params) = IsParams d params
SaysOn route.Sync d (answer.Sync conflicts cursor_token retrieved saved sync_token) =
    IsSynced d conflicts cursor_token retrieved saved sync_token
SaysOn route.Register d (answer.Account token identifier uuid) = IsAccount d token identifier uuid
SaysOn route.SignIn d (answer.Account token identifier uuid) = IsAccount d token identifier uuid
SaysOn route.ChangePw d (answer.Account token identifier uuid) = IsAccount d token identifier uuid
SaysOn r d a = ⊥

-- and where it is another
abbrev pub SaysRefused : ℕ → Data → Answer → Type 0
SaysRefused status d (answer.Refused s tag further) = (s ≡ status) × SaysError (get (codes "error") d) tag further
SaysRefused status d (answer.Params params) = ⊥
SaysRefused status d (answer.Sync conflicts cursor_token retrieved saved sync_token) = ⊥
SaysRefused status d (answer.Account token identifier uuid) = ⊥

-- the text is the body of this answer on this route
abbrev pub IsAnswer : Route → ℕ → Bytes → Answer → Type 0
IsAnswer r status text a =
    (d : Data) × HasBody text d × (((status ≡ 200) × SaysOn r d a) ⊎ ((status ≢ 200) × SaysRefused status d a))

abbrev pub RefusesOn : Route → Data → SyncError → Type 0
RefusesOn route.Params = RefusesParams
RefusesOn route.Sync = RefusesSynced
RefusesOn route.Register = RefusesAccount
RefusesOn route.SignIn = RefusesAccount
RefusesOn route.ChangePw = RefusesAccount

-- the refusal of such a text
abbrev pub RefusesAnswer : Route → ℕ → Bytes → SyncError → Type 0
RefusesAnswer r status text e =
    ((status ≡ 200) × RefusesBody (RefusesOn r) text e) ⊎ ((status ≢ 200) × RefusesBody RefusesRefused text e)
