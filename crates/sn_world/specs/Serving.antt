-- A request that was made is served, at any time; and the moves that its batch says.
use Rattle.std.specs.Prelude.{◌≡◌, ◌⊎◌, ℕ, List, [], ◌∷◌, ◌++◌, Bool, true, false, Option, Some, None}
use Rattle.sn_account.specs.Rule.{Rule}
use Rattle.sn_account.specs.Stored.{body_of}
use Rattle.sn_device.specs.Sending.{message_body}
use Rattle.sn_device.specs.States.{HasItem}
use Rattle.sn_laws.specs.Lookups.{Bytes}
use Rattle.sn_laws.specs.declared.moves.Move.{Move}
use Rattle.sn_laws.specs.declared.moves.Move.TheVariants.{Accept, Register, Rewrap}
use Rattle.sn_laws.specs.declared.moves.Move.TheVariants as move
use Rattle.sn_rows.specs.Table.{Rows, rows_after}
use Rattle.sn_rows.specs.declared.body.RowBody.{RowBody}
use Rattle.sn_rows.specs.declared.change.Change.{Change}
use Rattle.sn_rows.specs.declared.change.Change.TheVariants.{Put, Remove}
use Rattle.sn_rows.specs.declared.device_rows.LocalItem.{LocalItem}
use Rattle.sn_rows.specs.declared.key.Key.{Key}
use Rattle.sn_rows.specs.declared.key.Key.TheVariants as key
use Rattle.sn_rows.specs.declared.server_rows.ItemRow.{ItemRow}
use Rattle.sn_rows.specs.declared.value.Value.{Value}
use Rattle.sn_rows.specs.declared.value.Value.TheVariants as value
use Rattle.sn_string.specs.declared.params.KeySet.{KeySet}
use Rattle.sn_sync.specs.Fits.{FitsRequest}
use Rattle.sn_sync.specs.declared.answer.Answer.{Answer}
use Rattle.sn_sync.specs.declared.request.Request.{Request}
use Rattle.sn_sync.specs.declared.request.Request.TheVariants as request
use Rattle.sn_world.specs.World.{IsMade, Made, OnServer, World}

-- the server answers by its rule, a request within the bounds of one that was read, and commits what that changes
pub record Serves (w next : World) (m : Made) (now : ℕ) (changes : List Change) (given : Answer) : Type 0 where
  pub made : IsMade w m
  pub fits : FitsRequest m.request
  pub rule : Rule w.server m.request now changes given
  pub on : OnServer w next changes

-- ---- the moves of its batch, by that and the server's rows before it

-- the number of an account's last set, by its row
abbrev pub generation_of : Option Value → ℕ
generation_of (Some (value.Account row)) = row.generation
generation_of found = 0

-- the number that is said of a version under this set; a deletion has none
abbrev pub number_of : Bool → ℕ → Option ℕ
number_of true number = None
number_of false number = Some number

-- the stamp of an item's row, where there is one
abbrev pub stamp_in : Option Value → Option ℕ
stamp_in (Some (value.Item row)) = Some row.updated
stamp_in found = None

-- the device's row of the item stands on what the server has, has its type, and has it as what was sent
pub record IsSentRow (found : Option Value) (device : Rows) (uuid : Bytes) (row : ItemRow) : Type 0 where
  pub number : ℕ
  pub local : LocalItem
  pub stands : HasItem device uuid number local
  pub kind_is : local.kind ≡ row.kind
  pub base_is : local.base ≡ stamp_in found
  pub posted : RowBody
  pub posted_is : local.posted ≡ Some posted
  pub body_is : body_of row ≡ message_body posted

-- an item's row that is put is an accept of what the device has sent, else its last version is sealed again; both are under the last set of the account
-- that the row names
abbrev pub SaysItem : Rows → Rows → Bytes → Bytes → ItemRow → List Move → Type 0
SaysItem server device name uuid row moves =
    (IsSentRow (server (key.Item uuid)) device uuid row
    × (moves ≡ Accept name uuid row.updated (number_of row.deleted (generation_of (server (key.Account row.account)))) ∷ []))
    ⊎ (¬ (IsSentRow (server (key.Item uuid)) device uuid row)
    × (moves ≡ Rewrap uuid row.updated (generation_of (server (key.Account row.account))) ∷ []))

-- no other row is a move
abbrev pub SaysRow : Rows → Rows → Bytes → Key → Value → List Move → Type 0
SaysRow server device name (key.Item uuid) (value.Item row) moves = SaysItem server device name uuid row moves
SaysRow server device name at v moves = moves ≡ []

-- a row that is taken away is none
abbrev pub SaysChange : Rows → Rows → Bytes → Change → List Move → Type 0
SaysChange server device name (Put row) moves = SaysRow server device name row.key row.value moves
SaysChange server device name (Remove at) moves = moves ≡ []

-- of a whole batch, each over the rows that those before it have left
abbrev pub SaysChanges : Rows → Rows → Bytes → List Change → List Move → Type 0
SaysChanges server device name [] moves = moves ≡ []
SaysChanges server device name (change ∷ changes) moves =
    (first : List Move) × (later : List Move) × SaysChange server device name change first
    × SaysChanges (rows_after server (change ∷ [])) device name changes later × (moves ≡ first ++ later)

-- an account that was begun is a registration, with the set that the request would begin
abbrev pub registers_in : Bytes → Option KeySet → List Change → List Move
registers_in identifier None changes = []
registers_in identifier (Some set) [] = []
registers_in identifier (Some set) (change ∷ changes) = Register identifier set ∷ []

-- an account's row that is put by a change of password gives it the next set, which is the one that the request would begin
abbrev pub change_of : KeySet → Key → Value → List Move
change_of set (key.Account number) (value.Account row) = move.Change row.identifier row.generation set ∷ []
change_of set at v = []

abbrev pub changes_in : Option KeySet → List Change → List Move
changes_in None changes = []
changes_in (Some set) [] = []
changes_in (Some set) (Put row ∷ changes) = change_of set row.key row.value
changes_in (Some set) (Remove at ∷ changes) = []

-- by the route
abbrev pub SaysRoute : Rows → Rows → Bytes → Option KeySet → Request → List Change → List Move → Type 0
SaysRoute server device name begins (request.Register params pw) changes moves = moves ≡ registers_in params.identifier begins changes
SaysRoute server device name begins (request.Params identifier) changes moves = moves ≡ []
SaysRoute server device name begins (request.SignIn identifier pw) changes moves = moves ≡ []
SaysRoute server device name begins (request.ChangePw token current pw cost nonce) changes moves = moves ≡ changes_in begins changes
SaysRoute server device name begins (request.Sync token items limit sync_token cursor_token) changes moves = SaysChanges server device name changes moves

-- so a served request says them, by the rows of the device that made it as they are then
abbrev pub SaysServed : Rows → Rows → Made → List Change → List Move → Type 0
SaysServed server device m changes moves = SaysRoute server device m.device m.begins m.request changes moves
