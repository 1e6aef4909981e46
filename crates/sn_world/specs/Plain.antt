-- Worlds in which no password has been changed, and none is being changed.
use Rattle.std.specs.Prelude.{◌≡◌, ℕ, List, [], ◌∷◌, length, false, Option, Some, None}
use Rattle.std.specs.List.{flat_map}
use Rattle.sn_laws.specs.Lookups.{Bytes, empty}
use Rattle.sn_laws.specs.Runs.{LegalFrom, end_from}
use Rattle.sn_laws.specs.declared.ideal.Account.{Account}
use Rattle.sn_laws.specs.declared.ideal.Ideal.{Ideal}
use Rattle.sn_laws.specs.declared.moves.Move.{Move}
use Rattle.sn_laws.specs.declared.moves.Move.TheVariants.{Accept}
use Rattle.sn_rows.specs.Table.{Rows}
use Rattle.sn_rows.specs.declared.change.Change.{Change}
use Rattle.sn_rows.specs.declared.change.Change.TheVariants.{Put, Remove}
use Rattle.sn_rows.specs.declared.device_rows.LocalItem.{LocalItem}
use Rattle.sn_rows.specs.declared.key.Key.{Key}
use Rattle.sn_rows.specs.declared.key.Key.TheVariants as key
use Rattle.sn_rows.specs.declared.key.Slot.TheVariants.{Asked, Older}
use Rattle.sn_rows.specs.declared.value.Value.{Value}
use Rattle.sn_rows.specs.declared.value.Value.TheVariants as value
use Rattle.sn_shows.specs.Servers.{account_at}
use Rattle.sn_string.specs.declared.params.KeySet.{KeySet}
use Rattle.sn_sync.specs.declared.answer.Answer.{Answer}
use Rattle.sn_sync.specs.declared.request.Request.{Request}
use Rattle.sn_sync.specs.declared.request.Request.TheVariants as request
use Rattle.sn_device.specs.States.{HasLocal}
use Rattle.sn_device.specs.Steps.{What, asks}
use Rattle.sn_world.specs.Happens.{Does, Happens, Says, commits, makes, serves, starts}
use Rattle.sn_world.specs.Holds.{Holds, TokensDiffer}
use Rattle.sn_world.specs.Serving.{SaysServed, Serves, generation_of, number_of, registers_in}
use Rattle.sn_world.specs.World.{IsMade, Made, World, at_first}

-- ---- such worlds

-- each account has one set
abbrev pub HaveOneSet : List Account → Type 0
HaveOneSet accounts = (n : ℕ) (a : Account) → account_at n accounts ≡ Some a → length a.sets ≡ 1

-- no set is asked for
abbrev pub AsksNoSet : Rows → Type 0
AsksNoSet rows = rows (key.Set Asked) ≡ None

-- the request changes no password
abbrev pub KeepsSet : Request → Type 0
KeepsSet (request.Register params pw) = Unit {0}
KeepsSet (request.Params identifier) = Unit {0}
KeepsSet (request.SignIn identifier pw) = Unit {0}
KeepsSet (request.ChangePw token current pw cost nonce) = ⊥
KeepsSet (request.Sync token items limit sync_token cursor_token) = Unit {0}

-- each account has one set, no device asks for another, and no request that was made does
pub record IsPlainWorld (w : World) (s : Ideal) : Type 0 where
  pub one_set : HaveOneSet s.accounts
  pub unasked : (name : Bytes) → AsksNoSet (w.devices name)
  pub no_change : (m : Made) → IsMade w m → KeepsSet m.request

-- and the invariant holds
pub record HoldsPlain (secret : Bytes) (w : World) (s : Ideal) : Type 0 where
  pub holds : Holds secret w s
  pub plain : IsPlainWorld w s

-- ---- steps that keep it so

abbrev pub IsPlainCommit : What → Type 0
IsPlainCommit (asks set) = ⊥
IsPlainCommit what = Unit {0}

-- no set is asked for, and no request that is made does
abbrev pub IsPlainStep : Happens → Type 0
IsPlainStep (starts changes stands) = Unit {0}
IsPlainStep (makes m) = KeepsSet m.request
IsPlainStep (serves m now changes given stands) = Unit {0}
IsPlainStep (commits name what changes stands) = IsPlainCommit what

-- these moves are legal, and both hold after them
abbrev pub KeptPlain : Bytes → World → Ideal → List Move → Type 0
KeptPlain secret next s moves = LegalFrom s moves × HoldsPlain secret next (end_from s moves)

-- ---- the laws

-- before anything happened
abbrev pub PlainFirst : Type 0
PlainFirst = (secret : Bytes) → HoldsPlain secret at_first empty

-- such a step keeps it so
abbrev pub KeepsPlain : Type 0
KeepsPlain = (secret : Bytes) (w next : World) (s : Ideal) (step : Happens) (moves : List Move) → TokensDiffer secret → HoldsPlain secret w s
    → IsPlainStep step → Does secret w s step next → Says w s step moves → KeptPlain secret next s moves

-- no row is to be sealed again, and no older set is held
abbrev pub PlainRows : Type 0
PlainRows = (secret : Bytes) (w : World) (s : Ideal) (name : Bytes) → HoldsPlain secret w s
    → ((number : ℕ) (local : LocalItem) → HasLocal (w.devices name) number local → local.stale ≡ false) × (w.devices name (key.Set Older) ≡ None)

-- ---- the moves of a request that is served: there are accepts and registrations alone

abbrev pub accept_of : Rows → Bytes → Key → Value → List Move
accept_of server name (key.Item uuid) (value.Item row) =
    Accept name uuid row.updated (number_of row.deleted (generation_of (server (key.Account row.account)))) ∷ []
accept_of server name at v = []

abbrev pub move_of : Rows → Bytes → Change → List Move
move_of server name (Put row) = accept_of server name row.key row.value
move_of server name (Remove at) = []

abbrev pub accepts_in : Rows → Bytes → List Change → List Move
accepts_in server name changes = flat_map (move_of server name) changes

abbrev pub moves_for : Rows → Bytes → Option KeySet → Request → List Change → List Move
moves_for server name begun (request.Register params pw) changes = registers_in params.identifier begun changes
moves_for server name begun (request.Params identifier) changes = []
moves_for server name begun (request.SignIn identifier pw) changes = []
moves_for server name begun (request.ChangePw token current pw cost nonce) changes = []
moves_for server name begun (request.Sync token items limit sync_token cursor_token) changes = accepts_in server name changes

-- what is said of a request that is served
abbrev pub PlainSays : Type 0
PlainSays = (secret : Bytes) (w next : World) (s : Ideal) (m : Made) (now : ℕ) (changes : List Change) (given : Answer) (moves : List Move)
    → TokensDiffer secret → HoldsPlain secret w s → Serves w next m now changes given → SaysServed w.server (w.devices m.device) m changes moves
    → moves ≡ moves_for w.server m.device m.begins m.request changes
