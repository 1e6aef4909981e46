-- The command lines of a device: the store, and what is to be done with it.
use Rattle.std.specs.Prelude.{◌≡◌, ℕ, ◌≤◌, List, Option, Some, None, codes, ⊤}
use Rattle.sn_command.specs.Named.{GivesCost, Names, USUAL_COST}
use Rattle.sn_command.specs.Servers.{IsServer}
use Rattle.sn_command.specs.Syntax.{value_of}
use Rattle.sn_string.specs.Bounds.{IsIdentifier}
use Rattle.sn_string.specs.Uuids.{IsUuidText, uuid_text}

-- what a device is to do; a server that it asks comes first
pub data Task : Type 0 where
  -- at a server, for an identifier, at a cost
  register : List ℕ → List ℕ → ℕ → Task
  -- at a server, for an identifier
  sign_in : List ℕ → List ℕ → Task
  -- with a title the input is the text of a note, else it is the content
  put : Option (List ℕ) → Task
  edit : List ℕ → Task
  delete : List ℕ → Task
  list : Task
  content : List ℕ → Task
  sync : List ℕ → Task
  -- at a server, at a cost
  change_password : List ℕ → ℕ → Task

pub record DeviceLine : Type 0 where
  pub store : List ℕ
  pub task : Task

-- the command's name
abbrev pub named_for : Task → List ℕ
named_for (register server identifier cost) = codes "register"
named_for (sign_in server identifier) = codes "signin"
named_for (put title) = codes "put"
named_for (edit uuid) = codes "edit"
named_for (delete uuid) = codes "del"
named_for list = codes "list"
named_for (content uuid) = codes "list"
named_for (sync server) = codes "sync"
named_for (change_password server cost) = codes "passwd"

-- the words give a server, in its form
pub record GivesServer (words : List (List ℕ)) (server : List ℕ) : Type 0 where
  pub form : IsServer server
  pub given : value_of words (codes "server") ≡ Some server

-- an identifier within its bounds
pub record GivesIdentifier (words : List (List ℕ)) (identifier : List ℕ) : Type 0 where
  pub fits : IsIdentifier identifier
  pub given : value_of words (codes "identifier") ≡ Some identifier

-- a uuid in its form
pub record GivesUuid (words : List (List ℕ)) (uuid : List ℕ) : Type 0 where
  pub form : IsUuidText (uuid_text uuid) uuid
  pub given : value_of words (codes "uuid") ≡ Some (uuid_text uuid)

-- the cost of new keys, or nothing for the least
pub record GivesDeviceCost (words : List (List ℕ)) (cost : ℕ) : Type 0 where
  pub least : USUAL_COST ≤ cost
  pub most : cost ≤ 10000000
  pub given : GivesCost words cost

pub record GivesRegister (words : List (List ℕ)) (server identifier : List ℕ) (cost : ℕ) : Type 0 where
  pub server_given : GivesServer words server
  pub identifier_given : GivesIdentifier words identifier
  pub cost_given : GivesDeviceCost words cost

pub record GivesSignIn (words : List (List ℕ)) (server identifier : List ℕ) : Type 0 where
  pub server_given : GivesServer words server
  pub identifier_given : GivesIdentifier words identifier

pub record GivesChange (words : List (List ℕ)) (server : List ℕ) (cost : ℕ) : Type 0 where
  pub server_given : GivesServer words server
  pub cost_given : GivesDeviceCost words cost

-- the words give what this task needs
abbrev pub GivesTask : List (List ℕ) → Task → Type 0
GivesTask words (register server identifier cost) = GivesRegister words server identifier cost
GivesTask words (sign_in server identifier) = GivesSignIn words server identifier
GivesTask words (put title) = value_of words (codes "title") ≡ title
GivesTask words (edit uuid) = GivesUuid words uuid
GivesTask words (delete uuid) = GivesUuid words uuid
GivesTask words list = value_of words (codes "uuid") ≡ None
GivesTask words (content uuid) = GivesUuid words uuid
GivesTask words (sync server) = GivesServer words server
GivesTask words (change_password server cost) = GivesChange words server cost

-- the words are a line of a device's command that says this
pub record IsDeviceLine (words : List (List ℕ)) (line : DeviceLine) : Type 0 where
  pub command : Names words (named_for line.task)
  pub store_given : value_of words (codes "store") ≡ Some line.store
  pub task_given : GivesTask words line.task

-- the words are a line of a device's command
abbrev pub IsDevicing : List (List ℕ) → Type 0
IsDevicing words = (line : DeviceLine) × IsDeviceLine words line

-- a task that takes its input
abbrev pub TakesInput : Task → Type 0
TakesInput (register server identifier cost) = ⊤
TakesInput (sign_in server identifier) = ⊤
TakesInput (put title) = ⊤
TakesInput (edit uuid) = ⊤
TakesInput (delete uuid) = ⊥
TakesInput list = ⊥
TakesInput (content uuid) = ⊥
TakesInput (sync server) = ⊥
TakesInput (change_password server cost) = ⊤

-- an identifier within its bounds
abbrev pub HasTaskBounds : Task → Type 0
HasTaskBounds (register server identifier cost) = IsIdentifier identifier
HasTaskBounds (sign_in server identifier) = IsIdentifier identifier
HasTaskBounds (put title) = ⊤
HasTaskBounds (edit uuid) = ⊤
HasTaskBounds (delete uuid) = ⊤
HasTaskBounds list = ⊤
HasTaskBounds (content uuid) = ⊤
HasTaskBounds (sync server) = ⊤
HasTaskBounds (change_password server cost) = ⊤
