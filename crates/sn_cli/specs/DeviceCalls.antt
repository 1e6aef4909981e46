-- The call that a line of a device spells, with what it takes of its input.
use Rattle.std.specs.Prelude.{◌≡◌, ℕ, ◌≤◌, List, Option, Some, None, codes, length, eqb, ⊤}
use Rattle.std.specs.List.{before_first}
use Rattle.sn_command.specs.DeviceLines.{Task}
use Rattle.sn_command.specs.DeviceLines as task
use Rattle.sn_cli.specs.Inputs.{ReadsText}
use Rattle.sn_device.specs.Runs.{Call}
use Rattle.sn_device.specs.Runs as call
use Rattle.sn_notes.specs.Notes.{note_text}

-- what was read for a task: the whole input, as a text, or nothing
abbrev pub ReadsFor : Task → Option (List ℕ) → Option (List ℕ) → List ℕ → Type 0
ReadsFor (task.register server identifier cost) before after text = ReadsText before after text
ReadsFor (task.sign_in server identifier) before after text = ReadsText before after text
ReadsFor (task.put title) before after text = ReadsText before after text
ReadsFor (task.edit uuid) before after text = ReadsText before after text
ReadsFor (task.delete uuid) before after text = after ≡ before
ReadsFor task.list before after text = after ≡ before
ReadsFor (task.content uuid) before after text = after ≡ before
ReadsFor (task.sync server) before after text = after ≡ before
ReadsFor (task.change_password server cost) before after text = ReadsText before after text

-- what a password is taken of: all before the first line feed
abbrev pub first_line : List ℕ → List ℕ
first_line text = before_first (λ byte. eqb byte 10) text

-- a password has 1 to 1024 bytes
abbrev pub IsPassword : List ℕ → Type 0
IsPassword password = (1 ≤ length password) × (length password ≤ 1024)

-- a task of which the input's first line is the password
abbrev pub TakesPassword : Task → Type 0
TakesPassword (task.register server identifier cost) = ⊤
TakesPassword (task.sign_in server identifier) = ⊤
TakesPassword (task.put title) = ⊥
TakesPassword (task.edit uuid) = ⊥
TakesPassword (task.delete uuid) = ⊥
TakesPassword task.list = ⊥
TakesPassword (task.content uuid) = ⊥
TakesPassword (task.sync server) = ⊥
TakesPassword (task.change_password server cost) = ⊤

-- the content of a new item: the input, or the note of which it is the text
abbrev pub content_under : Option (List ℕ) → List ℕ → List ℕ
content_under None text = text
content_under (Some title) text = note_text title text

-- what is kept of the input
abbrev pub kept_of : Task → List ℕ → List ℕ
kept_of (task.register server identifier cost) text = text
kept_of (task.sign_in server identifier) text = text
kept_of (task.put title) text = content_under title text
kept_of (task.edit uuid) text = text
kept_of (task.delete uuid) text = text
kept_of task.list text = text
kept_of (task.content uuid) text = text
kept_of (task.sync server) text = text
kept_of (task.change_password server cost) text = text

-- the device's call
abbrev pub call_for : Task → List ℕ → Call
call_for (task.register server identifier cost) text = call.register identifier (first_line text) cost
call_for (task.sign_in server identifier) text = call.sign_in identifier (first_line text)
call_for (task.put title) text = call.put (codes "Note") (content_under title text)
call_for (task.edit uuid) text = call.edit uuid text
call_for (task.delete uuid) text = call.delete uuid
call_for task.list text = call.list
call_for (task.content uuid) text = call.content uuid
call_for (task.sync server) text = call.sync
call_for (task.change_password server cost) text = call.passwd (first_line text) cost

-- the server that it asks
abbrev pub server_for : Task → Option (List ℕ)
server_for (task.register server identifier cost) = Some server
server_for (task.sign_in server identifier) = Some server
server_for (task.put title) = None
server_for (task.edit uuid) = None
server_for (task.delete uuid) = None
server_for task.list = None
server_for (task.content uuid) = None
server_for (task.sync server) = Some server
server_for (task.change_password server cost) = Some server
