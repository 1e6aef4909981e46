-- Words are one line of a device.
use Rattle.std.proofs.Common.{◌≡◌, ◌||◌, Bool, true, false, eqb, ℕ, List, get_or, refl, sym, ap, ◌∙◌, arith}
use Rattle.sn_command.specs.DeviceLines.{DeviceLine, GivesTask, GivesDeviceCost, GivesIdentifier, GivesServer, GivesUuid, IsDeviceLine, Task, change_password, content, delete, edit, list, named_for, put, register, sign_in, sync}
use Rattle.sn_command.specs.Named.{Names}
use Rattle.sn_string.specs.Uuids.{uuid_text}
use Rattle.sn_command.proofs.OneLine.{one_command, one_cost, one_uuid, one_value, some_or_none}

one_server : (words : List (List ℕ)) (a b : List ℕ) → GivesServer words a → GivesServer words b → a ≡ b
one_server words a b first second = one_value a b _ first.given second.given

one_identifier : (words : List (List ℕ)) (a b : List ℕ) → GivesIdentifier words a → GivesIdentifier words b → a ≡ b
one_identifier words a b first second = one_value a b _ first.given second.given

one_given_uuid : (words : List (List ℕ)) (a b : List ℕ) → GivesUuid words a → GivesUuid words b → a ≡ b
one_given_uuid words a b first second =
    one_uuid a b first.form second.form (one_value (uuid_text a) (uuid_text b) _ first.given second.given)

one_device_cost : (words : List (List ℕ)) (a b : ℕ) → GivesDeviceCost words a → GivesDeviceCost words b → a ≡ b
one_device_cost words a b first second =
    one_cost words a b (omega (arith, first.most)) (omega (arith, second.most)) first.given second.given

-- what words give a command of one name is one task
one_task : (words : List (List ℕ)) (a b : Task) → named_for a ≡ named_for b → GivesTask words a → GivesTask words b → a ≡ b
one_task words (register server identifier cost) (register server_2 identifier_2 cost_2) same first second =
    let server_same : server ≡ server_2 = one_server words server server_2 first.server_given second.server_given in
    let identifier_same : identifier ≡ identifier_2 = one_identifier words identifier identifier_2 first.identifier_given second.identifier_given in
    let cost_same : cost ≡ cost_2 = one_device_cost words cost cost_2 first.cost_given second.cost_given in
    λ i. register (server_same i) (identifier_same i) (cost_same i)
one_task words (register server identifier cost) (sign_in server_2 identifier_2) same first second = absurd (let e : 114 ≡ 115 = ap (λ (name : List ℕ). get_or name 0 0) same in omega (arith, e))
one_task words (register server identifier cost) (put title_2) same first second = absurd (let e : 114 ≡ 112 = ap (λ (name : List ℕ). get_or name 0 0) same in omega (arith, e))
one_task words (register server identifier cost) (edit uuid_2) same first second = absurd (let e : 114 ≡ 101 = ap (λ (name : List ℕ). get_or name 0 0) same in omega (arith, e))
one_task words (register server identifier cost) (delete uuid_2) same first second = absurd (let e : 114 ≡ 100 = ap (λ (name : List ℕ). get_or name 0 0) same in omega (arith, e))
one_task words (register server identifier cost) list same first second = absurd (let e : 114 ≡ 108 = ap (λ (name : List ℕ). get_or name 0 0) same in omega (arith, e))
one_task words (register server identifier cost) (content uuid_2) same first second = absurd (let e : 114 ≡ 108 = ap (λ (name : List ℕ). get_or name 0 0) same in omega (arith, e))
one_task words (register server identifier cost) (sync server_2) same first second = absurd (let e : 114 ≡ 115 = ap (λ (name : List ℕ). get_or name 0 0) same in omega (arith, e))
one_task words (register server identifier cost) (change_password server_2 cost_2) same first second = absurd (let e : 114 ≡ 112 = ap (λ (name : List ℕ). get_or name 0 0) same in omega (arith, e))
one_task words (sign_in server identifier) (register server_2 identifier_2 cost_2) same first second = absurd (let e : 115 ≡ 114 = ap (λ (name : List ℕ). get_or name 0 0) same in omega (arith, e))
one_task words (sign_in server identifier) (sign_in server_2 identifier_2) same first second =
    let server_same : server ≡ server_2 = one_server words server server_2 first.server_given second.server_given in
    let identifier_same : identifier ≡ identifier_2 = one_identifier words identifier identifier_2 first.identifier_given second.identifier_given in
    λ i. sign_in (server_same i) (identifier_same i)
one_task words (sign_in server identifier) (put title_2) same first second = absurd (let e : 115 ≡ 112 = ap (λ (name : List ℕ). get_or name 0 0) same in omega (arith, e))
one_task words (sign_in server identifier) (edit uuid_2) same first second = absurd (let e : 115 ≡ 101 = ap (λ (name : List ℕ). get_or name 0 0) same in omega (arith, e))
one_task words (sign_in server identifier) (delete uuid_2) same first second = absurd (let e : 115 ≡ 100 = ap (λ (name : List ℕ). get_or name 0 0) same in omega (arith, e))
one_task words (sign_in server identifier) list same first second = absurd (let e : 115 ≡ 108 = ap (λ (name : List ℕ). get_or name 0 0) same in omega (arith, e))
one_task words (sign_in server identifier) (content uuid_2) same first second = absurd (let e : 115 ≡ 108 = ap (λ (name : List ℕ). get_or name 0 0) same in omega (arith, e))
one_task words (sign_in server identifier) (sync server_2) same first second = absurd (let e : 105 ≡ 121 = ap (λ (name : List ℕ). get_or name 1 0) same in omega (arith, e))
one_task words (sign_in server identifier) (change_password server_2 cost_2) same first second = absurd (let e : 115 ≡ 112 = ap (λ (name : List ℕ). get_or name 0 0) same in omega (arith, e))
one_task words (put title) (register server_2 identifier_2 cost_2) same first second = absurd (let e : 112 ≡ 114 = ap (λ (name : List ℕ). get_or name 0 0) same in omega (arith, e))
one_task words (put title) (sign_in server_2 identifier_2) same first second = absurd (let e : 112 ≡ 115 = ap (λ (name : List ℕ). get_or name 0 0) same in omega (arith, e))
one_task words (put title) (put title_2) same first second = ap put (sym first ∙ second)
one_task words (put title) (edit uuid_2) same first second = absurd (let e : 112 ≡ 101 = ap (λ (name : List ℕ). get_or name 0 0) same in omega (arith, e))
one_task words (put title) (delete uuid_2) same first second = absurd (let e : 112 ≡ 100 = ap (λ (name : List ℕ). get_or name 0 0) same in omega (arith, e))
one_task words (put title) list same first second = absurd (let e : 112 ≡ 108 = ap (λ (name : List ℕ). get_or name 0 0) same in omega (arith, e))
one_task words (put title) (content uuid_2) same first second = absurd (let e : 112 ≡ 108 = ap (λ (name : List ℕ). get_or name 0 0) same in omega (arith, e))
one_task words (put title) (sync server_2) same first second = absurd (let e : 112 ≡ 115 = ap (λ (name : List ℕ). get_or name 0 0) same in omega (arith, e))
one_task words (put title) (change_password server_2 cost_2) same first second = absurd (let e : 117 ≡ 97 = ap (λ (name : List ℕ). get_or name 1 0) same in omega (arith, e))
one_task words (edit uuid) (register server_2 identifier_2 cost_2) same first second = absurd (let e : 101 ≡ 114 = ap (λ (name : List ℕ). get_or name 0 0) same in omega (arith, e))
one_task words (edit uuid) (sign_in server_2 identifier_2) same first second = absurd (let e : 101 ≡ 115 = ap (λ (name : List ℕ). get_or name 0 0) same in omega (arith, e))
one_task words (edit uuid) (put title_2) same first second = absurd (let e : 101 ≡ 112 = ap (λ (name : List ℕ). get_or name 0 0) same in omega (arith, e))
one_task words (edit uuid) (edit uuid_2) same first second = ap edit (one_given_uuid words uuid uuid_2 first second)
one_task words (edit uuid) (delete uuid_2) same first second = absurd (let e : 101 ≡ 100 = ap (λ (name : List ℕ). get_or name 0 0) same in omega (arith, e))
one_task words (edit uuid) list same first second = absurd (let e : 101 ≡ 108 = ap (λ (name : List ℕ). get_or name 0 0) same in omega (arith, e))
one_task words (edit uuid) (content uuid_2) same first second = absurd (let e : 101 ≡ 108 = ap (λ (name : List ℕ). get_or name 0 0) same in omega (arith, e))
one_task words (edit uuid) (sync server_2) same first second = absurd (let e : 101 ≡ 115 = ap (λ (name : List ℕ). get_or name 0 0) same in omega (arith, e))
one_task words (edit uuid) (change_password server_2 cost_2) same first second = absurd (let e : 101 ≡ 112 = ap (λ (name : List ℕ). get_or name 0 0) same in omega (arith, e))
one_task words (delete uuid) (register server_2 identifier_2 cost_2) same first second = absurd (let e : 100 ≡ 114 = ap (λ (name : List ℕ). get_or name 0 0) same in omega (arith, e))
one_task words (delete uuid) (sign_in server_2 identifier_2) same first second = absurd (let e : 100 ≡ 115 = ap (λ (name : List ℕ). get_or name 0 0) same in omega (arith, e))
one_task words (delete uuid) (put title_2) same first second = absurd (let e : 100 ≡ 112 = ap (λ (name : List ℕ). get_or name 0 0) same in omega (arith, e))
one_task words (delete uuid) (edit uuid_2) same first second = absurd (let e : 100 ≡ 101 = ap (λ (name : List ℕ). get_or name 0 0) same in omega (arith, e))
one_task words (delete uuid) (delete uuid_2) same first second = ap delete (one_given_uuid words uuid uuid_2 first second)
one_task words (delete uuid) list same first second = absurd (let e : 100 ≡ 108 = ap (λ (name : List ℕ). get_or name 0 0) same in omega (arith, e))
one_task words (delete uuid) (content uuid_2) same first second = absurd (let e : 100 ≡ 108 = ap (λ (name : List ℕ). get_or name 0 0) same in omega (arith, e))
one_task words (delete uuid) (sync server_2) same first second = absurd (let e : 100 ≡ 115 = ap (λ (name : List ℕ). get_or name 0 0) same in omega (arith, e))
one_task words (delete uuid) (change_password server_2 cost_2) same first second = absurd (let e : 100 ≡ 112 = ap (λ (name : List ℕ). get_or name 0 0) same in omega (arith, e))
one_task words list (register server_2 identifier_2 cost_2) same first second = absurd (let e : 108 ≡ 114 = ap (λ (name : List ℕ). get_or name 0 0) same in omega (arith, e))
one_task words list (sign_in server_2 identifier_2) same first second = absurd (let e : 108 ≡ 115 = ap (λ (name : List ℕ). get_or name 0 0) same in omega (arith, e))
one_task words list (put title_2) same first second = absurd (let e : 108 ≡ 112 = ap (λ (name : List ℕ). get_or name 0 0) same in omega (arith, e))
one_task words list (edit uuid_2) same first second = absurd (let e : 108 ≡ 101 = ap (λ (name : List ℕ). get_or name 0 0) same in omega (arith, e))
one_task words list (delete uuid_2) same first second = absurd (let e : 108 ≡ 100 = ap (λ (name : List ℕ). get_or name 0 0) same in omega (arith, e))
one_task words list list same first second = refl
one_task words list (content uuid_2) same first second = absurd (some_or_none (uuid_text uuid_2) _ second.given first)
one_task words list (sync server_2) same first second = absurd (let e : 108 ≡ 115 = ap (λ (name : List ℕ). get_or name 0 0) same in omega (arith, e))
one_task words list (change_password server_2 cost_2) same first second = absurd (let e : 108 ≡ 112 = ap (λ (name : List ℕ). get_or name 0 0) same in omega (arith, e))
one_task words (content uuid) (register server_2 identifier_2 cost_2) same first second = absurd (let e : 108 ≡ 114 = ap (λ (name : List ℕ). get_or name 0 0) same in omega (arith, e))
one_task words (content uuid) (sign_in server_2 identifier_2) same first second = absurd (let e : 108 ≡ 115 = ap (λ (name : List ℕ). get_or name 0 0) same in omega (arith, e))
one_task words (content uuid) (put title_2) same first second = absurd (let e : 108 ≡ 112 = ap (λ (name : List ℕ). get_or name 0 0) same in omega (arith, e))
one_task words (content uuid) (edit uuid_2) same first second = absurd (let e : 108 ≡ 101 = ap (λ (name : List ℕ). get_or name 0 0) same in omega (arith, e))
one_task words (content uuid) (delete uuid_2) same first second = absurd (let e : 108 ≡ 100 = ap (λ (name : List ℕ). get_or name 0 0) same in omega (arith, e))
one_task words (content uuid) list same first second = absurd (some_or_none (uuid_text uuid) _ first.given second)
one_task words (content uuid) (content uuid_2) same first second = ap content (one_given_uuid words uuid uuid_2 first second)
one_task words (content uuid) (sync server_2) same first second = absurd (let e : 108 ≡ 115 = ap (λ (name : List ℕ). get_or name 0 0) same in omega (arith, e))
one_task words (content uuid) (change_password server_2 cost_2) same first second = absurd (let e : 108 ≡ 112 = ap (λ (name : List ℕ). get_or name 0 0) same in omega (arith, e))
one_task words (sync server) (register server_2 identifier_2 cost_2) same first second = absurd (let e : 115 ≡ 114 = ap (λ (name : List ℕ). get_or name 0 0) same in omega (arith, e))
one_task words (sync server) (sign_in server_2 identifier_2) same first second = absurd (let e : 121 ≡ 105 = ap (λ (name : List ℕ). get_or name 1 0) same in omega (arith, e))
one_task words (sync server) (put title_2) same first second = absurd (let e : 115 ≡ 112 = ap (λ (name : List ℕ). get_or name 0 0) same in omega (arith, e))
one_task words (sync server) (edit uuid_2) same first second = absurd (let e : 115 ≡ 101 = ap (λ (name : List ℕ). get_or name 0 0) same in omega (arith, e))
one_task words (sync server) (delete uuid_2) same first second = absurd (let e : 115 ≡ 100 = ap (λ (name : List ℕ). get_or name 0 0) same in omega (arith, e))
one_task words (sync server) list same first second = absurd (let e : 115 ≡ 108 = ap (λ (name : List ℕ). get_or name 0 0) same in omega (arith, e))
one_task words (sync server) (content uuid_2) same first second = absurd (let e : 115 ≡ 108 = ap (λ (name : List ℕ). get_or name 0 0) same in omega (arith, e))
one_task words (sync server) (sync server_2) same first second = ap sync (one_server words server server_2 first second)
one_task words (sync server) (change_password server_2 cost_2) same first second = absurd (let e : 115 ≡ 112 = ap (λ (name : List ℕ). get_or name 0 0) same in omega (arith, e))
one_task words (change_password server cost) (register server_2 identifier_2 cost_2) same first second = absurd (let e : 112 ≡ 114 = ap (λ (name : List ℕ). get_or name 0 0) same in omega (arith, e))
one_task words (change_password server cost) (sign_in server_2 identifier_2) same first second = absurd (let e : 112 ≡ 115 = ap (λ (name : List ℕ). get_or name 0 0) same in omega (arith, e))
one_task words (change_password server cost) (put title_2) same first second = absurd (let e : 97 ≡ 117 = ap (λ (name : List ℕ). get_or name 1 0) same in omega (arith, e))
one_task words (change_password server cost) (edit uuid_2) same first second = absurd (let e : 112 ≡ 101 = ap (λ (name : List ℕ). get_or name 0 0) same in omega (arith, e))
one_task words (change_password server cost) (delete uuid_2) same first second = absurd (let e : 112 ≡ 100 = ap (λ (name : List ℕ). get_or name 0 0) same in omega (arith, e))
one_task words (change_password server cost) list same first second = absurd (let e : 112 ≡ 108 = ap (λ (name : List ℕ). get_or name 0 0) same in omega (arith, e))
one_task words (change_password server cost) (content uuid_2) same first second = absurd (let e : 112 ≡ 108 = ap (λ (name : List ℕ). get_or name 0 0) same in omega (arith, e))
one_task words (change_password server cost) (sync server_2) same first second = absurd (let e : 112 ≡ 115 = ap (λ (name : List ℕ). get_or name 0 0) same in omega (arith, e))
one_task words (change_password server cost) (change_password server_2 cost_2) same first second =
    let server_same : server ≡ server_2 = one_server words server server_2 first.server_given second.server_given in
    let cost_same : cost ≡ cost_2 = one_device_cost words cost cost_2 first.cost_given second.cost_given in
    λ i. change_password (server_same i) (cost_same i)

pub one_device : (words : List (List ℕ)) (a b : DeviceLine) → IsDeviceLine words a → IsDeviceLine words b → a ≡ b
one_device words a b first second =
    let store : a.store ≡ b.store = one_value a.store b.store _ first.store_given second.store_given in
    let task : a.task ≡ b.task =
    one_task words a.task b.task (one_command words (named_for a.task) (named_for b.task) first.command second.command) first.task_given second.task_given in
    λ i. record { store = store i; task = task i }

-- ---- another command's name

-- the third letter is one of the names of a device's commands
abbrev pub is_third : ℕ → Bool
is_third letter = eqb letter 103 || (eqb letter 116 || (eqb letter 105 || (eqb letter 108 || (eqb letter 115 || eqb letter 110))))

third_of : (task : Task) → is_third (get_or (named_for task) 2 0) ≡ true
third_of (register server identifier cost) = refl
third_of (sign_in server identifier) = refl
third_of (put title) = refl
third_of (edit uuid) = refl
third_of (delete uuid) = refl
third_of list = refl
third_of (content uuid) = refl
third_of (sync server) = refl
third_of (change_password server cost) = refl

-- words that name another command are no line of a device
pub other_command : (words : List (List ℕ)) (name : List ℕ) (line : DeviceLine) → is_third (get_or name 2 0) ≡ false → Names words name
    → IsDeviceLine words line → ⊥
other_command words name line other named is =
    let same : named_for line.task ≡ name = one_command words (named_for line.task) name is.command named in
    let both : true ≡ false = sym (third_of line.task) ∙ ap (λ (n : List ℕ). is_third (get_or n 2 0)) same ∙ other in
    cc

-- the first letter is one of those names'
abbrev pub is_first : ℕ → Bool
is_first letter = eqb letter 114 || (eqb letter 115 || (eqb letter 112 || (eqb letter 101 || (eqb letter 100 || eqb letter 108))))

first_of : (task : Task) → is_first (get_or (named_for task) 0 0) ≡ true
first_of (register server identifier cost) = refl
first_of (sign_in server identifier) = refl
first_of (put title) = refl
first_of (edit uuid) = refl
first_of (delete uuid) = refl
first_of list = refl
first_of (content uuid) = refl
first_of (sync server) = refl
first_of (change_password server cost) = refl

-- and so words whose name begins otherwise
pub other_beginning : (words : List (List ℕ)) (name : List ℕ) (line : DeviceLine) → is_first (get_or name 0 0) ≡ false → Names words name
    → IsDeviceLine words line → ⊥
other_beginning words name line other named is =
    let same : named_for line.task ≡ name = one_command words (named_for line.task) name is.command named in
    let both : true ≡ false = sym (first_of line.task) ∙ ap (λ (n : List ℕ). is_first (get_or n 0 0)) same ∙ other in
    cc
