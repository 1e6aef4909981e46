-- What words give a task of a name.
use Rattle.std.proofs.Common.{◌≡◌, ℕ, List, codes, get_or, ap, arith}
use Rattle.sn_command.specs.DeviceLines.{GivesChange, GivesRegister, GivesServer, GivesSignIn, GivesTask, Task, change_password, content, delete, edit, list, named_for, put, register, sign_in, sync}

-- a name's letter
abbrev letter : ℕ → List ℕ → ℕ
letter i name = get_or name i 0

-- a registration gives its parts
pub register_given : (words : List (List ℕ)) (task : Task) → named_for task ≡ codes "register" → GivesTask words task
    → (server : List ℕ) × (identifier : List ℕ) × (cost : ℕ) × GivesRegister words server identifier cost
register_given words (register server identifier cost) is gives = (server, identifier, cost, gives)
register_given words (sign_in server identifier) is gives = absurd (let e : 115 ≡ 114 = ap (letter 0) is in omega (arith, e))
register_given words (put title) is gives = absurd (let e : 112 ≡ 114 = ap (letter 0) is in omega (arith, e))
register_given words (edit uuid) is gives = absurd (let e : 101 ≡ 114 = ap (letter 0) is in omega (arith, e))
register_given words (delete uuid) is gives = absurd (let e : 100 ≡ 114 = ap (letter 0) is in omega (arith, e))
register_given words list is gives = absurd (let e : 108 ≡ 114 = ap (letter 0) is in omega (arith, e))
register_given words (content uuid) is gives = absurd (let e : 108 ≡ 114 = ap (letter 0) is in omega (arith, e))
register_given words (sync server) is gives = absurd (let e : 115 ≡ 114 = ap (letter 0) is in omega (arith, e))
register_given words (change_password server cost) is gives = absurd (let e : 112 ≡ 114 = ap (letter 0) is in omega (arith, e))

-- a sign-in its own
pub sign_in_given : (words : List (List ℕ)) (task : Task) → named_for task ≡ codes "signin" → GivesTask words task
    → (server : List ℕ) × (identifier : List ℕ) × GivesSignIn words server identifier
sign_in_given words (register server identifier cost) is gives = absurd (let e : 114 ≡ 115 = ap (letter 0) is in omega (arith, e))
sign_in_given words (sign_in server identifier) is gives = (server, identifier, gives)
sign_in_given words (put title) is gives = absurd (let e : 112 ≡ 115 = ap (letter 0) is in omega (arith, e))
sign_in_given words (edit uuid) is gives = absurd (let e : 101 ≡ 115 = ap (letter 0) is in omega (arith, e))
sign_in_given words (delete uuid) is gives = absurd (let e : 100 ≡ 115 = ap (letter 0) is in omega (arith, e))
sign_in_given words list is gives = absurd (let e : 108 ≡ 115 = ap (letter 0) is in omega (arith, e))
sign_in_given words (content uuid) is gives = absurd (let e : 108 ≡ 115 = ap (letter 0) is in omega (arith, e))
sign_in_given words (sync server) is gives = absurd (let e : 121 ≡ 105 = ap (letter 1) is in omega (arith, e))
sign_in_given words (change_password server cost) is gives = absurd (let e : 112 ≡ 115 = ap (letter 0) is in omega (arith, e))

-- and a sync its server
pub sync_given : (words : List (List ℕ)) (task : Task) → named_for task ≡ codes "sync" → GivesTask words task
    → (server : List ℕ) × GivesServer words server
sync_given words (register server identifier cost) is gives = absurd (let e : 114 ≡ 115 = ap (letter 0) is in omega (arith, e))
sync_given words (sign_in server identifier) is gives = absurd (let e : 105 ≡ 121 = ap (letter 1) is in omega (arith, e))
sync_given words (put title) is gives = absurd (let e : 112 ≡ 115 = ap (letter 0) is in omega (arith, e))
sync_given words (edit uuid) is gives = absurd (let e : 101 ≡ 115 = ap (letter 0) is in omega (arith, e))
sync_given words (delete uuid) is gives = absurd (let e : 100 ≡ 115 = ap (letter 0) is in omega (arith, e))
sync_given words list is gives = absurd (let e : 108 ≡ 115 = ap (letter 0) is in omega (arith, e))
sync_given words (content uuid) is gives = absurd (let e : 108 ≡ 115 = ap (letter 0) is in omega (arith, e))
sync_given words (sync server) is gives = (server, gives)
sync_given words (change_password server cost) is gives = absurd (let e : 112 ≡ 115 = ap (letter 0) is in omega (arith, e))

-- and a change of password its server and its cost
pub change_password_given : (words : List (List ℕ)) (task : Task) → named_for task ≡ codes "passwd" → GivesTask words task
    → (server : List ℕ) × (cost : ℕ) × GivesChange words server cost
change_password_given words (register server identifier cost) is gives = absurd (let e : 114 ≡ 112 = ap (letter 0) is in omega (arith, e))
change_password_given words (sign_in server identifier) is gives = absurd (let e : 115 ≡ 112 = ap (letter 0) is in omega (arith, e))
change_password_given words (put title) is gives = absurd (let e : 117 ≡ 97 = ap (letter 1) is in omega (arith, e))
change_password_given words (edit uuid) is gives = absurd (let e : 101 ≡ 112 = ap (letter 0) is in omega (arith, e))
change_password_given words (delete uuid) is gives = absurd (let e : 100 ≡ 112 = ap (letter 0) is in omega (arith, e))
change_password_given words list is gives = absurd (let e : 108 ≡ 112 = ap (letter 0) is in omega (arith, e))
change_password_given words (content uuid) is gives = absurd (let e : 108 ≡ 112 = ap (letter 0) is in omega (arith, e))
change_password_given words (sync server) is gives = absurd (let e : 115 ≡ 112 = ap (letter 0) is in omega (arith, e))
change_password_given words (change_password server cost) is gives = (server, cost, gives)
