-- The program's command line as `clap` takes it: a command, then its options in any order, each with one value.
use Rattle.std.specs.Prelude.{◌≡◌, ℕ, List, [], ◌∷◌, codes, Bool, true, false, Option, Some, option_map, option_and_then}
use Rattle.clap.specs.Faults.{fault_of}
use Rattle.clap.specs.Kinds.{IsAmong}
use Rattle.clap.specs.Simple.{App, Shape, new_app, new_shape, new_rule, with_subcommand, on_top, subcommand_of}
use Rattle.clap.specs.Walk.{Rule, first_of}
use Rattle.clap.specs.declared.error.kind.ErrorKind.TheVariants.{DisplayHelp, DisplayVersion}

-- an option `--name VALUE` or `--name=VALUE`, which may stand once
abbrev pub option_rule : List ℕ → Bool → Rule
option_rule name required = record (new_rule name) { long = Some name; required = required; value_names = 1 }

-- a command with these options
abbrev pub command_shape : List ℕ → List Rule → Shape
command_shape name rules = record (new_shape name) { rules = rules }

unfoldable pub seal_shape : Shape
seal_shape = command_shape (codes "seal") (option_rule (codes "uuid") true ∷ option_rule (codes "key") true
    ∷ option_rule (codes "identifier") true ∷ option_rule (codes "cost") false ∷ option_rule (codes "nonce") true ∷ [])

unfoldable pub open_shape : Shape
open_shape = command_shape (codes "open") (option_rule (codes "uuid") true ∷ option_rule (codes "key") true ∷ [])

unfoldable pub show_shape : Shape
show_shape = command_shape (codes "show") []

unfoldable pub replay_shape : Shape
replay_shape = command_shape (codes "replay") []

unfoldable pub gen_shape : Shape
gen_shape = command_shape (codes "gen") (option_rule (codes "number") true ∷ option_rule (codes "count") true ∷ [])

unfoldable pub serve_shape : Shape
serve_shape = command_shape (codes "serve") (option_rule (codes "store") true ∷ option_rule (codes "port") true
    ∷ option_rule (codes "requests") true ∷ [])

unfoldable pub register_shape : Shape
register_shape = command_shape (codes "register") (option_rule (codes "store") true ∷ option_rule (codes "server") true
    ∷ option_rule (codes "identifier") true ∷ option_rule (codes "cost") false ∷ [])

unfoldable pub sign_in_shape : Shape
sign_in_shape = command_shape (codes "signin") (option_rule (codes "store") true ∷ option_rule (codes "server") true
    ∷ option_rule (codes "identifier") true ∷ [])

unfoldable pub sync_shape : Shape
sync_shape = command_shape (codes "sync") (option_rule (codes "store") true ∷ option_rule (codes "server") true ∷ [])

unfoldable pub change_password_shape : Shape
change_password_shape = command_shape (codes "passwd") (option_rule (codes "store") true ∷ option_rule (codes "server") true
    ∷ option_rule (codes "cost") false ∷ [])

unfoldable pub put_shape : Shape
put_shape = command_shape (codes "put") (option_rule (codes "store") true ∷ option_rule (codes "title") false ∷ [])

unfoldable pub edit_shape : Shape
edit_shape = command_shape (codes "edit") (option_rule (codes "store") true ∷ option_rule (codes "uuid") true ∷ [])

unfoldable pub delete_shape : Shape
delete_shape = command_shape (codes "del") (option_rule (codes "store") true ∷ option_rule (codes "uuid") true ∷ [])

unfoldable pub list_shape : Shape
list_shape = command_shape (codes "list") (option_rule (codes "store") true ∷ option_rule (codes "uuid") false ∷ [])

-- `sn` without its commands: one of them must be named; it answers `--help` and `--version`
unfoldable pub sn_top : App
sn_top = on_top
    (λ s. record s { no_binary_name = true; subcommand_required = true; disable_help_subcommand = true; has_version = true })
    (new_app (codes "sn"))

-- with the commands that ask a server
unfoldable pub with_accounts : App → App
with_accounts app = with_subcommand
    (with_subcommand (with_subcommand (with_subcommand app register_shape) sign_in_shape) sync_shape) change_password_shape

-- with all commands of a device
unfoldable pub with_devices : App → App
with_devices app =
    with_subcommand (with_subcommand (with_subcommand (with_subcommand (with_accounts app) put_shape) edit_shape) delete_shape) list_shape

-- with the commands on single strings and on scripts, and with that of a server
unfoldable pub with_others : App → App
with_others app = with_subcommand
    (with_subcommand (with_subcommand (with_subcommand (with_subcommand (with_subcommand app seal_shape) open_shape) show_shape) replay_shape)
    gen_shape) serve_shape

unfoldable pub sn_app : App
sn_app = with_devices (with_others sn_top)

-- `clap` takes the words
abbrev pub Takes : List (List ℕ) → Type 0
Takes words = fault_of sn_app words ≡ []

-- the command that the words name
abbrev pub command_named : List (List ℕ) → Option (List ℕ)
command_named words = option_map (λ named. named.0) (subcommand_of sn_app words)

-- the value that the words give an option of the command
abbrev pub value_of : List (List ℕ) → List ℕ → Option (List ℕ)
value_of words name = option_and_then (λ named. first_of name named.1) (subcommand_of sn_app words)

-- the words ask for help or for the version, before `clap` finds a fault in them
unfoldable pub AsksForHelp : List (List ℕ) → Type 0
AsksForHelp words = IsAmong DisplayHelp (fault_of sn_app words)

unfoldable pub AsksForVersion : List (List ℕ) → Type 0
AsksForVersion words = IsAmong DisplayVersion (fault_of sn_app words)
