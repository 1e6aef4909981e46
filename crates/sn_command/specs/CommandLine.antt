-- The command lines: what each says, by the values that its words give the options.
use Rattle.std.specs.Prelude.{◌≡◌, ◌≢◌, ◌⊎◌, ℕ, ◌<◌, ◌≤◌, ◌^◌, List, [], ◌∷◌, codes, Some}
use Rattle.std.specs.Fmt.{decimal}
use Rattle.clap.specs.Faults.{fault_of}
use Rattle.clap.specs.declared.error.kind.ErrorKind.TheVariants.{DisplayHelp, DisplayVersion}
use Rattle.hex.specs.Hex.{encode_lower}
use Rattle.sn_command.specs.DeviceLines.{DeviceLine, IsDeviceLine, TakesInput}
use Rattle.sn_command.specs.Named.{GivesCost, Names}
use Rattle.sn_command.specs.Syntax.{AsksForHelp, AsksForVersion, sn_app, value_of}
use Rattle.sn_string.specs.Bounds.{IsIdentifier, IsCost, IsNonce}
use Rattle.sn_string.specs.Hex.{IsLowerHex}
use Rattle.sn_string.specs.Uuids.{IsUuidText, uuid_text}

-- what a line of `seal` says: an item's uuid, its key of 64 bytes, and auth parameters
pub record SealLine : Type 0 where
  pub uuid : List ℕ
  pub key : List ℕ
  pub identifier : List ℕ
  pub cost : ℕ
  pub nonce : List ℕ

-- what a line of `open` says
pub record OpenLine : Type 0 where
  pub uuid : List ℕ
  pub key : List ℕ

-- what a line of `serve` says: a store's name, the number of a port, at 0 one that the system chooses, and how many
-- requests are to be served
pub record ServeLine : Type 0 where
  pub store : List ℕ
  pub port : ℕ
  pub requests : ℕ

-- what a line of `gen` says: the number that a script is made from, and how many events are to be made
pub record GenLine : Type 0 where
  pub number : ℕ
  pub count : ℕ

-- the words give an item's uuid and key, each in its form
pub record GivesItem (words : List (List ℕ)) (uuid key : List ℕ) : Type 0 where
  pub uuid_form : IsUuidText (uuid_text uuid) uuid
  pub uuid_given : value_of words (codes "uuid") ≡ Some (uuid_text uuid)
  pub key_form : IsLowerHex 64 (encode_lower key) key
  pub key_given : value_of words (codes "key") ≡ Some (encode_lower key)

-- the words give auth parameters, each within its bounds
pub record GivesParams (words : List (List ℕ)) (identifier : List ℕ) (cost : ℕ) (nonce : List ℕ) : Type 0 where
  pub identifier_fits : IsIdentifier identifier
  pub identifier_given : value_of words (codes "identifier") ≡ Some identifier
  pub cost_fits : IsCost cost
  pub cost_given : GivesCost words cost
  pub nonce_fits : IsNonce nonce
  pub nonce_given : value_of words (codes "nonce") ≡ Some nonce

-- the words are a line of `seal` that says this
pub record IsSealLine (words : List (List ℕ)) (line : SealLine) : Type 0 where
  pub command : Names words (codes "seal")
  pub item : GivesItem words line.uuid line.key
  pub params : GivesParams words line.identifier line.cost line.nonce

-- the words are a line of `open` that says this
pub record IsOpenLine (words : List (List ℕ)) (line : OpenLine) : Type 0 where
  pub command : Names words (codes "open")
  pub item : GivesItem words line.uuid line.key

-- the words are a line of `show`
abbrev pub IsShowLine : List (List ℕ) → Type 0
IsShowLine words = Names words (codes "show")

-- the words are a line of `replay`
abbrev pub IsReplayLine : List (List ℕ) → Type 0
IsReplayLine words = Names words (codes "replay")

-- the words are a line of `gen` that says this
pub record IsGenLine (words : List (List ℕ)) (line : GenLine) : Type 0 where
  pub command : Names words (codes "gen")
  pub most_number : line.number ≤ 65536
  pub number_given : value_of words (codes "number") ≡ Some (decimal line.number)
  pub some_events : 1 ≤ line.count
  pub most_events : line.count ≤ 100000
  pub count_given : value_of words (codes "count") ≡ Some (decimal line.count)

-- the words are a line of `gen`
abbrev pub IsGenerating : List (List ℕ) → Type 0
IsGenerating words = (line : GenLine) × IsGenLine words line

-- the words are a line of `serve` that says this
pub record IsServeLine (words : List (List ℕ)) (line : ServeLine) : Type 0 where
  pub command : Names words (codes "serve")
  pub store_given : value_of words (codes "store") ≡ Some line.store
  pub port_fits : line.port < 2 ^ 16
  pub port_given : value_of words (codes "port") ≡ Some (decimal line.port)
  pub some_requests : 1 ≤ line.requests
  pub most_requests : line.requests ≤ 1000000
  pub requests_given : value_of words (codes "requests") ≡ Some (decimal line.requests)

-- the words are a line of `serve`
abbrev pub IsServing : List (List ℕ) → Type 0
IsServing words = (line : ServeLine) × IsServeLine words line

-- the words are a line of a device's command that reads its input
abbrev pub IsTaking : List (List ℕ) → Type 0
IsTaking words = (line : DeviceLine) × IsDeviceLine words line × TakesInput line.task

-- the words are a line of a command that reads its input
abbrev pub IsReading : List (List ℕ) → Type 0
IsReading words =
    ((line : SealLine) × IsSealLine words line)
    ⊎ ((line : OpenLine) × IsOpenLine words line)
    ⊎ IsShowLine words
    ⊎ IsReplayLine words
    ⊎ IsTaking words

-- the words ask for help or for the version
abbrev pub Asks : List (List ℕ) → Type 0
Asks words = AsksForHelp words ⊎ AsksForVersion words

-- the words are no command line, and ask neither for help nor for the version
pub record IsUsage (words : List (List ℕ)) : Type 0 where
  pub no_seal : (line : SealLine) → ¬ (IsSealLine words line)
  pub no_open : (line : OpenLine) → ¬ (IsOpenLine words line)
  pub no_show : ¬ (IsShowLine words)
  pub no_replay : ¬ (IsReplayLine words)
  pub no_gen : (line : GenLine) → ¬ (IsGenLine words line)
  pub no_serve : (line : ServeLine) → ¬ (IsServeLine words line)
  pub no_device : (line : DeviceLine) → ¬ (IsDeviceLine words line)
  pub no_help : fault_of sn_app words ≢ DisplayHelp ∷ []
  pub no_version : fault_of sn_app words ≢ DisplayVersion ∷ []
