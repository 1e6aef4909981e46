-- What `clap` reads in the words.
use Rattle.std.specs.Prelude.{◌≡◌, ◌≢◌, ℕ, List, [], ◌∷◌, Some, None, ⊤}
use Rattle.clap.specs.Faults.{fault_of}
use Rattle.clap.specs.Simple.{subcommand_of}
use Rattle.clap.specs.Matches.{found_of}
use Rattle.clap.specs.Walk.{rows_of}
use Rattle.clap.specs.declared.error.kind.ErrorKind.{ErrorKind}
use Rattle.clap.specs.declared.error.kind.ErrorKind.TheVariants.{DisplayHelp, DisplayVersion, OutOfMemory}
use Rattle.sn_command.specs.Syntax.{sn_app, Takes, AsksForHelp, AsksForVersion}
use Rattle.sn_command.specs.declared.given.Given.{Given}
use Rattle.sn_command.specs.declared.given.NotTaken.{NotTaken}
use Rattle.sn_command.specs.declared.given.NotTaken.TheVariants.{Help, Version, Fault, Memory}

-- the words give this command and these options
pub record IsGivenBy (words : List (List ℕ)) (given : Given) : Type 0 where
  pub takes : Takes words
  pub subcommand : subcommand_of sn_app words ≡ Some (given.command.now, rows_of (found_of given.options))

-- the words are no command line: `clap` takes them not, or finds no command, and they ask for nothing
pub record IsFault (words : List (List ℕ)) : Type 0 where
  pub not_taken : (Takes words → subcommand_of sn_app words ≡ None)
  pub no_help : fault_of sn_app words ≢ DisplayHelp ∷ []
  pub no_version : fault_of sn_app words ≢ DisplayVersion ∷ []

-- what an error of this kind means
abbrev pub IsOfKind : ErrorKind → NotTaken → Type 0
IsOfKind kind (Help error) = kind ≡ DisplayHelp
IsOfKind kind (Version error) = kind ≡ DisplayVersion
IsOfKind kind Fault = (kind ≢ DisplayHelp) × (kind ≢ DisplayVersion) × (kind ≢ OutOfMemory)
IsOfKind kind Memory = kind ≡ OutOfMemory

abbrev pub IsNotTaken : List (List ℕ) → NotTaken → Type 0
IsNotTaken words (Help error) = AsksForHelp words
IsNotTaken words (Version error) = AsksForVersion words
IsNotTaken words Fault = IsFault words
IsNotTaken words Memory = ⊤
