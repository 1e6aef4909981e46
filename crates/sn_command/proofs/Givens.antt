-- What `clap`'s contract says of the program's command.
use Rattle.std.proofs.Common.{◌≡◌, ℕ, List, [], ◌∷◌, true, Some, None, Result, Ok, Err, IfOk, IfErr, inl, inr, sym, ap, subst, ◌∙◌}
use Rattle.clap.specs.Faults.{fault_of, is_simple_and_free}
use Rattle.clap.specs.Kinds.{HasKind, IsAmong}
use Rattle.clap.specs.Matches.{found_of}
use Rattle.clap.specs.Simple.{App, HasMatchesOf, is_simple, subcommand_of, subcommand_rows_of}
use Rattle.clap.specs.Values.{kind_of}
use Rattle.clap.specs.Walk.{rows_of}
use Rattle.clap.specs.declared.error.Error.{Error}
use Rattle.clap.specs.declared.error.kind.ErrorKind.{ErrorKind}
use Rattle.clap.specs.declared.error.kind.ErrorKind.TheVariants.{DisplayHelp, DisplayVersion, OutOfMemory}
use Rattle.clap.specs.declared.parser.matches.ArgMatches.{ArgMatches}
use Rattle.sn_command.specs.Given.{IsGivenBy, IsFault, IsNotTaken, IsOfKind}
use Rattle.sn_command.specs.Syntax.{AsksForHelp, AsksForVersion, sn_app}
use Rattle.sn_command.specs.declared.given.Given.{Given}
use Rattle.sn_command.specs.declared.given.NotTaken.{NotTaken}
use Rattle.sn_command.specs.declared.given.NotTaken.TheVariants.{Help, Version, Fault, Memory}
use Rattle.sn_command.proofs.Free.{free, simple}

-- the subcommand that was read is that of the words
same_rows : (a : App) (words : List (List ℕ)) (m : ArgMatches) → a ≡ sn_app → HasMatchesOf a words m
    → subcommand_of sn_app words ≡ subcommand_rows_of m
same_rows a words m is has =
    ap (λ (x : App). subcommand_of x words) (sym is) ∙ sym ((has (ap is_simple is ∙ simple)).1)

taken : (a : App) (words : List (List ℕ)) → a ≡ sn_app → (is_simple_and_free a ≡ true → fault_of a words ≡ [])
    → fault_of sn_app words ≡ []
taken a words is kinds =
    ap (λ (x : App). fault_of x words) (sym is) ∙ kinds (ap is_simple_and_free is ∙ free)

-- what is read is what the words give
pub given_of : (a : App) (words : List (List ℕ)) (m : ArgMatches) (read : Result Given NotTaken) → a ≡ sn_app
    → (is_simple_and_free a ≡ true → fault_of a words ≡ []) → HasMatchesOf a words m
    → IfOk read (λ given. subcommand_rows_of m ≡ Some (given.command.now, rows_of (found_of given.options)))
    → IfOk read (IsGivenBy words)
given_of a words m (Ok given) is kinds has found =
    record { takes = taken a words is kinds; subcommand = same_rows a words m is has ∙ found }
given_of a words m (Err error) is kinds has found = tt

-- words without a command are no command line
pub none_given : (a : App) (words : List (List ℕ)) (m : ArgMatches) (read : Result Given NotTaken) → a ≡ sn_app
    → (is_simple_and_free a ≡ true → fault_of a words ≡ []) → HasMatchesOf a words m
    → IfErr read (λ error. (error ≡ Fault) × (subcommand_rows_of m ≡ None))
    → IfErr read (IsNotTaken words)
none_given a words m (Ok given) is kinds has found = tt
none_given a words m (Err error) is kinds has found =
    let none : fault_of sn_app words ≡ [] = taken a words is kinds in
    let fault : IsFault words = record {
      not_taken = λ _. same_rows a words m is has ∙ found.1;
      no_help = λ e. cc;
      no_version = λ e. cc;
    } in
    subst (IsNotTaken words) (sym found.0) fault

-- one of two kinds that the error isn't is not its only one
other_kind : (kind asked : ErrorKind) (kinds : List ErrorKind) → IsAmong kind kinds → (kind ≡ asked → ⊥) → kinds ≡ asked ∷ [] → ⊥
other_kind kind asked kinds among differs is =
    elim (subst (IsAmong kind) is among) [ inl e ↦ differs e | inr none ↦ none ]

among_of : (kinds : List ErrorKind) (error : Error) → HasKind kinds error → (kind_of error ≡ OutOfMemory → ⊥) → IsAmong (kind_of error) kinds
among_of kinds error has differs = elim has [ inl e ↦ absurd (differs e) | inr among ↦ among ]

help_is_no_memory : (kind : ErrorKind) → kind ≡ DisplayHelp → kind ≡ OutOfMemory → ⊥
help_is_no_memory kind a b = cc

version_is_no_memory : (kind : ErrorKind) → kind ≡ DisplayVersion → kind ≡ OutOfMemory → ⊥
version_is_no_memory kind a b = cc

by_kind : (words : List (List ℕ)) (error : Error) (answer : NotTaken) → HasKind (fault_of sn_app words) error
    → IsOfKind (kind_of error) answer → IsNotTaken words answer
unfolding AsksForHelp AsksForVersion
by_kind words error (Help text) has kind =
    subst (λ (k : ErrorKind). IsAmong k (fault_of sn_app words)) kind
    (among_of (fault_of sn_app words) error has (help_is_no_memory (kind_of error) kind))
by_kind words error (Version text) has kind =
    subst (λ (k : ErrorKind). IsAmong k (fault_of sn_app words)) kind
    (among_of (fault_of sn_app words) error has (version_is_no_memory (kind_of error) kind))
by_kind words error Fault has kind =
    let among : IsAmong (kind_of error) (fault_of sn_app words) = among_of (fault_of sn_app words) error has kind.2 in
    record {
      not_taken = λ takes. absurd (subst (IsAmong (kind_of error)) takes among);
      no_help = other_kind (kind_of error) DisplayHelp (fault_of sn_app words) among kind.0;
      no_version = other_kind (kind_of error) DisplayVersion (fault_of sn_app words) among kind.1;
    }
by_kind words error Memory has kind = tt

-- what an error means
pub not_taken_by : (a : App) (words : List (List ℕ)) (error : Error) (answer : NotTaken) → a ≡ sn_app
    → (is_simple_and_free a ≡ true → HasKind (fault_of a words) error) → IsOfKind (kind_of error) answer
    → IsNotTaken words answer
not_taken_by a words error answer is kinds kind =
    by_kind words error answer (subst (λ (x : App). HasKind (fault_of x words) error) is (kinds (ap is_simple_and_free is ∙ free))) kind
