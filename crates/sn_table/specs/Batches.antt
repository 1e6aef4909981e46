-- Batches of changes, and the files that stand for them.
use Rattle.std.specs.Prelude.{◌≡◌, ◌⊎◌, ℕ, List, [], ◌∷◌, ◌++◌, map, All}
use Rattle.sn_journal.specs.Image.{IsImage}
use Rattle.sn_journal.specs.declared.owner.Owner.{Owner}
use Rattle.sn_journal.specs.declared.owner.Owner.TheVariants.{Server, Device}
use Rattle.sn_rows.specs.Kinds.{key_kind}
use Rattle.sn_rows.specs.Spelling.{spelled, AreInForm}
use Rattle.sn_rows.specs.Table.{key_of}
use Rattle.sn_rows.specs.declared.change.Change.{Change}
use Rattle.sn_rows.specs.declared.kind.RowKind.{RowKind}
use Rattle.sn_rows.specs.declared.kind.RowKind.TheVariants as kind

-- whose rows of this kind are
abbrev pub owner_of_kind : RowKind → Owner
owner_of_kind kind.Store = Server
owner_of_kind kind.Account = Server
owner_of_kind kind.Generation = Server
owner_of_kind kind.Item = Server
owner_of_kind kind.Owner = Device
owner_of_kind kind.Set = Device
owner_of_kind kind.Local = Device

-- the change is of a row of this owner's
abbrev pub IsOf : Owner → Change → Type 0
IsOf owner change = owner_of_kind (key_kind (key_of change)) ≡ owner

-- changes of rows of this owner's, each column in its form
pub record IsBatch (owner : Owner) (changes : List Change) : Type 0 where
  pub owned : All (IsOf owner) changes
  pub in_form : AreInForm changes

-- the file stands for these batches
pub record IsStore (owner : Owner) (file : List ℕ) (batches : List (List Change)) : Type 0 where
  pub image : IsImage owner file (map spelled batches)
  pub each : All (IsBatch owner) batches

-- it has these batches, and the new one whole or not at all
abbrev pub IsAllOrNothing : Owner → List (List Change) → List Change → List ℕ → Type 0
IsAllOrNothing owner batches changes file = IsStore owner file batches ⊎ IsStore owner file (batches ++ changes ∷ [])

-- no batch of this owner's is spelled so
abbrev pub IsNoBatch : Owner → List ℕ → Type 0
IsNoBatch owner payload = (changes : List Change) → IsBatch owner changes → payload ≡ spelled changes → ⊥
