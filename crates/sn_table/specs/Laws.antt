-- What holds of every run of commits with crashes.
use Rattle.std.specs.Prelude.{◌≡◌, ◌⊎◌, ℕ, List, [], ◌∷◌, ◌++◌, ⊤}
use Rattle.sn_journal.specs.declared.owner.Owner.{Owner}
use Rattle.sn_rows.specs.declared.change.Change.{Change}
use Rattle.sn_table.specs.Batches.{IsStore, IsAllOrNothing}

abbrev pub HasOneStore : Type 0
HasOneStore = (owner : Owner) (file : List ℕ) (one other : List (List Change)) → IsStore owner file one → IsStore owner file other → one ≡ other

-- what became of a commit of these changes: it answered Done, or a crash came in it and a load after that
pub data Commit : Type 0 where
  done : List Change → Commit
  crashed : List Change → Commit

-- what a commit makes of a file, as the contracts of commit and load say
abbrev pub Leaves : Owner → List ℕ → Commit → List ℕ → Type 0
Leaves owner file (done changes) next = (batches : List (List Change)) → IsStore owner file batches → IsStore owner next (batches ++ changes ∷ [])
Leaves owner file (crashed changes) next = (batches : List (List Change)) → IsStore owner file batches → IsAllOrNothing owner batches changes next

-- each of the files was left by a commit at the one before it
abbrev pub AreLeft : Owner → List ℕ → List (Commit × List ℕ) → Type 0
AreLeft owner file [] = ⊤
AreLeft owner file (step ∷ later) = Leaves owner file step.0 step.1 × AreLeft owner step.1 later

abbrev pub last_file : List ℕ → List (Commit × List ℕ) → List ℕ
last_file file [] = file
last_file file (step ∷ later) = last_file step.1 later

-- the batches, and behind them those of the commits in order: each that is done, and of a crashed one the whole or nothing
abbrev pub AreAdded : List (Commit × List ℕ) → List (List Change) → List (List Change) → Type 0
AreAdded [] batches new = new ≡ batches
AreAdded ((done changes, file) ∷ later) batches new = AreAdded later (batches ++ changes ∷ []) new
AreAdded ((crashed changes, file) ∷ later) batches new = AreAdded later batches new ⊎ AreAdded later (batches ++ changes ∷ []) new

abbrev pub EachIsWholeOrNothing : Type 0
EachIsWholeOrNothing = (owner : Owner) (file : List ℕ) (batches : List (List Change)) (steps : List (Commit × List ℕ)) →
    IsStore owner file batches → AreLeft owner file steps →
    (new : List (List Change)) × IsStore owner (last_file file steps) new × AreAdded steps batches new
