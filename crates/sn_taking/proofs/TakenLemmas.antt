-- What an answer has made so far, after one change more.
use Rattle.std.proofs.Common.{◌≡◌, ◌∙◌, ◌+◌, ℕ, List, [], ◌∷◌, ◌++◌, ap}
use Rattle.rand_chacha.specs.ChaCha.{ChaCha}
use Rattle.sn_rows.specs.Table.{Rows, rows_after}
use Rattle.sn_rows.specs.declared.change.Change.{Change}
use Rattle.sn_taking.specs.Taken.{so_far}
use Rattle.sn_device.specs.Taking.{Progress}
use Rattle.sn_taking.specs.declared.taken.Taken.{Taken}
use Rattle.sn_local.proofs.Facts.{rows_after-more}

abbrev progress : Rows → List Change → ℕ → ChaCha → Progress
progress rows changes next words = record { rows = rows; changes = changes; next = next; words = words }

-- what is so far after one change more, and with this next local number
pub so_far-more : (rows : Rows) (old new : Taken) (change : Change) (next : ℕ) (words : ChaCha) → new.changes ≡ old.changes ++ change ∷ [] → new.next ≡ next
    → so_far rows new words ≡ progress (rows_after (rows_after rows old.changes) (change ∷ [])) (old.changes ++ change ∷ []) next words
so_far-more rows old new change next words more is =
    ap (λ (cs : List Change). progress (rows_after rows cs) cs new.next words) more
    ∙ ap (λ (n : ℕ). progress (rows_after rows (old.changes ++ change ∷ [])) (old.changes ++ change ∷ []) n words) is
    ∙ ap (λ (r : Rows). progress r (old.changes ++ change ∷ []) next words) (rows_after-more rows old.changes change)
