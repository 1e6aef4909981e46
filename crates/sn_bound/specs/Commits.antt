-- How many commits a change of password makes that is answered, on a device without drafts.
use Rattle.std.specs.Prelude.{◌≡◌, ◌+◌, ℕ, List, [], ◌∷◌, None}
use Rattle.rand_chacha.specs.ChaCha.{ChaCha}
use Rattle.sn_device.specs.Runs.{Act, Halt, asked, commits as committed}
use Rattle.sn_device.specs.States.{Bytes, HasLocal}
use Rattle.sn_ready.specs.Passwds.{BehindFirst, IsChanged}
use Rattle.sn_rows.specs.Table.{Rows}
use Rattle.sn_rows.specs.declared.device_rows.LocalItem.{LocalItem}
use Rattle.sn_world.specs.Answering.{requests_in}
use Rattle.sn_world.specs.Calls.{Fate}

-- how many commits there are among acts
abbrev pub commits_in : List Act → ℕ
commits_in [] = 0
commits_in (committed what changes ∷ acts) = 1 + commits_in acts
commits_in (asked r reply ∷ acts) = commits_in acts

-- no item has a draft
abbrev pub HasNoDraft : Rows → Type 0
HasNoDraft rows = (number : ℕ) (local : LocalItem) → HasLocal rows number local → local.latest ≡ None

-- then nothing is posted, and there is one commit for each exchange of both rows, one for asking for the set, and one for its adoption: one more than there
-- are requests
abbrev pub ChangesCommit : Type 0
ChangesCommit = (password : Bytes) (cost : ℕ) (server rows : Rows) (words : ChaCha) (acts : List Act) (fates : List Fate) (halt : Halt) → HasNoDraft rows
    → (x : BehindFirst server rows words acts fates) → (c : IsChanged password cost x.first.behind.at x.first.behind.later halt)
    → commits_in acts ≡ requests_in acts + 1
