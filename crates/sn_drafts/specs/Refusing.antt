-- How a call is refused before its first act, and how it comes to its last commit.
use Rattle.std.specs.Prelude.{◌⊎◌, List, []}
use Rattle.rand_chacha.specs.ChaCha.{ChaCha}
use Rattle.sn_rows.specs.declared.change.Change.{Change}
use Rattle.sn_device.specs.Runs.{Act, EndsCommit, Given, Halt, Wants, refused}
use Rattle.sn_device.specs.Steps.{What}
use Rattle.sn_device.specs.declared.error.ClientError.{ClientError}

-- the call does nothing, and is refused for want of memory or as this says
abbrev pub MayRefuse : (List Act → Halt → Type 0) → ClientError → Type 0
MayRefuse P why = Wants [] (refused why) ⊎ P [] (refused why)

-- nothing more of the call is said
abbrev pub none_more : List Act → Halt → Type 0
none_more acts halt = ⊥

-- as this says, the call ends by a last commit of these changes
abbrev pub Prepares : (List Act → Halt → Type 0) → What → List Change → Given → ChaCha → Type 0
Prepares P what changes given left = (acts : List Act) (halt : Halt) → EndsCommit what changes given left acts halt → P acts halt
