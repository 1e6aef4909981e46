-- What holds of each commit and of each call of a device.
use Rattle.std.specs.Prelude.{◌≡◌, ℕ, false, List}
use Rattle.rand_chacha.specs.ChaCha.{ChaCha}
use Rattle.sn_device.specs.Runs.{Act, Call, Halt, Run}
use Rattle.sn_device.specs.Steps.{Step, What}
use Rattle.sn_rows.specs.Table.{Rows}
use Rattle.sn_rows.specs.declared.change.Change.{Change}
use Rattle.sn_order.specs.Kinds.{kind_by, kind_of}
use Rattle.sn_order.specs.Order.{AreInOrder}

-- a commit's changes are of the kind of what is done
abbrev pub KindsTell : Type 0
KindsTell = (rows : Rows) (words left : ChaCha) (what : What) (changes : List Change) → Step rows words what changes left → kind_of changes ≡ kind_by what

-- whatever a device calls, its commits and its requests come in this order
abbrev pub RunsInOrder : Type 0
RunsInOrder = (least : ℕ) (call : Call) (rows : Rows) (words : ChaCha) (acts : List Act) (halt : Halt) → Run least call rows words acts halt → AreInOrder false acts
