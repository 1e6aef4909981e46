-- The rows of devices once more.
use Rattle.std.specs.Prelude.{ℕ, List}
use Rattle.std.specs.BTreeMap.{get_by_text}
use Rattle.sn_rows.specs.Table.{Rows}
use Rattle.sn_shown.specs.Rows.{rows_in}
use Rattle.sn_replay.specs.declared.mirrors.Mirrors.{Mirrors}

-- those of the device of a name; one that has begun nothing has none
abbrev pub mirrored : Mirrors → List ℕ → Rows
mirrored mirrors name = rows_in (get_by_text mirrors.rows name)
