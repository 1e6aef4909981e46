-- Whether there is a row, as the code finds it.
use Rattle.std.specs.Prelude.{◌≡◌, Bool, true, false, None}
use Rattle.sn_rows.specs.Kinds.{key_kind}
use Rattle.sn_rows.specs.Table.{Rows}
use Rattle.sn_rows.specs.declared.key.Key.{Key}
use Rattle.sn_rows.specs.declared.kind.RowKind.{RowKind}
use Rattle.sn_server.specs.Loads.{IsEmpty, HasSome}

abbrev pub IsEmptyIff : Rows → Bool → Type 0
IsEmptyIff rows true = IsEmpty rows
IsEmptyIff rows false = HasSome rows

abbrev pub IsKindEmptyIff : Rows → RowKind → Bool → Type 0
IsKindEmptyIff rows kind true = (at : Key) → key_kind at ≡ kind → rows at ≡ None
IsKindEmptyIff rows kind false = HasSome rows
