-- The list of a device's items: a line each, of the uuid, how the item stands, its content's length in bytes, and its
-- type as a JSON string.
use Rattle.std.specs.Prelude.{ℕ, List, ◌++◌, codes}
use Rattle.std.specs.Fmt.{decimal}
use Rattle.std.specs.List.{flat_map}
use Rattle.sn_cli.specs.Shown.{json_text}
use Rattle.sn_device.specs.declared.listed.Listed.{Listed}
use Rattle.sn_device.specs.declared.listed.Mark.{Mark}
use Rattle.sn_device.specs.declared.listed.Mark.TheVariants.{Deleted, Draft, Closed, Clean}
use Rattle.sn_string.specs.Uuids.{uuid_text}

abbrev pub mark_text : Mark → List ℕ
mark_text Deleted = codes "deleted"
mark_text Draft = codes "draft"
mark_text Closed = codes "closed"
mark_text Clean = codes "clean"

abbrev pub listed_line : Listed → List ℕ
listed_line row = uuid_text row.uuid ++ (codes " " ++ (mark_text row.mark ++ (codes " " ++ (decimal row.length ++ (codes " "
    ++ (json_text row.kind ++ codes "\n"))))))

abbrev pub list_text : List Listed → List ℕ
list_text rows = flat_map listed_line rows
