use Rattle.std.proofs.Common.{◌≡◌, ◌++◌, string_bytes, drop}
use Rattle.std.specs.List.{flat_map}
use Rattle.sn_cli.specs.Listed.{listed_line}
use Rattle.sn_cli.proofs.listing.list_text.Given as goal

abbrev pub invariant-rows : goal.invariant-rows
invariant-rows l = string_bytes l.text ++ flat_map listed_line (drop l.row-index l.rows) ≡ flat_map listed_line l.rows
