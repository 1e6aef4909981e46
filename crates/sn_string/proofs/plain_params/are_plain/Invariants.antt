use Rattle.std.proofs.Common.{◌≡◌, take}
use Rattle.std.specs.List.{list_all}
use Rattle.sn_string.specs.Parameters.{is_plain}
use Rattle.sn_string.proofs.plain_params.are_plain.Given as goal

abbrev pub invariant-bytes : goal.invariant-bytes
invariant-bytes l = l.all ≡ list_all is_plain (take l.byte-index l.bytes)
