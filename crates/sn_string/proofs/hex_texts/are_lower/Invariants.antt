use Rattle.std.proofs.Common.{◌≡◌, take}
use Rattle.std.specs.List.{list_all}
use Rattle.sn_string.specs.Hex.{is_lower_digit}
use Rattle.sn_string.proofs.hex_texts.are_lower.Given as goal

abbrev pub invariant-bytes : goal.invariant-bytes
invariant-bytes l = l.all ≡ list_all is_lower_digit (take l.byte-index l.bytes)
