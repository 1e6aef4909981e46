use Rattle.std.proofs.Common.{◌≡◌, map, string_bytes}
use Rattle.std.specs.Map.Iter.{deref}
use Rattle.sn_disk.proofs.mem_shelf.MemShelf.names.Given as goal

abbrev pub invariant-names : goal.invariant-names
invariant-names l = map string_bytes l.names.items ≡ map string_bytes (map deref l.yielded)
