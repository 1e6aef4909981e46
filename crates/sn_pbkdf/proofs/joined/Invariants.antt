use Rattle.std.proofs.Common.{◌≡◌, ◌++◌, take, length}
use Rattle.sn_pbkdf.proofs.joined.Given as goal

abbrev pub invariant-bytes : goal.invariant-bytes
invariant-bytes l = (length l.key ≡ 96) × (take l.i l.key ≡ take l.i (l.first ++ l.second))
