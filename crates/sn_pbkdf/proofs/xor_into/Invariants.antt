use Rattle.std.proofs.Common.{◌≡◌, ◌++◌, take, drop}
use Rattle.sn_pbkdf.specs.Pbkdf.{xor_bytes}
use Rattle.sn_pbkdf.proofs.xor_into.Given as goal

abbrev pub invariant-bytes : goal.invariant-bytes
invariant-bytes l = l.block ≡ xor_bytes (take l.i l.initial.block) (take l.i l.other) ++ drop l.i l.initial.block
