use Rattle.std.proofs.Common.{◌≡◌, ◌++◌, length, take, drop}
use Rattle.sn_hmac.specs.Hmac.{masked}
use Rattle.sn_hmac.proofs.blocks.masked.Given as goal

abbrev pub invariant-bytes : goal.invariant-bytes
invariant-bytes g l = (length l.masked ≡ length l.block) × (l.masked ≡ masked l.byte (take l.i l.block) ++ drop l.i l.block)
