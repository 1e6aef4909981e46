use Rattle.std.specs.Prelude.{IsSome}
use Rattle.sn_rekey.proofs.rewrapping.row_strings.Goals as goal

pub unreachable-requires : goal.unreachable-requires
unreachable-requires c =
    let some : IsSome c.new.result = c.new.ensures.within.1 (c.requires.content, c.requires.enc) in
    let none = rw c.in-None.is at some in
    cc
