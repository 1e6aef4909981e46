use Rattle.std.proofs.Common.{ℕ, ◌++◌, take, arith, length-append, length-take}
use Rattle.std.proofs.KnownBytes.{Consumes-trans}
use Rattle.sn_io.proofs.whole.read_all.Goals as goal

pub returns-in_err-extend_from_slice-clause-memory : goal.returns-in_err-extend_from_slice-clause-memory
returns-in_err-extend_from_slice-clause-memory g c = λ is.
    let piece = take c.in_ok-count.count c.read.new.into in
    (c.pieces.taken.items ++ piece, omega (arith, length-append {A = ℕ}, length-take {A = ℕ}), Consumes-trans _ _ _ _ _ c.pieces.invariant.given c.in_ok-count.ensures.bytes.0)
