use Rattle.sn_http.proofs.Writing.{on_err, part_of_second}
use Rattle.sn_http.proofs.block.write_both.Goals as goal

pub returns-in_err-write_all-2-clause-err : goal.returns-in_err-write_all-2-clause-err
returns-in_err-write_all-2-clause-err g c = on_err _ c.from_residual-in_err-write_all-2.result (part_of_second _ _ _ _ _ c.in_ok-write_all.ensures.ok c.in_err-write_all-2.ensures.err)
