use Rattle.sn_rekey.proofs.CarryLemmas.{carries_none, carries_read}
use Rattle.sn_string.specs.Parts.{reading_of}
use Rattle.sn_rekey.proofs.carrying.carries.Goals as goal

pub returns-in-Ok : goal.returns-in-Ok
returns-in-Ok c = carries_read c.args.text.now (reading_of c.in-Ok.parts) c.args.params.now c.same.result c.in-Ok.ensures.ok c.same.ensures

pub returns-in-Err : goal.returns-in-Err
returns-in-Err c = carries_none c.args.text.now c.args.params.now c.in-Err.error c.is_none.result c.in-Err.ensures.err c.is_none.ensures
