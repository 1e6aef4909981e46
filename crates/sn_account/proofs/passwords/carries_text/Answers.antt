use Rattle.sn_account.proofs.CarryLemmas.{carries_none, carries_read}
use Rattle.sn_account.proofs.passwords.carries_text.Goals as goal

pub returns-in-Ok : goal.returns-in-Ok
returns-in-Ok c = carries_read c.args.text.now c.in-Ok.parts c.args.params.now c.same.result c.in-Ok.ensures.ok c.same.ensures

pub returns-in-Err : goal.returns-in-Err
returns-in-Err c = carries_none c.args.text.now c.in-Err.error c.args.params.now c.carries_none.result c.in-Err.ensures.err c.carries_none.ensures
