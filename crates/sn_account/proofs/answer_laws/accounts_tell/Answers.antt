use Rattle.sn_account.proofs.AccountTellsLemmas.{changes_tell, parameters_tell, registers_tell, sign_ins_tell}
use Rattle.sn_account.proofs.answer_laws.accounts_tell.Goals as goal

pub returns : goal.returns
returns c = record { registers = registers_tell; parameters = parameters_tell; sign_ins = sign_ins_tell; changes = changes_tell }
