use Rattle.sn_joining.proofs.AccountLemmas.{given_account}
use Rattle.sn_joining.proofs.accounts.ask_account.Goals as goal

pub returns-in-Ok-Account-clause-gives : goal.returns-in-Ok-Account-clause-gives
returns-in-Ok-Account-clause-gives g c =
    given_account (g.L.Link.asks c.args.link.now c.ask_with.new.link) (g.L.Link.aimed c.args.link.now) c.args.request c.in-Ok-Account.token c.in-Ok-Account.field-0-1
    c.in-Ok-Account.uuid (rw c.in-Ok-Account.field-0-is at c.in-Ok-Account.ensures.asked)
