use Rattle.std.proofs.Common.{◌∙◌, []}
use Rattle.sn_rows.specs.declared.kind.RowKind.TheVariants.{Store, Account, Generation, Item, Owner, Set, Local}
use Rattle.sn_row_map.proofs.RangeLemmas.{between}
use Rattle.sn_row_map.proofs.row_map.bounds_of.Goals as goal

pub returns-in-Store-clause-whole : goal.returns-in-Store-clause-whole
returns-in-Store-clause-whole c = λ key of. between [] Store key (of ∙ c.in-Store.is)

pub returns-in-Account-clause-whole : goal.returns-in-Account-clause-whole
returns-in-Account-clause-whole c = λ key of. between [] Account key (of ∙ c.in-Account.is)

pub returns-in-Generation-clause-whole : goal.returns-in-Generation-clause-whole
returns-in-Generation-clause-whole c = λ key of. between c.nil.result Generation key (of ∙ c.in-Generation.is)

pub returns-in-Item-clause-whole : goal.returns-in-Item-clause-whole
returns-in-Item-clause-whole c = λ key of. between [] Item key (of ∙ c.in-Item.is)

pub returns-in-Owner-clause-whole : goal.returns-in-Owner-clause-whole
returns-in-Owner-clause-whole c = λ key of. between [] Owner key (of ∙ c.in-Owner.is)

pub returns-in-Set-clause-whole : goal.returns-in-Set-clause-whole
returns-in-Set-clause-whole c = λ key of. between [] Set key (of ∙ c.in-Set.is)

pub returns-in-Local-clause-whole : goal.returns-in-Local-clause-whole
returns-in-Local-clause-whole c = λ key of. between [] Local key (of ∙ c.in-Local.is)
