use Rattle.std.proofs.Common.{rules}
use Rattle.sn_sync.proofs.DayFacts.{year_from}
use Rattle.sn_sync.proofs.stamp.date_of.Goals as goal

pub returns-clause-year : goal.returns-clause-year
returns-clause-year c = year_from c.in-Ok.date c.args.days (search rules)
