use Rattle.sn_disk.proofs.laws.read_after_any_moment.Goals as goal

pub returns-clause-left : goal.returns-clause-left
returns-clause-left g c = λ told disk t le f left. g.met.D.Disk.counts_now told disk t f le left

pub returns-clause-read : goal.returns-clause-read
returns-clause-read g c = λ told disk t le. g.met.D.Disk.counts_now told disk t (g.D.Disk.seen disk) le (g.met.D.Disk.seen_may_stay told disk)
