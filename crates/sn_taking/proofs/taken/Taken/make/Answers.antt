use Rattle.std.proofs.Common.{◌+◌, add-one}
use Rattle.sn_taking.proofs.TakenLemmas.{so_far-more}
use Rattle.sn_taking.proofs.taken.Taken.make.Goals as goal

pub returns : goal.returns
returns c = λ rows before words.
    so_far-more rows c.args.self.now (record { changes = c.push.new.self; next = c.args.self.now.next + 1 }) c.args.change _ words c.in_ok-push.ensures.ok
    (add-one c.args.self.now.next)
