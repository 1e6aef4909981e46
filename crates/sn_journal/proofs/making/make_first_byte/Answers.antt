use Rattle.sn_disk.specs.Moments.{weaker}
use Rattle.sn_journal.proofs.Starts.{on_ok_then, letter_made, letter_torn}
use Rattle.sn_journal.proofs.making.make_first_byte.Goals as goal

pub returns-clause-made : goal.returns-clause-made
returns-clause-made g c = λ told.
    on_ok_then c.write_durably.result _ _ (λ is. letter_made c.args._owner (g.D.Disk.seen c.args.disk.now) (g.D.Disk.seen c.write_durably.new.disk) (c.requires told).1 is) (c.write_durably.ensures.written told)

pub returns-clause-any_moment : goal.returns-clause-any_moment
returns-clause-any_moment g c = λ told only.
    weaker g.D.Disk.moment g.D.Disk.left_since _ _ _ _ (c.write_durably.ensures.any_moment told only)
    (λ f torn. letter_torn c.args._owner (g.D.Disk.seen c.args.disk.now) f (c.requires told).0 (c.requires told).1 torn)
