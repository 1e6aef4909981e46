use Rattle.sn_account.proofs.PlaceLemmas.{place_kept}
use Rattle.sn_account.proofs.places.Places.add.Goals as goal

pub returns-in-Ok-clause-kept : goal.returns-in-Ok-clause-kept
returns-in-Ok-clause-kept c =
    place_kept c.args.self.now (record { alloc = c.args.self.now.alloc; entries = c.insert.new.self; touched = c.args.self.now.touched }) c.args.place
    c.in-Ok.ensures.updates.0
