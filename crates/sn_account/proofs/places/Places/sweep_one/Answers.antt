use Rattle.sn_account.proofs.PlaceLemmas.{rows_without}
use Rattle.sn_account.proofs.places.Places.sweep_one.Goals as goal

pub returns : goal.returns
returns c =
    rows_without c.args.self.now (record { alloc = c.args.self.now.alloc; entries = c.remove.new.self; touched = c.args.self.now.touched })
    c.args.rows.now c.args.place c.remove.ensures.updates.0 (λ has. let holds = c.has_item_at.ensures.1 has in let not = c.if-has_item_at.false in cc)
