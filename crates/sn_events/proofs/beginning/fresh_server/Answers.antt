use Rattle.std.proofs.Common.{[], refl}
use Rattle.sn_journal.specs.declared.owner.Owner.TheVariants.{Server}
use Rattle.sn_server.specs.Stores.{IsOpen, server_disk}
use Rattle.sn_events.proofs.Growing.{fresh_made, fresh_on}
use Rattle.sn_events.proofs.Opening.{began, fresh_each}
use Rattle.sn_events.proofs.beginning.fresh_server.Goals as goal

pub returns-in-Ok-clause-fresh : goal.returns-in-Ok-clause-fresh
returns-in-Ok-clause-fresh c =
    let b = began IsOpen _ _ _ (c.in-Ok.ensures.same tt [] (fresh_each Server c.in_ok-disk.disk _ c.in_ok-disk.ensures.state c.new.ensures.items refl)).0 in
    record { secret = b.secret; drew = b.drew; changes = b.changes; first = b.first; stands = b.stands; sound = c.in-Ok.ensures.sound }

pub returns-in-Ok-clause-disk : goal.returns-in-Ok-clause-disk
returns-in-Ok-clause-disk c = fresh_on c.in_ok-disk.disk (server_disk c.in-Ok.server) c.in-Ok.ensures.grows (fresh_made c.in_ok-disk.disk _ c.in_ok-disk.ensures.state c.new.ensures.items)
