-- What is known of an open server, for the proofs above.
use Rattle.std.specs.Prelude.{List, ℕ}
use Rattle.std.proofs.Common.{subst}
use Rattle.sn_disk.specs.declared.disk.Disk.{Ghosts}
use Rattle.sn_journal.specs.declared.owner.Owner.{Owner}
use Rattle.sn_journal.specs.declared.owner.Owner.TheVariants.{Server as ServerOwner}
use Rattle.sn_table.specs.Batches.{IsStore}
use Rattle.sn_table.specs.Facts.{log_each}
use Rattle.sn_server.specs.Stores.{Kept, IsOpen, server_disk}
use Rattle.sn_server.specs.declared.server.Server.{Server}

module _ {D : Type 0} {g : Ghosts D} where
  -- a crash leaves the batches of an open server
  pub server_each : (server : Server D g) (kept : Kept) → IsOpen server kept → g.told → (c : List ℕ) → g.may_leave (server_disk server) c → IsStore ServerOwner c kept.batches
  server_each server kept is told c left = subst (λ (o : Owner). IsStore o c kept.batches) server.owner (log_each server.log kept.batches (is.stands told) c left)
