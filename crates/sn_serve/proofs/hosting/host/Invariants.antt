use Rattle.std.proofs.Common.{◌≡◌, ◌+◌, ◌≤◌, List}
use Rattle.sn_server.specs.Stores.{server_disk, server_rows}
use Rattle.sn_account.specs.Sound.{IsSound}
use Rattle.sn_serve.specs.Visits.{Visit, AreVisits, counted_in, events_of, stand}
use Rattle.sn_serve.proofs.hosting.host.Given as goal

abbrev pub invariant-connections : goal.invariant-connections
invariant-connections g l = record {
  visits : List (Visit g.row.D.Denot g.D.Disk);
  are : AreVisits (stand l.initial.server (g.C.Clock.given l.initial.clock) l.initial.left) visits (stand l.server (g.C.Clock.given l.clock) l.left);
  counted : l.left + counted_in visits ≡ l.initial.left;
  seen : g.P.Port.goes l.initial.port l.port (events_of visits);
  bound : g.P.Port.bound l.port ≡ g.P.Port.bound l.initial.port;
  faults : g.P.Port.fault_count l.initial.port ≤ g.P.Port.fault_count l.port;
  grows : g.D.Disk.grows (server_disk l.initial.server) (server_disk l.server);
  sound : IsSound (server_rows l.server);
  later : g.D.Disk.fault_count (server_disk l.initial.server) ≤ g.D.Disk.fault_count (server_disk l.server);
}

abbrev pub decreases-connections : goal.decreases-connections
decreases-connections g l = l.left
