use Rattle.std.proofs.Common.{◌≡◌, ◌-◌, ◌≤◌, List, length}
use Rattle.sn_account.specs.Sound.{IsSound}
use Rattle.sn_http.specs.Heads.{unread}
use Rattle.sn_server.specs.Sessions.{HasRun}
use Rattle.sn_server.specs.Steps.{Step, world, after_all}
use Rattle.sn_server.specs.Stores.{Kept, IsOpen, server_disk, server_rows}
use Rattle.sn_server.proofs.server.Server.serve_all.Given as goal

abbrev pub invariant-messages : goal.invariant-messages
invariant-messages g l =
    let before = world (unread l.initial.carry (g.I.Source.left l.initial.source)) (g.O.Sink.held l.initial.sink) (g.C.Clock.given l.initial.clock) l.initial.carry.place (g.I.Source.fault_count l.initial.source) (g.O.Sink.fault_count l.initial.sink) in
    let now = world (unread l.carry (g.I.Source.left l.source)) (g.O.Sink.held l.sink) (g.C.Clock.given l.clock) l.carry.place (g.I.Source.fault_count l.source) (g.O.Sink.fault_count l.sink) in
    record {
      runs : (kept : Kept) → IsOpen l.initial.server kept → (steps : List Step) × HasRun kept steps before now × (l.count ≡ length steps) × IsOpen l.server (after_all kept steps);
      within : l.count ≤ l.budget;
      sound : IsSound (server_rows l.server);
      grows : g.D.Disk.grows (server_disk l.initial.server) (server_disk l.server);
      later : g.D.Disk.fault_count (server_disk l.initial.server) ≤ g.D.Disk.fault_count (server_disk l.server);
    }

abbrev pub decreases-messages : goal.decreases-messages
decreases-messages g l = l.budget - l.count
