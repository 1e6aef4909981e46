-- So many exchanges were made, with those from before, and another is due.
use Rattle.std.specs.Prelude.{◌≡◌, ◌-◌, ◌≤◌, Option}
use Rattle.sn_rows.specs.declared.device_rows.OwnerRow.{OwnerRow}
use Rattle.sn_sets.specs.Seals.{IsLater}
use Rattle.sn_sync.specs.declared.answer.Answer.{Answer}
use Rattle.sn_table.specs.Kept.{Kept}
use Rattle.sn_client.specs.Calls.{IsOpen, device_disk, device_rows}
use Rattle.sn_device.specs.Runs.{IsDue, most_exchanges}
use Rattle.sn_device.specs.States.{HasOwner, IsSound, HasNoneAsked}
use Rattle.sn_client.specs.Syncing.{IsOpenSince}
use Rattle.sn_client.proofs.SyncLemmas.{HasMade, kept_now}
use Rattle.sn_client.proofs.device.Device.exchanges.Given as goal

abbrev pub invariant-exchanges : goal.invariant-exchanges
invariant-exchanges g l = record {
  runs : (kept : Kept) → IsOpen l.initial.device kept → (last : Option Answer)
      × (made : HasMade (IsOpenSince l.initial.device kept) l.initial.count kept l.initial.words (g.L.Link.aimed l.initial.link) (g.L.Link.asks l.initial.link l.link) l.words last l.device l.count)
      × IsDue (kept_now (IsOpenSince l.initial.device kept) l.initial.count kept l.initial.words (g.L.Link.aimed l.initial.link) (g.L.Link.asks l.initial.link l.link) l.words last l.device l.count made).rows last;
  within : l.count ≤ most_exchanges;
  sound : IsSound (device_rows l.device);
  owned : (owner : OwnerRow) × HasOwner (device_rows l.device) owner;
  none_asked : HasNoneAsked (device_rows l.device);
  words : IsLater l.initial.words l.words;
  least : l.device.least_cost ≡ l.initial.device.least_cost;
  aimed : g.L.Link.aimed l.link ≡ g.L.Link.aimed l.initial.link;
  link_later : g.L.Link.fault_count l.initial.link ≤ g.L.Link.fault_count l.link;
  grows : g.D.Disk.grows (device_disk l.initial.device) (device_disk l.device);
  later : g.D.Disk.fault_count (device_disk l.initial.device) ≤ g.D.Disk.fault_count (device_disk l.device);
}

abbrev pub decreases-exchanges : goal.decreases-exchanges
decreases-exchanges g l = most_exchanges - l.count
