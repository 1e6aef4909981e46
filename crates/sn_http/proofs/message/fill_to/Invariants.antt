use Rattle.std.proofs.Common.{ℕ, List, ◌≡◌, ◌-◌, ◌+◌, max, ◌≤◌, ◌++◌, length}
use Rattle.std.specs.Io.KnownBytes.{Keeps}
use Rattle.sn_http.specs.Heads.{unread}
use Rattle.sn_http.proofs.message.fill_to.Given as goal

abbrev pub invariant-reads : goal.invariant-reads
invariant-reads g l = record {
  kept : Keeps (unread l.initial.carry (g.S.Source.left l.initial.source)) (unread l.carry (g.S.Source.left l.source));
  place : l.carry.place ≡ l.initial.carry.place;
  ahead : length l.carry.bytes ≤ max (l.count + 4095) (length l.initial.carry.bytes);
  grown : (more : List ℕ) × (l.carry.bytes ≡ l.initial.carry.bytes ++ more);
  later : g.S.Source.fault_count l.initial.source ≤ g.S.Source.fault_count l.source;
}

abbrev pub decreases-reads : goal.decreases-reads
decreases-reads g l = l.count - length l.carry.bytes
