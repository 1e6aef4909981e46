use Rattle.std.proofs.Common.{◌≡◌, ◌-◌, ◌+◌, max, ◌<◌, ◌≤◌, length, take}
use Rattle.std.specs.Io.KnownBytes.{Keeps}
use Rattle.sn_http.specs.Blanks.{IsBlank}
use Rattle.sn_http.specs.Heads.{unread, HasNoHead}
use Rattle.sn_http.proofs.message.read_head.Given as goal

abbrev pub invariant-reads : goal.invariant-reads
invariant-reads g l = record {
  kept : Keeps (unread l.initial.carry (g.S.Source.left l.initial.source)) (unread l.carry (g.S.Source.left l.source));
  place : l.carry.place ≡ l.initial.carry.place;
  within : l.seen ≤ length l.carry.bytes;
  ahead : length l.carry.bytes ≤ max (l.seen + 4096) (length l.initial.carry.bytes);
  blank : IsBlank l.blank l.carry.bytes;
  fewer : l.blank ≤ l.seen;
  few : l.seen < 16384;
  none : HasNoHead (take l.seen l.carry.bytes);
  later : g.S.Source.fault_count l.initial.source ≤ g.S.Source.fault_count l.source;
}

abbrev pub decreases-reads : goal.decreases-reads
decreases-reads g l = 16384 - length l.carry.bytes
