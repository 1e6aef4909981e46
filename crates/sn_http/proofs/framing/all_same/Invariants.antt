use Rattle.std.proofs.Common.{◌≡◌, drop, map}
use Rattle.sn_http.specs.Fields.{values_of}
use Rattle.sn_http.specs.Framing.{all_same}
use Rattle.httparse.specs.Spans.{header_bytes}
use Rattle.sn_http.proofs.framing.all_same.Given as goal

abbrev pub invariant-loop-header : goal.invariant-loop-header
invariant-loop-header l = all_same l.value (values_of l.name (map (header_bytes l.bytes) l.headers)) ≡ all_same l.value (values_of l.name (map (header_bytes l.bytes) (drop l.header-index l.headers)))
