use Rattle.std.proofs.Common.{◌≡◌, drop, map}
use Rattle.sn_http.specs.Fields.{values_of, first_of}
use Rattle.httparse.specs.Spans.{header_bytes}
use Rattle.sn_http.proofs.fields.first_value.Given as goal

abbrev pub invariant-loop-header : goal.invariant-loop-header
invariant-loop-header l = first_of (values_of l.name (map (header_bytes l.bytes) l.headers)) ≡ first_of (values_of l.name (map (header_bytes l.bytes) (drop l.header-index l.headers)))
