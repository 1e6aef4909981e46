use Rattle.std.proofs.Common.{◌≡◌, drop, map}
use Rattle.std.specs.Prelude.{codes}
use Rattle.std.specs.List.{list_any}
use Rattle.sn_http.specs.Fields.{values_of}
use Rattle.sn_http.specs.Options.{names_close}
use Rattle.httparse.specs.Spans.{header_bytes}
use Rattle.sn_http.proofs.options.any_close.Given as goal

abbrev pub invariant-loop-header : goal.invariant-loop-header
invariant-loop-header l = list_any names_close (values_of (codes "connection") (map (header_bytes l.bytes) l.headers)) ≡ list_any names_close (values_of (codes "connection") (map (header_bytes l.bytes) (drop l.header-index l.headers)))
