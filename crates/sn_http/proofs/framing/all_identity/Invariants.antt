use Rattle.std.proofs.Common.{◌≡◌, drop, map}
use Rattle.std.specs.Prelude.{codes}
use Rattle.std.specs.List.{list_all}
use Rattle.sn_http.specs.Fields.{is_word, values_of}
use Rattle.httparse.specs.Spans.{header_bytes}
use Rattle.sn_http.proofs.framing.all_identity.Given as goal

abbrev pub invariant-loop-header : goal.invariant-loop-header
invariant-loop-header l = list_all (is_word (codes "identity")) (values_of (codes "content-encoding") (map (header_bytes l.bytes) l.headers)) ≡ list_all (is_word (codes "identity")) (values_of (codes "content-encoding") (map (header_bytes l.bytes) (drop l.header-index l.headers)))
