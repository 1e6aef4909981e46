use Rattle.std.proofs.Common.{◌≡◌, [], rules, sym}
use Rattle.json.specs.Json.{value}
use Rattle.json.specs.Lex.{tokens}
use Rattle.json.specs.Value.{value_view}
use Rattle.sn_json.specs.Views.{document_view}
use Rattle.sn_json.proofs.Wholes.{whole-read}
use Rattle.sn_json.proofs.reading.Document.read.Goals as goal

pub returns-then-has_value-clause-ok : goal.returns-then-has_value-clause-ok
unfolding document_view
returns-then-has_value-clause-ok c =
    let none : c.read.new.reader ≡ [] = search rules in
    whole-read (value 127 (tokens c.args.text.now)) (value_view c.in_ok-tree.tree) (rw (c.in_ok-reader.ensures.ok, none) at c.in_ok-tree.ensures.ok) (sym c.if-has_value.ensures)
