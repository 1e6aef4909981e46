use Rattle.std.proofs.Common.{refl}
use Rattle.sn_json.specs.Views.{document_view, view}
use Rattle.sn_json.proofs.reading.Document.root.Goals as goal

pub returns : goal.returns
unfolding view document_view
returns c = refl
