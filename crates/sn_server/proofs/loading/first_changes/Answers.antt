use Rattle.std.specs.Prelude.{◌≤◌, List, length}
use Rattle.std.proofs.Common.{sym, ◌∙◌, ap, subst}
use Rattle.sn_journal.specs.Image.{most_payload}
use Rattle.sn_rows.specs.Spelling.{spelled}
use Rattle.sn_rows.specs.declared.change.Change.{Change}
use Rattle.sn_server.proofs.FirstBatch.{first_fits}
use Rattle.sn_server.proofs.Opening.{first_of, just_one}
use Rattle.sn_server.proofs.loading.first_changes.Goals as goal

pub returns-clause-first : goal.returns-clause-first
returns-clause-first c = first_of c.args.secret c.push.new.self c.new-changes.result c.put_first.result c.put_first.ensures c.in_ok-push.ensures.ok c.new-changes.ensures

pub returns-clause-fits : goal.returns-clause-fits
returns-clause-fits c =
    subst (λ (l : List Change). length (spelled l) ≤ most_payload) (sym (just_one c.push.new.self c.new-changes.result c.put_first.result c.in_ok-push.ensures.ok c.new-changes.ensures))
    (first_fits c.args.secret c.put_first.result c.put_first.ensures (sym (ap length c.bytes_of-bytes.ensures.is) ∙ c.bytes_of-bytes.ensures.size))
