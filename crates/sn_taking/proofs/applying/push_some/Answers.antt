use Rattle.std.proofs.Common.{◌∙◌, ◌++◌, Option, ap, sym}
use Rattle.std.proofs.lemmas.List.{append-nil}
use Rattle.std.proofs.lemmas.Result.{on_ok_weaker}
use Rattle.sn_rows.specs.declared.change.Change.{Change}
use Rattle.sn_taking.specs.Taken.{option_list}
use Rattle.sn_taking.proofs.applying.push_some.Goals as goal

pub returns-in-Some : goal.returns-in-Some
returns-in-Some c =
    on_ok_weaker c.push.result
    (λ more. more ∙ ap (λ (found : Option Change). c.args.changes.now ++ option_list found) (sym c.in-Some.is)) c.push.ensures.ok

pub returns-in-None : goal.returns-in-None
returns-in-None c =
    sym (append-nil c.args.changes.now) ∙ ap (λ (found : Option Change). c.args.changes.now ++ option_list found) (sym c.in-None.is)
