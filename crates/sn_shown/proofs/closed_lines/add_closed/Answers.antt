use Rattle.std.proofs.Common.{◌≡◌, ◌++◌, List, subst}
use Rattle.std.specs.Prelude.{OnOk}
use Rattle.sn_laws.specs.Lookups.{Bytes}
use Rattle.sn_shown.proofs.closed_lines.add_closed.Goals as goal

pub returns : goal.returns
returns c = λ closed shows.
    subst (λ (xs : List Bytes). OnOk c.add_values.result (c.add_values.new.lines ≡ c.args.lines.now ++ xs)) (c.in_ok-closed.ensures closed shows)
    c.add_values.ensures
