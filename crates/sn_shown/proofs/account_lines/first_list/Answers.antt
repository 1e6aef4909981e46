use Rattle.std.proofs.Common.{◌++◌, ◌∷◌, [], List, sym, ap, ◌∙◌}
use Rattle.sn_laws.specs.Lookups.{Bytes}
use Rattle.sn_report.specs.Showing.{last_set_text}
use Rattle.sn_row_map.specs.RowMaps.{row_in}
use Rattle.sn_shown.proofs.AccountLines.{own_line, own_row}
use Rattle.sn_shown.proofs.account_lines.first_list.Goals as goal

pub returns-in_default : goal.returns-in_default
returns-in_default c = λ s a served at.
    own_row (row_in c.args.server.now) s.accounts a c.args.number served.accounts at (sym c.in_default.ensures)

pub returns : goal.returns
returns c = λ s a served at.
    c.in_ok-push.ensures.ok
    ∙ ap (λ (list : List Bytes). list ++ c.in_ok-line.line ∷ []) c.new-list.ensures
    ∙ ap (λ (line : Bytes). line ∷ [])
    (own_line (row_in c.args.server.now) s.accounts a c.args.number c.in-Some.row.now c.in_ok-line.line served.accounts at (sym c.in-Some.ensures)
    (c.in_ok-line.ensures ∙ ap (λ (i : Bytes). last_set_text i c.in-Some.row.now.generation) c.as_str.ensures))
