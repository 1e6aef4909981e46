use Rattle.std.proofs.Common.{◌≡◌, ℕ, sym, ap, ◌∙◌}
use Rattle.sn_report.specs.Showing.{item_text}
use Rattle.sn_row_map.specs.RowMaps.{row_in}
use Rattle.sn_shows.specs.Servers.{account_at}
use Rattle.sn_shown.proofs.AccountLines.{IsRowOf, item_absent, item_added_on, line_of, row_of}
use Rattle.sn_shown.proofs.Finds.{never, one_found}
use Rattle.sn_shown.proofs.item_lines.add_item.Goals as goal

pub returns-in_default : goal.returns-in_default
returns-in_default c = λ s front served are sets is.
    item_absent (row_in c.args.server.now) s.accounts c.args.labels.now front c.args.uuid.now c.args.lists.now.items served.accounts
    (sym c.in_default.ensures) is

pub returns-in_default-2 : goal.returns-in_default-2
returns-in_default-2 c = λ s front served are sets is.
    let r : IsRowOf s.accounts c.args.uuid.now c.in-Some.row.now =
    row_of (row_in c.args.server.now) s.accounts c.args.uuid.now c.in-Some.row.now served.accounts (sym c.in-Some.ensures) in
    let at = ap (λ (n : ℕ). account_at n s.accounts) r.number ∙ r.at in
    never c.in_ok-body.field-0 r.version.body (c.in_ok-body.ensures s.accounts r.account r.version are sets at r.last r.strings) c.in_default-2.is

pub returns : goal.returns
returns c = λ s front served are sets is.
    let r : IsRowOf s.accounts c.args.uuid.now c.in-Some.row.now =
    row_of (row_in c.args.server.now) s.accounts c.args.uuid.now c.in-Some.row.now served.accounts (sym c.in-Some.ensures) in
    let at = ap (λ (n : ℕ). account_at n s.accounts) r.number ∙ r.at in
    let body : c.in-Some-2.body ≡ r.version.body =
    one_found c.in_ok-body.field-0 c.in-Some-2.body r.version.body c.in-Some-2.is
    (c.in_ok-body.ensures s.accounts r.account r.version are sets at r.last r.strings) in
    item_added_on c.add_line.result s.accounts c.args.labels.now front c.args.uuid.now c.in-Some.row.now c.in_ok-line.line c.args.lists.now.items
    c.add_line.new.lists.items r is
    (line_of s.accounts c.args.labels.now c.args.uuid.now c.in-Some.row.now c.in-Some-2.body c.in_ok-line.line r body
    (c.in_ok-line.ensures ∙ ap (λ (n : ℕ). item_text c.args.labels.now c.args.uuid.now n c.in-Some-2.body) c.updated.ensures))
    (λ index is_at there. c.add_line.ensures index (c.account.ensures ∙ is_at) there)
