use Rattle.std.proofs.Common.{sym}
use Rattle.sn_row_map.specs.RowMaps.{row_in}
use Rattle.sn_saying.proofs.AdoptedLemmas.{lost_account, lost_owner, older_so}
use Rattle.sn_saying.proofs.retiring.older_held.Goals as goal

pub returns-in_default : goal.returns-in_default
returns-in_default c = λ s name d a reached shows device has.
    absurd (lost_owner (row_in c.args.rows.now) s name d a device has (sym c.in_default.ensures))

pub returns-in_default-account_in : goal.returns-in_default-account_in
returns-in_default-account_in c = λ s name d a reached shows device has.
    absurd (lost_account (row_in c.args.server.now) (row_in c.args.rows.now) s name c.in-Some.identifier.now d a shows device has (sym c.in-Some.ensures)
    c.in_default-account_in.ensures.none)

pub returns : goal.returns
returns c =
    older_so (row_in c.args.server.now) (row_in c.args.rows.now) c.in-Some.identifier.now c.in-Some-account_in.number c.in-Some-account_in.generation
    c.older_in.result (sym c.in-Some.ensures) c.in-Some-account_in.ensures.some c.older_in.ensures
