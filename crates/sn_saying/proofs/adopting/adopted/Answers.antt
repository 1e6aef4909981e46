use Rattle.std.proofs.Common.{List, ◌++◌, sym, ap, ◌∙◌}
use Rattle.sn_adopted.specs.Moves.{reposting}
use Rattle.sn_laws.specs.Lookups.{Bytes}
use Rattle.sn_laws.specs.declared.moves.Move.{Move}
use Rattle.sn_row_map.specs.RowMaps.{row_in}
use Rattle.sn_saying.specs.Adopted.{joining}
use Rattle.sn_saying.proofs.AdoptedLemmas.{adopted_so, no_account, no_owner}
use Rattle.sn_saying.proofs.adopting.adopted.Goals as goal

pub returns-in_default : goal.returns-in_default
returns-in_default c = no_owner (row_in c.args.server.now) (row_in c.args.rows.now) c.args.name.now _ (sym c.in_default.ensures)

pub returns-in_default-account_in : goal.returns-in_default-account_in
returns-in_default-account_in c =
    no_account (row_in c.args.server.now) (row_in c.args.rows.now) c.args.name.now c.in-Some.identifier.now _ (sym c.in-Some.ensures)
    c.in_default-account_in.ensures.none

pub returns : goal.returns
returns c =
    let name = c.args.name.now in
    let identifier = c.in-Some.identifier.now in
    let generation = c.in-Some-account_in.generation in
    let older = c.older_in-older.result in
    adopted_so (row_in c.args.server.now) (row_in c.args.rows.now) name identifier c.in-Some-account_in.number generation older c.in_ok-uuids.uuids
    c.push_reposting.new.moves (sym c.in-Some.ensures) c.in-Some-account_in.ensures.some c.older_in-older.ensures c.in_ok-uuids.ensures
    (c.in_ok-push_reposting.ensures
    ∙ ap (λ (ms : List Move). ms ++ reposting name c.as_slice.result.now) c.in_ok-moves.ensures
    ∙ ap (λ (us : List Bytes). joining name identifier older generation ++ reposting name us) c.as_slice.ensures)
