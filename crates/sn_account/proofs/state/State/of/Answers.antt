use Rattle.std.proofs.Common.{All, List, subst}
use Rattle.sn_rows.specs.declared.change.Change.{Change}
use Rattle.sn_account.specs.Names.{ListsChange}
use Rattle.sn_account.proofs.NamesLemmas.{put_listed}
use Rattle.sn_account.proofs.state.State.of.Goals as goal

pub invariant_of-result-clause-listed : goal.invariant_of-result-clause-listed
invariant_of-result-clause-listed c =
    put_listed c.add_all.new.self c.new-map.result c.add_all-2.new.self c.in_ok-puts.puts.items c.new-map.ensures.empty
    (subst (λ (changes : List Change). All (ListsChange c.add_all.new.self) changes) c.deref.ensures.value c.in_ok-add_all.ensures.listed)
    c.in_ok-add_all-2.ensures.rows
