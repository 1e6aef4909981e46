use Rattle.std.proofs.Common.{◌≡◌, ◌∙◌, All, List, subst, sym}
use Rattle.sn_rows.specs.declared.change.Change.{Change}
use Rattle.sn_account.specs.Names.{ListsChange}
use Rattle.sn_account.specs.Places.{PlacesChange}
use Rattle.sn_account.proofs.NamesLemmas.{after_listed}
use Rattle.sn_account.proofs.PlaceLemmas.{after_placed}
use Rattle.sn_account.proofs.state.State.keep.Goals as goal

pub invariant_of-self-clause-listed : goal.invariant_of-self-clause-listed
invariant_of-self-clause-listed c =
    let marked : c.into_vec.result.items ≡ c.args.self.now.marked = c.into_vec.ensures ∙ c.replace-changes.ensures.value in
    after_listed c.args.self.now.names c.args.self.now.rows c.set_all.new.self c.into_vec.result.items c.args.self.now.listed
    (subst (λ (changes : List Change). All (ListsChange c.args.self.now.names) changes) (sym marked) c.args.self.now.added) c.set_all.ensures.rows

pub invariant_of-self-clause-placed : goal.invariant_of-self-clause-placed
invariant_of-self-clause-placed c =
    let marked : c.into_vec.result.items ≡ c.args.self.now.marked = c.into_vec.ensures ∙ c.replace-changes.ensures.value in
    c.sweep.ensures
    (after_placed c.args.self.now.places c.args.self.now.rows c.set_all.new.self c.into_vec.result.items c.args.self.now.placed
    (subst (λ (changes : List Change). All (PlacesChange c.args.self.now.places) changes) (sym marked) c.args.self.now.to_place) c.set_all.ensures.rows)
