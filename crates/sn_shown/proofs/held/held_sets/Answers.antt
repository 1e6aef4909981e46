use Rattle.std.proofs.Common.{List, ◌∷◌, [], ◌++◌, take, sym, ap, ◌∙◌, subst}
use Rattle.std.specs.BTreeMap.{get}
use Rattle.sn_laws.specs.Lookups.{Bytes}
use Rattle.sn_row_map.specs.Keys.{key_cmp}
use Rattle.sn_shown.specs.Held.{AreSetsOf}
use Rattle.sn_shown.proofs.PlaceLemmas.{taken}
use Rattle.sn_shown.proofs.SetLemmas.{no_sets, sets_all}
use Rattle.sn_shown.proofs.held.held_sets.Goals as goal

pub names-init : goal.names-init
names-init g c = λ s regular each are. no_sets s c.new-sets.result c.new-sets.ensures.empty

pub names-preserved : goal.names-preserved
names-preserved g c = λ s regular each are.
    subst (λ (names : List Bytes). AreSetsOf (get key_cmp c.add_sets.new.sets) s names)
    (ap (λ (name : Bytes). take c.names.name-index c.args.names.now ++ name ∷ []) c.as_str.ensures
    ∙ sym (taken c.args.names.now c.names.name-index c.name-item.result c.names-test.true c.name-item.is))
    (c.in_ok-add_sets.ensures s (take c.names.name-index c.args.names.now) regular are
    (each c.as_str.result.now) (c.names.invariant s regular each are))

pub returns : goal.returns
returns g c = λ s regular each held are.
    sets_all (get key_cmp c.names.sets) s c.args.names.now c.names.name-index c.names-test.false held (c.names.invariant s regular each are)
