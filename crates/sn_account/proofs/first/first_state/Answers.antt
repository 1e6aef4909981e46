use Rattle.std.proofs.Common.{ap, ◌∙◌, List, [], ◌∷◌, ◌++◌}
use Rattle.sn_rows.specs.declared.key.Key.{Key}
use Rattle.sn_rows.specs.declared.key.Key.TheVariants as key
use Rattle.sn_rows.specs.declared.value.Value.{Value}
use Rattle.sn_rows.specs.declared.value.Value.TheVariants as value
use Rattle.sn_account.proofs.FirstLemmas.{alone_state, sound_state}
use Rattle.sn_account.proofs.first.first_state.Goals as goal

pub returns-clause-sound : goal.returns-clause-sound
returns-clause-sound c =
    sound_state c.first_store-store.result c.push.new.self c.of.result c.first_store-store.ensures.accounts
    (c.in_ok-push.ensures.ok ∙ ap (λ (rows : List (Key × Value)). rows ++ (key.Store, value.Store c.first_store-store.result) ∷ []) c.new-rows.ensures)
    c.of.ensures.rows

pub returns-clause-rows : goal.returns-clause-rows
returns-clause-rows c =
    alone_state c.args.secret c.first_store-store.result c.push.new.self c.of.result c.first_store-store.ensures.secret c.first_store-store.ensures.last
    c.first_store-store.ensures.accounts
    (c.in_ok-push.ensures.ok ∙ ap (λ (rows : List (Key × Value)). rows ++ (key.Store, value.Store c.first_store-store.result) ∷ []) c.new-rows.ensures)
    c.of.ensures.rows
