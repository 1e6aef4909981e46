use Rattle.std.proofs.Common.{◌≡◌, length, sym, ap, ◌∙◌, subst}
use Rattle.std.proofs.lemmas.Iterator.Adapters.{YieldsList-from_vec}
use Rattle.std.proofs.lemmas.Iterator.Consumers.{YieldsList-turn}
use Rattle.sn_rows.specs.Kinds.{key_kind, value_kind}
use Rattle.sn_rows.specs.Table.{row_after}
use Rattle.sn_rows.specs.declared.key.Key.{Key}
use Rattle.sn_rows.specs.declared.value.Value.{Value}
use Rattle.sn_account.proofs.PutsLemmas.{one_put_more}
use Rattle.sn_account.proofs.marking.puts_of.Goals as goal

-- the row of this turn is one of the list, each of which has one kind
pub invariant_of-push : goal.invariant_of-push
invariant_of-push c =
    let row : Key × Value = (c.in-Some.key, c.in-Some.value) in
    let given = c.into_iter-key-iterator.result in
    let same : given.rest.items ≡ c.args.rows = cc in
    let long : given.rest.len ≡ length c.args.rows = cc (ap length same) in
    let turn = YieldsList-turn (YieldsList-from_vec {s = given} c.args.rows same long) c.rows.yielded c.rows.key-iterator c.rows.yielded_by c.next.result c.next.new.self row c.in-Some.is c.next.ensures.steps in
    record { one_kind = subst (λ (r : Key × Value). key_kind r.0 ≡ value_kind r.1) (sym turn.1) (c.requires.kinds (length c.rows.yielded) row turn.0) }

pub rows-preserved : goal.rows-preserved
rows-preserved c = λ found key.
    ap (λ changes. row_after found key changes) c.in_ok-push.ensures.items
    ∙ one_put_more c.rows.changes.items c.rows.yielded _ c.rows.invariant found key
