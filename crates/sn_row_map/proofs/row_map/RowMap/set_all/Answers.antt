use Rattle.std.proofs.Common.{rules, ◌≡◌, false, ◌∙◌, ap, map, subst, length}
use Rattle.std.proofs.lemmas.List.{take_at}
use Rattle.sn_rows.specs.Table.{Spares, key_of}
use Rattle.sn_rows.specs.declared.key.Key.{Key}
use Rattle.sn_row_map.specs.RowMaps.{IsTidy, IsTidyBut, StaysSwept}
use Rattle.sn_row_map.proofs.RowLemmas.{tidy_set}
use Rattle.sn_row_map.proofs.row_map.RowMap.set_all.Goals as goal

pub returns-then-not-set_each-clause-tidy : goal.returns-then-not-set_each-clause-tidy
returns-then-not-set_each-clause-tidy c =
    let none : c.set_each.result ≡ false = search rules in
    subst (λ changes. IsTidyBut changes c.args.self.now → IsTidy c.set_each.new.self) c.deref_mut.ensures.value (c.set_each.ensures.tidy none)

pub returns-clause-tidy : goal.returns-clause-tidy
returns-clause-tidy c =
    let size : length c.set_each.new.changes ≡ c.args.changes.len = search rules in
    let left : c.deref.result.now ≡ c.set_each.new.changes = c.deref.ensures.value ∙ take_at c.set_each.new.changes _ c.args.changes.len size in
    tidy_set _ _ _ _ c.args.changes.items (ap (map key_of) left ∙ c.set_each.ensures.keys ∙ ap (map key_of) c.deref_mut.ensures.value)
    (subst (λ changes. (key : Key) → Spares key changes → StaysSwept c.args.self.now c.set_each.new.self key) c.deref_mut.ensures.value c.set_each.ensures.others) c.sweep_for.ensures.tidy
