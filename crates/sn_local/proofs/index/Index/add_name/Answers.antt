use Rattle.std.proofs.Common.{◌≡◌, ◌∙◌, ◌++◌, ◌∷◌, [], Some, ap, cond}
use Rattle.std.specs.BTreeMap.{get, is_at}
use Rattle.std.specs.Cmp.Lexicographic.{slice_cmp}
use Rattle.std.specs.Ordering.{nat_cmp}
use Rattle.sn_local.specs.Index.{numbers_at}
use Rattle.sn_local.proofs.IndexLemmas.{IsWithNumber, names_stay}
use Rattle.sn_local.proofs.index.Index.add_name.Goals as goal

pub returns-in-Ok-clause-kept : goal.returns-in-Ok-clause-kept
returns-in-Ok-clause-kept c =
    let numbers_are : c.in_ok-numbers.numbers ≡ numbers_at c.args.self.now.names c.args.uuid ++ c.args.number ∷ [] =
    c.in_ok-numbers.ensures ∙ ap (λ xs. xs ++ c.args.number ∷ []) c.numbers-2.ensures in
    let with_number : IsWithNumber c.args.self.now.names c.insert.new.self c.args.uuid c.args.number = λ q.
    c.in-Ok.ensures.updates.0 q
    ∙ ap (λ xs. cond (is_at (slice_cmp nat_cmp c.args.uuid) q) (Some xs) (get (slice_cmp nat_cmp) c.args.self.now.names q)) numbers_are in
    record { names = names_stay c.args.self.now.names c.insert.new.self c.args.uuid c.args.number with_number; waiting = λ n h. h }
