use Rattle.std.proofs.Common.{◌≡◌, ◌∙◌, ◌++◌, ◌∷◌, [], Some, ap}
use Rattle.std.specs.BTreeMap.{get_by_text}
use Rattle.std.specs.Map.{update}
use Rattle.std.specs.Str.{bytes_eq}
use Rattle.std.specs.String.{string_bytes}
use Rattle.std.proofs.lemmas.Map.Text.{btree_map_updates_text}
use Rattle.sn_account.specs.Names.{numbers_at}
use Rattle.sn_account.proofs.NamesLemmas.{IsWithNumber, keeps_others}
use Rattle.sn_account.proofs.names.Names.add.Goals as goal

pub returns-in-Ok-clause-kept : goal.returns-in-Ok-clause-kept
returns-in-Ok-clause-kept c =
    let numbers_are : c.in_ok-numbers.numbers ≡ numbers_at c.args.self.now.entries c.args.identifier.now ++ c.args.number ∷ [] =
    c.in_ok-numbers.ensures ∙ ap (λ xs. xs ++ c.args.number ∷ []) c.numbers-2.ensures in
    let with_number : IsWithNumber c.args.self.now.entries c.insert.new.self c.args.identifier.now c.args.number = λ cs.
    btree_map_updates_text (string_bytes c.in_ok-key.key) c.args.self.now.entries c.insert.new.self (Some c.in_ok-numbers.numbers) c.in-Ok.ensures.updates cs
    ∙ ap (λ bs. update bytes_eq (get_by_text c.args.self.now.entries) bs (Some c.in_ok-numbers.numbers) cs) c.in_ok-key.ensures.ok
    ∙ ap (λ xs. update bytes_eq (get_by_text c.args.self.now.entries) c.args.identifier.now (Some xs) cs) numbers_are
    in
    λ other m has. keeps_others c.args.self.now.entries c.insert.new.self c.args.identifier.now c.args.number with_number other m has
