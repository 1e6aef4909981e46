use Rattle.std.proofs.Common.{◌≡◌, ◌≤◌, ◌∙◌, ◌++◌, ◌∷◌, [], ap, subst, sym, rules, drop, length, take, List, ℕ}
use Rattle.sn_disk.proofs.Undoing.{redoes_written, told_written}
use Rattle.sn_disk.specs.Disk.{overwritten}
use Rattle.sn_disk.specs.Record.{Redoes, newest_first, told_of, write_back}
use Rattle.sn_disk.specs.Steps.{Told, with_step, write_step}
use Rattle.sn_disk.specs.declared.undo.Undo.{Undo}
use Rattle.sn_disk.specs.declared.undo.Undo.TheVariants.{Write}
use Rattle.sn_disk.proofs.history.History.write.Goals as goal

pub invariant_of-self-2 : goal.invariant_of-self-2
invariant_of-self-2 c =
    let file : List ℕ = c.self.inside.bytes.items in
    let bytes : List ℕ = c.args.bytes.now in
    let undo : Undo = Write c.args.at (length bytes) c.in_ok-over.over in
    let all : c.push_reserved.new.self.items ≡ c.self.inside.undos.items ++ undo ∷ [] = search rules in
    let over : c.in_ok-over.over.items ≡ take (length bytes) (drop c.args.at file) = search rules in
    let is : c.overwrite.new.file.items ≡ overwritten file c.args.at bytes = search rules in
    let within : c.args.at ≤ length file = subst (λ (told : Told). c.args.at ≤ length told.bytes) (sym c.self.view_is) c.requires in
    subst (λ (l : List Undo). Redoes c.overwrite.new.file.items (newest_first l)) (sym all)
    (redoes_written file bytes c.overwrite.new.file.items c.args.at c.self.inside.undos.items undo within is (ap (write_back c.args.at (length bytes)) over) c.self.invariant)

pub returns-clause-ok : goal.returns-clause-ok
returns-clause-ok c =
    let file : List ℕ = c.self.inside.bytes.items in
    let bytes : List ℕ = c.args.bytes.now in
    let undo : Undo = Write c.args.at (length bytes) c.in_ok-over.over in
    let all : c.push_reserved.new.self.items ≡ c.self.inside.undos.items ++ undo ∷ [] = search rules in
    let over : c.in_ok-over.over.items ≡ take (length bytes) (drop c.args.at file) = search rules in
    let is : c.overwrite.new.file.items ≡ overwritten file c.args.at bytes = search rules in
    let within : c.args.at ≤ length file = subst (λ (told : Told). c.args.at ≤ length told.bytes) (sym c.self.view_is) c.requires in
    ap (λ (l : List Undo). told_of c.overwrite.new.file.items l) all
    ∙ told_written file bytes c.overwrite.new.file.items c.args.at c.self.inside.undos.items undo within is (ap (write_back c.args.at (length bytes)) over)
    ∙ ap (λ (told : Told). with_step told (write_step c.args.at bytes)) c.self.view_is
