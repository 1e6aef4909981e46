use Rattle.std.proofs.Common.{List, ℕ, map}
use Rattle.sn_script.specs.Grammar.{IsEntry}
use Rattle.sn_script.specs.declared.script.Fate.{Fate}
use Rattle.sn_script.proofs.CommandFacts.{no_register}
use Rattle.sn_script.proofs.Ordinals.{missing}
use Rattle.sn_script.proofs.commands.register_line.Goals as goal

pub returns-in-None : goal.returns-in-None
returns-in-None c =
    let ws : List (List ℕ) = map (λ w. w.now) c.args.words.now in
    no_register ws
    (missing ((d i p : List ℕ) (fates : List Fate) → ¬ (IsEntry ws d i p fates)) (λ e. IsEntry ws e.device e.identifier e.password e.fates)
    c.in_ok-entry.field-0 c.in_ok-entry.ensures c.in-None.is)
