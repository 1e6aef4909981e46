use Rattle.std.proofs.Common.{◌≡◌, IfOk, List, ℕ, string_bytes, subst, sym, ap, ◌∙◌}
use Rattle.sn_rekey.specs.declared.error.RekeyError.{RekeyError}
use Rattle.sn_rekey.specs.declared.error.RekeyError.TheVariants.{ChangeRunning}
use Rattle.sn_status.specs.ClientLines.{client_text}
use Rattle.sn_status.specs.declared.refusal.ClientRefusal.{ClientRefusal}
use Rattle.sn_status.specs.declared.refusal.ClientRefusal.TheVariants.{Rekey}
use Rattle.sn_report.specs.Labels.{relabelled}
use Rattle.sn_report.specs.Text.{refused_text}
use Rattle.sn_report.proofs.ends.refused_text.Goals as goal

pub returns-in-Item : goal.returns-in-Item
returns-in-Item c =
    let same : c.args.refusal.now ≡ Rekey (ChangeRunning _) = c.in-Rekey.is ∙ ap Rekey (c.in-ChangeRunning.is ∙ ap ChangeRunning c.in-Item.is) in
    let told : ClientRefusal → List ℕ → Type 0 = λ r bytes. bytes ≡ relabelled c.args.labels.now (client_text r) in
    subst (λ (r : ClientRefusal). IfOk c.plain_text.result (λ text. string_bytes text ≡ refused_text c.args.labels.now c.args.sets.now r)) (sym same)
    (subst (λ (r : ClientRefusal). IfOk c.plain_text.result (λ text. told r (string_bytes text))) same c.plain_text.ensures)
