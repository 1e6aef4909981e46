use Rattle.std.proofs.Common.{ℕ, List, subst, sym}
use Rattle.uuid.proofs.TextLemmas.{all_fit}
use Rattle.sn_report.specs.Numbers.{IsUuidBytes}
use Rattle.sn_report.proofs.labels.of_bytes.Goals as goal

pub returns-clause-sixteen : goal.returns-clause-sixteen
returns-clause-sixteen c =
    let P : List ℕ → Type 0 = IsUuidBytes in
    let sixteen : IsUuidBytes c.args.bytes.now = record { count = c.told-bytes; fit = all_fit _ (λ k _. c.fits-bytes k) } in
    subst P (sym c.from_bytes.ensures) sixteen
