use Rattle.std.proofs.Common.{Option, Some, sym, ap, ◌∙◌, subst}
use Rattle.std.specs.Option.{option_copied}
use Rattle.sn_rows.specs.declared.device_rows.SetRow.{SetRow}
use Rattle.sn_shown.specs.Held.{IsOfSlot}
use Rattle.sn_shown.proofs.Finds.{one_found}
use Rattle.sn_shown.proofs.HoldingLemmas.{numbered}
use Rattle.sn_shown.proofs.holding.held_set.Goals as goal

pub returns : goal.returns
returns c = λ accounts a are at own.
    subst (λ (r : Option SetRow). IsOfSlot a r (Some (record { number = c.in-Some-set.number; set = c.in_ok-set.set }))) (sym (ap option_copied c.in-Some.is))
    (numbered a c.args.owner.now c.in-Some.row.now c.in-Some-set.number c.in_ok-set.set own c.in_ok-set.ensures
    (λ number k at_set nonce.
    one_found c.set.result c.in-Some-set.number number c.in-Some-set.is
    (c.set.ensures accounts a number k are at at_set (c.as_str.ensures ∙ nonce))))
