use Rattle.std.proofs.Common.{◌∙◌, refl, sym}
use Rattle.sn_link.proofs.Asking.{goes_on}
use Rattle.sn_link.proofs.keeper.Keeper.deliver.Goals as goal

pub returns-clause-goes_on : goal.returns-clause-goes_on
returns-clause-goes_on c = goes_on _ _ c.in-Some.held c.delivered-held.result.0 (sym c.self.view_is ∙ sym c.take.ensures.value ∙ c.in-Some.is) refl c.delivered-held.ensures.grows
