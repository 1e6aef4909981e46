use Rattle.std.proofs.Common.{inl, inr, [], refl, sym, subst}
use Rattle.sn_server.specs.Stores.{Kept, IsOpen}
use Rattle.sn_server.proofs.Handles.{ruled_on, after_none}
use Rattle.sn_server.proofs.server.Server.answer_to.Goals as goal

pub returns-in-Done-clause-handled : goal.returns-in-Done-clause-handled
returns-in-Done-clause-handled g c = λ kept stands.
    (c.as_slice.result.now, inl (ruled_on _ _ _ _ _ _ _ stands.rows_are c.as_slice.ensures c.in-Ok.ensures.rule), c.in-Done.ensures.done kept stands)

pub returns-in-Memory-clause-handled : goal.returns-in-Memory-clause-handled
returns-in-Memory-clause-handled g c = λ kept stands.
    ([], inr (refl, c.in_place_of.ensures), subst (λ (k : Kept). IsOpen c.in-Refused.server k) (sym (after_none kept)) (c.in-Refused.ensures.stays kept stands))

pub returns-clause-handled : goal.returns-clause-handled
returns-clause-handled g c = λ kept stands.
    (c.as_slice.result.now, c.in-Ok.ruled.answer, ruled_on _ _ _ _ _ _ _ stands.rows_are c.as_slice.ensures c.in-Ok.ensures.rule, c.in-Broken.ensures.broken kept stands)
