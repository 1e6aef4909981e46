use Rattle.std.proofs.Common.{All, List, inl, inr, [], refl, sym, subst}
use Rattle.sn_journal.specs.declared.owner.Owner.TheVariants.{Server as ServerOwner}
use Rattle.sn_rows.specs.declared.change.Change.{Change}
use Rattle.sn_table.specs.Batches.{IsOf}
use Rattle.sn_server.specs.Stores.{Kept, IsOpen}
use Rattle.sn_server.proofs.Handles.{ruled_on, after_none}
use Rattle.sn_server.proofs.server.Server.serve_request.Goals as goal

pub returns-in_default-clause-served : goal.returns-in_default-clause-served
returns-in_default-clause-served g c = λ kept stands.
    ([], inr (refl, c.unserved.ensures), subst (λ (k : Kept). IsOpen c.args.self k) (sym (after_none kept)) stands)

pub commit-requires : goal.commit-requires
commit-requires g c = subst (λ (cs : List Change). All (IsOf ServerOwner) cs) (sym c.as_slice.ensures) c.in-Ok.ensures.owned

pub returns-in-Done-clause-served : goal.returns-in-Done-clause-served
returns-in-Done-clause-served g c = λ kept stands.
    let (given, rule, sent) = c.in-Ok.ensures.rule in
    (c.as_slice.result.now, inl (given, ruled_on _ _ _ _ _ _ _ stands.rows_are c.as_slice.ensures rule, sent), c.in-Done.ensures.done kept stands)

pub returns-in-Memory-clause-served : goal.returns-in-Memory-clause-served
returns-in-Memory-clause-served g c = λ kept stands.
    ([], inr (refl, c.unserved-in-Memory.ensures), subst (λ (k : Kept). IsOpen c.in-Refused.server k) (sym (after_none kept)) (c.in-Refused.ensures.stays kept stands))

pub returns-in-Broken-clause-served : goal.returns-in-Broken-clause-served
returns-in-Broken-clause-served g c = λ kept stands.
    let (given, rule, sent) = c.in-Ok.ensures.rule in
    (c.as_slice.result.now, given, c.in-Ok.prepared.reply, ruled_on _ _ _ _ _ _ _ stands.rows_are c.as_slice.ensures rule, sent, c.in-Broken.ensures.broken kept stands)
