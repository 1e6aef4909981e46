use Rattle.std.proofs.Common.{arith, ◌∙◌, ap, sym, [], ◌∷◌, cond}
use Rattle.sn_notes.proofs.CopyLemmas.{comma_is}
use Rattle.sn_notes.proofs.copies.comma.Goals as goal

pub returns-then-ends_with : goal.returns-then-ends_with
returns-then-ends_with c =
    let test = c.ends_with.ensures.byte (omega arith) (omega arith) (λ w o h. h) in
    sym (comma_is c.args.front.now c.trimmed.result.now c.ends_with.result c.trimmed.ensures test ∙ ap (λ v. cond v [] (44 ∷ [])) c.if-ends_with.true)

pub returns-else-ends_with : goal.returns-else-ends_with
returns-else-ends_with c =
    let test = c.ends_with.ensures.byte (omega arith) (omega arith) (λ w o h. h) in
    sym (comma_is c.args.front.now c.trimmed.result.now c.ends_with.result c.trimmed.ensures test ∙ ap (λ v. cond v [] (44 ∷ [])) c.if-ends_with.false)
