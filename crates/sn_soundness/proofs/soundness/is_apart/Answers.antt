use Rattle.std.proofs.Common.{◌∙◌, sym}
use Rattle.std.proofs.lemmas.Bool.{eqb-true}
use Rattle.sn_soundness.proofs.SoundnessLemmas.{apart_none, apart_some, sees_more}
use Rattle.sn_soundness.proofs.soundness.is_apart.Goals as goal

pub returns-in-Ok-Some-clause-sees : goal.returns-in-Ok-Some-clause-sees
returns-in-Ok-Some-clause-sees c = λ same.
    sees_more c.args.seen.now c.insert.new.self c.args.uuid c.args.number c.in-Ok-Some.ensures.updates.0 c.in-Ok-Some.ensures.updates.1
    (apart_some c.args.seen.now c.args.uuid c.args.number c.in-Ok-Some.other (sym c.in-Ok-Some.ensures.old ∙ c.in-Ok-Some.field-0-is)
    (eqb-true c.in-Ok-Some.other c.args.number same))

pub returns-in-Ok-None-clause-sees : goal.returns-in-Ok-None-clause-sees
returns-in-Ok-None-clause-sees c = λ _.
    sees_more c.args.seen.now c.insert.new.self c.args.uuid c.args.number c.in-Ok-None.ensures.updates.0 c.in-Ok-None.ensures.updates.1
    (apart_none c.args.seen.now c.args.uuid c.args.number (sym c.in-Ok-None.ensures.old ∙ c.in-Ok-None.field-0-is))
