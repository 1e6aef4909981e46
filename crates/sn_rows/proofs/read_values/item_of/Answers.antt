use Rattle.sn_rows.proofs.FieldLemmas.{type_stands}
use Rattle.sn_rows.proofs.read_values.item_of.Goals as goal

pub packed-requires-clause-stands : goal.packed-requires-clause-stands
packed-requires-clause-stands c = λ undeleted.
    type_stands c.in_ok-kind.kind.now c.in_ok-kind.at.rest.now c.in_ok-created.at.rest.now c.in_ok-updated.at.rest.now
    c.in_ok-created.ensures.eight c.in_ok-updated.ensures.eight (c.in_ok-deleted.ensures.no undeleted) c.in_ok-kind.ensures.stands
