-- A run of commits with crashes.
use Rattle.std.proofs.Common.{inl, inr, [], ◌∷◌, ◌++◌, refl}
use Rattle.sn_table.specs.Laws.{done, crashed, EachIsWholeOrNothing}

pub each_is_whole_or_nothing : EachIsWholeOrNothing
each_is_whole_or_nothing owner file batches [] store left = (batches, store, refl)
each_is_whole_or_nothing owner file batches ((done changes, next) ∷ later) store left =
    each_is_whole_or_nothing owner next (batches ++ changes ∷ []) later (left.0 batches store) left.1
each_is_whole_or_nothing owner file batches ((crashed changes, next) ∷ later) store left =
    elim (left.0 batches store) [
      | inl none ↦ (let more = each_is_whole_or_nothing owner next batches later none left.1 in (more.0, more.1, inl more.2))
      | inr all ↦ (let more = each_is_whole_or_nothing owner next (batches ++ changes ∷ []) later all left.1 in (more.0, more.1, inr more.2))
    ]
