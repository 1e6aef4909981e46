use Rattle.std.proofs.Common.{◌≡◌, ◌≢◌, ◌∙◌, ◌||◌, false, arith, ap, subst, sym, get_or, get_or-set_other, take}
use Rattle.std.proofs.lemmas.Bool.{or_parts}
use Rattle.std.proofs.lemmas.List.Elements.{All-weaker}
use Rattle.sn_rows.specs.Table.{key_of, same_key}
use Rattle.sn_row_map.specs.RowMaps.{FitsIn, IsSwept}
use Rattle.sn_row_map.proofs.ListLemmas.{all_more, all_read}
use Rattle.sn_row_map.proofs.RowLemmas.{fits_still, keys_kept, made_more, spares_at, tidy_after}
use Rattle.sn_row_map.proofs.row_map.RowMap.set_each.Goals as goal

pub set-went-requires : goal.set-went-requires
set-went-requires c =
    subst (FitsIn c.changes.self) (sym (c.changes.invariant.later c.changes.change-index c.change-item.result (omega arith)) ∙ sym c.replace-made.ensures.value)
    (fits_still _ _ c.changes.invariant.kept _ (c.requires c.changes.change-index c.change-item.result (omega arith)))

pub changes-preserved : goal.changes-preserved
changes-preserved c =
    let i = c.changes.change-index in
    let item = c.change-item.result in
    let made : c.replace-made.result ≡ get_or c.args.changes.now i item = c.replace-made.ensures.value ∙ c.changes.invariant.later i item (omega arith) in
    record {
      rows = made_more _ _ _ c.args.changes.now i item c.replace-made.result (omega arith) made c.changes.invariant.rows c.set-went.ensures.rows;
      kept = λ key h. c.set-went.ensures.kept key (c.changes.invariant.kept key h);
      others = λ key spared h.
          c.set-went.ensures.others key (ap (λ change. same_key (key_of change) key) made ∙ spares_at key c.args.changes.now i item (omega arith) spared)
          (c.changes.invariant.others key spared h);
      swept = λ none.
          let neither : (c.changes.removed || c.set-went.result) ≡ false = cc in
          let both = or_parts c.changes.removed c.set-went.result neither in
          let filled = c.set-went.ensures.filled both.1 in
          all_more (λ change. IsSwept c.set-went.new.self (key_of change)) c.args.changes.now i c.replace-made.result item (omega arith) made
          (All-weaker (λ change. IsSwept c.changes.self (key_of change)) (λ change. IsSwept c.set-went.new.self (key_of change))
          (λ change h. filled.1 (key_of change) h) (take i c.args.changes.now) (c.changes.invariant.swept both.0))
          filled.0;
      still = λ none key h.
          let neither : (c.changes.removed || c.set-went.result) ≡ false = cc in
          let both = or_parts c.changes.removed c.set-went.result neither in
          (c.set-went.ensures.filled both.1).1 key (c.changes.invariant.still both.0 key h);
      keys = keys_kept c.changes.changes i item c.key.result c.replace-made.new.dest (omega arith) c.key.ensures c.replace-made.ensures.after ∙ c.changes.invariant.keys;
      later = λ k d low. let ne : k ≢ i = omega arith in get_or-set_other c.changes.changes i k c.replace-made.new.dest d ne ∙ c.changes.invariant.later k d (omega arith);
    }

pub returns-clause-tidy : goal.returns-clause-tidy
returns-clause-tidy c = λ none.
    tidy_after _ _ c.args.changes.now
    (all_read (λ change. IsSwept c.changes.self (key_of change)) c.args.changes.now c.changes.change-index (omega arith) (c.changes.invariant.swept none))
    (c.changes.invariant.still none)
