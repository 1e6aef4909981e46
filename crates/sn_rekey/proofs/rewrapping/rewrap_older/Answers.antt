use Rattle.std.proofs.Common.{refl, subst}
use Rattle.sn_items.specs.declared.sealed.Sealed.{Sealed}
use Rattle.sn_rekey.specs.Rewraps.{OpensNotOlder}
use Rattle.sn_rekey.proofs.RewrapLemmas.{opens_not}
use Rattle.sn_rekey.proofs.RowLemmas.{none_of_row, not_older_of_row, present_not_older}
use Rattle.sn_sets.specs.Sets.{sealed_of}
use Rattle.sn_rekey.proofs.rewrapping.rewrap_older.Goals as goal

pub returns-in-Ok-clause-none : goal.returns-in-Ok-clause-none
returns-in-Ok-clause-none c = (
  subst (λ (s : Sealed). OpensNotOlder c.args.sets.now c.args.uuid s) c.in_ok-sealed.ensures
      (present_not_older c.args.sets.now c.args.uuid c.in_ok-sealed.sealed c.in-Ok.ensures.ok.0 c.in-Ok.ensures.ok.1),
  refl,
)

pub rewrap_under_older-requires-clause-of_row : goal.rewrap_under_older-requires-clause-of_row
rewrap_under_older-requires-clause-of_row c = (c.args.strings.now, c.in_ok-sealed.ensures)

pub rewrap_under_older-requires-clause-closed : goal.rewrap_under_older-requires-clause-closed
rewrap_under_older-requires-clause-closed c =
    opens_not c.in_ok-sealed.sealed c.args.uuid c.args.sets.now.present _ c.in-Err.error c.in-Err.ensures.err c.in_ok-refused-in-Err.ensures

pub returns-clause-none : goal.returns-clause-none
returns-clause-none c =
    not_older_of_row c.rewrap_under_older.result c.args.sets.now c.args.words.now c.args.uuid (sealed_of c.args.strings.now) c.rewrap_under_older.new.words
    (none_of_row c.rewrap_under_older.result c.args.sets.now c.args.words.now c.args.words.now c.args.uuid c.in_ok-sealed.sealed (sealed_of c.args.strings.now)
    c.rewrap_under_older.new.words refl c.in_ok-sealed.ensures c.rewrap_under_older.ensures.none)
