use Rattle.std.proofs.Common.{subst, sym}
use Rattle.sn_items.specs.declared.sealed.Sealed.{Sealed}
use Rattle.sn_rekey.specs.Rewraps.{RewrapsItem}
use Rattle.sn_rekey.proofs.RewrapLemmas.{opens_not, refusal_draws_none}
use Rattle.sn_rekey.proofs.RowLemmas.{fits_row}
use Rattle.sn_rekey.proofs.rewrapping.rewrap_under.Goals as goal

pub row_strings-requires-clause-content : goal.row_strings-requires-clause-content
row_strings-requires-clause-content c =
    (fits_row c.args.from.now c.args.to.now c.args.words.now c.args.uuid c.requires.0 c.args.sealed.now c.in-Ok.again c.rewrap.new.words c.requires.1 c.in-Ok.ensures.ok).0

pub row_strings-requires-clause-enc : goal.row_strings-requires-clause-enc
row_strings-requires-clause-enc c =
    (fits_row c.args.from.now c.args.to.now c.args.words.now c.args.uuid c.requires.0 c.args.sealed.now c.in-Ok.again c.rewrap.new.words c.requires.1 c.in-Ok.ensures.ok).1

pub returns-in-Ok-clause-some : goal.returns-in-Ok-clause-some
returns-in-Ok-clause-some c =
    subst (λ (s : Sealed). RewrapsItem c.args.from.now c.args.to.now c.args.words.now c.args.uuid c.args.sealed.now s c.rewrap.new.words)
    (sym c.row_strings.ensures) c.in-Ok.ensures.ok

pub returns-in_ok-refused-in-Err-clause-none : goal.returns-in_ok-refused-in-Err-clause-none
returns-in_ok-refused-in-Err-clause-none c = (
  opens_not c.args.sealed.now c.args.uuid c.args.from.now _ _ c.in-Err.ensures.err c.in_ok-refused-in-Err.ensures,
  refusal_draws_none c.args.words.now _ c.rewrap.new.words c.in-Err.ensures.refused c.in_ok-refused-in-Err.ensures,
)
