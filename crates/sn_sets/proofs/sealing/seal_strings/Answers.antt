use Rattle.std.specs.Prelude.{IsSome}
use Rattle.sn_sets.proofs.LaterLemmas.{later_drawn}
use Rattle.sn_sets.proofs.SealedLemmas.{fits_device}
use Rattle.sn_sets.proofs.sealing.seal_strings.Goals as goal

pub returns-in_err-sealed-clause-words : goal.returns-in_err-sealed-clause-words
returns-in_err-sealed-clause-words c =
    let drawn = c.seal_item.ensures.sealed in
    later_drawn c.args.words.now drawn.0 drawn.1 drawn.2 c.seal_item.new.words drawn.3

pub returns-clause-words : goal.returns-clause-words
returns-clause-words c =
    let drawn = c.seal_item.ensures.sealed in
    later_drawn c.args.words.now drawn.0 drawn.1 drawn.2 c.seal_item.new.words drawn.3

pub unreachable-requires : goal.unreachable-requires
unreachable-requires c =
    let sealed = c.in_ok-sealed.sealed in
    let fits = fits_device sealed c.args.uuid c.args.set.now c.args.content.now c.in_ok-sealed.ensures.opens c.requires.short in
    let some : IsSome c.new.result = c.new.ensures.within.1 fits in
    let none = rw c.in-None.is at some in
    cc
