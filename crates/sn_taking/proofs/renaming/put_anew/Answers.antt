use Rattle.std.proofs.Common.{List, ℕ, subst}
use Rattle.sn_sets.proofs.Facts.{later_again}
use Rattle.sn_device.specs.Sending.{PutsColumns}
use Rattle.sn_device.specs.Taking.{new_columns}
use Rattle.sn_taking.proofs.renaming.put_anew.Goals as goal

pub returns-in_err-strings-clause-words : goal.returns-in_err-strings-clause-words
returns-in_err-strings-clause-words c =
    later_again c.args.words.now c.draw_fresh.new.words c.seal_strings.new.words c.draw_fresh.ensures.words c.seal_strings.ensures.words

pub returns-in_err-put_new-clause-words : goal.returns-in_err-put_new-clause-words
returns-in_err-put_new-clause-words c =
    later_again c.args.words.now c.draw_fresh.new.words c.seal_strings.new.words c.draw_fresh.ensures.words c.seal_strings.ensures.words

pub returns-clause-ok : goal.returns-clause-ok
returns-clause-ok c = record {
  uuid = c.in-Ok.uuid;
  rest = c.draw_fresh.new.words;
  fresh = c.in-Ok.ensures.ok;
  strings = c.in_ok-strings.strings;
  seals = c.in_ok-strings.ensures.sealed;
  puts = subst (λ (k : List ℕ). PutsColumns c.in_ok-put_new.field-0 c.args.number (new_columns c.in-Ok.uuid k c.in_ok-strings.strings)) c.as_str.ensures
      c.in_ok-put_new.ensures;
}

pub returns-clause-words : goal.returns-clause-words
returns-clause-words c =
    later_again c.args.words.now c.draw_fresh.new.words c.seal_strings.new.words c.draw_fresh.ensures.words c.seal_strings.ensures.words
