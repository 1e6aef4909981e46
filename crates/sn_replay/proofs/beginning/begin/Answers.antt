use Rattle.std.proofs.Common.{None, List, Option, ap, ◌∙◌}
use Rattle.sn_course.specs.Settings.{words_of}
use Rattle.sn_rows.specs.Table.{row_after}
use Rattle.sn_rows.specs.declared.change.Change.{Change}
use Rattle.sn_rows.specs.declared.value.Value.{Value}
use Rattle.sn_replay.proofs.Beginnings.{begins_with}
use Rattle.sn_replay.proofs.beginning.begin.Goals as goal

pub returns : goal.returns
returns c =
    let at = c.args.at.now in
    begins_with c.holds_first.ensures c.all_fit_first.ensures c.each_fits.ensures c.steps_stay_sound.ensures (words_of at.settings at.number) c.line_words-words.result c.begin.new.words
    c.line_words-words.ensures c.in_ok-ends.field-0 c.in_ok-ends.ensures.begun
    (record { labels = c.new.result; names = c.new-2.result; server = c.add_all.new.self; devices = c.new-3.result; requests = c.new-4.result }) c.new.ensures c.new-2.ensures
    (λ key. c.in_ok-add_all.ensures.rows key ∙ ap (λ (found : Option Value). row_after found key c.into_vec.result.items) (c.new-server.ensures.empty key)
    ∙ ap (λ (cs : List Change). row_after None key cs) c.into_vec.ensures)
    c.new-3.ensures c.new-4.ensures
