use Rattle.std.proofs.Common.{◌-◌, Bor, List, ℕ, [], drop, length, map, subst, sym, take}
use Rattle.sn_script.specs.Grammar.{AreLosses, IsEntry}
use Rattle.sn_script.specs.declared.commands.Entry.{Entry}
use Rattle.sn_script.specs.declared.script.Fate.{Fate}
use Rattle.sn_script.proofs.CommandFacts.{three_words}
use Rattle.sn_script.proofs.Ordinals.{present}
use Rattle.sn_script.proofs.commands.entry_of.Goals as goal

pub returns-in_ok-make_entry-in-Some : goal.returns-in_ok-make_entry-in-Some
returns-in_ok-make_entry-in-Some c =
    let words = c.args.words.now in
    let d : Bor (List ℕ) = record { ref_ptr = (0, 0); now = [] } in
    let rest : List (List ℕ) = map (λ w. w.now) (take (length words - 3) (drop 3 words)) in
    let short = c.are_short.ensures.0 c.if-not-are_short.false in
    subst (λ (e : Entry). IsEntry (map (λ w. w.now) words) e.device e.identifier e.password e.fates) (sym c.in_ok-make_entry-in-Some.ensures)
    (record {
      losses = rest;
      words_are = three_words (λ w. w.now) words d c.in-len3-up.len_at_least;
      named = c.is_name.ensures.0 c.if-not-is_name.false;
      identified = short.0;
      known = short.1;
      lost = present ((fates : List Fate) → ¬ (AreLosses rest fates)) (AreLosses rest) c.in_ok-fates.field-0 c.in-Some.fates c.in_ok-fates.ensures
          c.in-Some.is;
    })
