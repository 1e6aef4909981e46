use Rattle.std.proofs.Common.{◌∙◌, sym}
use Rattle.sn_rekey.proofs.RekeyLemmas.{Places, has_open, rekeys}
use Rattle.sn_sets.proofs.Facts.{later_again}
use Rattle.sn_rekey.proofs.rekeying.rekey_item.Goals as goal

pub returns-in_err-latest-clause-words : goal.returns-in_err-latest-clause-words
returns-in_err-latest-clause-words c =
    later_again c.args.words.now c.rewrap_place.new.words c.rewrap_place-2.new.words c.rewrap_place.ensures.words c.rewrap_place-2.ensures.words

pub returns-in_err-posted-clause-words : goal.returns-in_err-posted-clause-words
returns-in_err-posted-clause-words c =
    later_again c.args.words.now c.rewrap_place.new.words c.rewrap_place-3.new.words c.rewrap_place.ensures.words
    (later_again c.rewrap_place.new.words c.rewrap_place-2.new.words c.rewrap_place-3.new.words c.rewrap_place-2.ensures.words c.rewrap_place-3.ensures.words)

pub returns-in_err-item-clause-words : goal.returns-in_err-item-clause-words
returns-in_err-item-clause-words c =
    later_again c.args.words.now c.rewrap_place.new.words c.rewrap_place-3.new.words c.rewrap_place.ensures.words
    (later_again c.rewrap_place.new.words c.rewrap_place-2.new.words c.rewrap_place-3.new.words c.rewrap_place-2.ensures.words c.rewrap_place-3.ensures.words)

pub returns-clause-words : goal.returns-clause-words
returns-clause-words c =
    later_again c.args.words.now c.rewrap_place.new.words c.rewrap_place-3.new.words c.rewrap_place.ensures.words
    (later_again c.rewrap_place.new.words c.rewrap_place-2.new.words c.rewrap_place-3.new.words c.rewrap_place-2.ensures.words c.rewrap_place-3.ensures.words)

pub returns-clause-some : goal.returns-clause-some
returns-clause-some c =
    let sets = c.args.sets.now in
    let set = c.args.set.now in
    let local = c.args.local.now in
    let places : Places sets set c.args.words.now local c.in_ok-body.body c.in_ok-latest.latest c.in_ok-posted.posted c.rewrap_place-3.new.words = record {
      second = c.rewrap_place.new.words;
      body_is = c.in_ok-body.ensures.ok;
      third = c.rewrap_place-2.new.words;
      latest_is = c.in_ok-latest.ensures.ok;
      posted_is = c.in_ok-posted.ensures.ok;
    } in (
      has_open sets set c.args.words.now local c.in_ok-body.body c.in_ok-latest.latest c.in_ok-posted.posted c.rewrap_place-3.new.words
          (sym c.any.ensures ∙ c.if-not-any.false) places,
      rekeys sets set c.args.words.now local c.in_ok-item.item c.in_ok-body.body c.in_ok-latest.latest c.in_ok-posted.posted c.rewrap_place-3.new.words
          places c.in_ok-item.ensures,
    )
