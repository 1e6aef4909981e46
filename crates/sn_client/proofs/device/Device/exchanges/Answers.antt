use Rattle.std.proofs.Common.{arith, ◌+◌, ◌∙◌, Bool, true, false, None, refl, subst}
use Rattle.std.specs.List.{flat_map}
use Rattle.std.proofs.lemmas.Bool.{false≢true}
use Rattle.sn_table.specs.Kept.{Kept}
use Rattle.sn_sets.proofs.Facts.{later_again, later_at_once}
use Rattle.sn_client.specs.Calls.{device_disk}
use Rattle.sn_device.specs.Runs.{acts_of}
use Rattle.sn_device.specs.States.{Bytes}
use Rattle.sn_client.specs.Syncing.{AppliesOne, EndsOne, IsOpenSince, MayHaveSince}
use Rattle.sn_client.specs.declared.called.Called.TheVariants as called
use Rattle.sn_device.specs.declared.error.ClientError.TheVariants as refusal
use Rattle.sn_client.proofs.KeepLemmas.{keeps_on}
use Rattle.sn_client.proofs.Moments.{applies_as, ends_one_as, may_on, open_on, still_open}
use Rattle.sn_client.proofs.SyncLemmas.{done_more, due_more, ends_by, ends_done, ends_used, kept_now, made_more, sets_out, stood}
use Rattle.sn_client.proofs.device.Device.exchanges.Goals as goal

pub exchanges-init : goal.exchanges-init
exchanges-init g c = record {
  runs = λ kept opens. (
    None,
    sets_out (IsOpenSince c.args.self kept) c.args.made kept c.args.words.now (g.L.Link.aimed c.args.link.now) (g.L.Link.asks c.args.link.now c.args.link.now) c.args.self
        (g.met.L.Link.asking.none c.args.link.now)
        (still_open c.args.self c.args.self kept refl g.met.D.Disk.only_now opens opens),
    tt,
  );
  within = c.requires.few;
  sound = c.requires.sound;
  owned = c.requires.owned;
  none_asked = c.requires.none_asked;
  words = later_at_once c.args.words.now;
  least = refl;
  aimed = refl;
  link_later = omega arith;
  grows = g.met.D.Disk.growing.same (device_disk c.args.self);
  later = omega arith;
}

pub exchanges-preserved : goal.exchanges-preserved
exchanges-preserved g c = record {
  runs = λ kept opens.
      let (last, made, due) = c.exchanges.invariant.runs kept opens in
      let now : Kept = kept_now (IsOpenSince c.args.self kept) c.args.made kept c.args.words.now (g.L.Link.aimed c.args.link.now) (g.L.Link.asks c.args.link.now c.exchanges.link) c.exchanges.words last c.exchanges.device c.exchanges.count made in
      let since : AppliesOne (IsOpenSince c.exchanges.device now) now (stood now c.exchanges.words last) (g.L.Link.aimed c.args.link.now) (g.L.Link.asks c.exchanges.link c.exchange.new.link) c.exchange.new.words c.in-Applied-default-true.next true =
      subst (λ (h : Bytes). AppliesOne (IsOpenSince c.exchanges.device now) now (stood now c.exchanges.words last) h (g.L.Link.asks c.exchanges.link c.exchange.new.link) c.exchange.new.words c.in-Applied-default-true.next true) c.exchanges.invariant.aimed
      (subst (λ (m : Bool). AppliesOne (IsOpenSince c.exchanges.device now) now (stood now c.exchanges.words last) (g.L.Link.aimed c.exchanges.link) (g.L.Link.asks c.exchanges.link c.exchange.new.link) c.exchange.new.words c.in-Applied-default-true.next m) c.in-Applied-default-true.field-1-test
      (c.in-Applied-default-true.ensures.exchanged now last made.stands.opens due)) in
      let one : AppliesOne (IsOpenSince c.args.self kept) now (stood now c.exchanges.words last) (g.L.Link.aimed c.args.link.now) (g.L.Link.asks c.exchanges.link c.exchange.new.link) c.exchange.new.words c.in-Applied-default-true.next true =
      applies_as (IsOpenSince c.exchanges.device now) (IsOpenSince c.args.self kept) now
      (open_on c.args.self c.exchanges.device kept (flat_map acts_of made.rounds) made.stands)
      (stood now c.exchanges.words last) (g.L.Link.aimed c.args.link.now) (g.L.Link.asks c.exchanges.link c.exchange.new.link) c.exchange.new.words c.in-Applied-default-true.next true since in
      let more = made_more (IsOpenSince c.args.self kept) c.args.made kept c.args.words.now (g.L.Link.aimed c.args.link.now) (g.L.Link.asks c.args.link.now c.exchanges.link) (g.L.Link.asks c.exchanges.link c.exchange.new.link) (g.L.Link.asks c.args.link.now c.exchange.new.link) c.exchanges.words c.exchange.new.words last c.exchanges.device c.in-Applied-default-true.next true c.exchanges.count made (λ xs ys x y. g.met.L.Link.asking.more c.args.link.now c.exchanges.link c.exchange.new.link xs ys x y) one in
      (one.after.last, more.0, due_more (IsOpenSince c.args.self kept) c.args.made kept c.args.words.now (g.L.Link.aimed c.args.link.now) (g.L.Link.asks c.args.link.now c.exchanges.link) (g.L.Link.asks c.exchanges.link c.exchange.new.link) (g.L.Link.asks c.args.link.now c.exchange.new.link) c.exchanges.words c.exchange.new.words last c.exchanges.device c.in-Applied-default-true.next true c.exchanges.count made (λ xs ys x y. g.met.L.Link.asking.more c.args.link.now c.exchanges.link c.exchange.new.link xs ys x y) one refl);
  within = omega (arith, c.exchanges-test.true);
  sound = c.in-Applied-default-true.ensures.device.sound;
  owned = c.in-Applied-default-true.ensures.owned;
  none_asked = c.in-Applied-default-true.ensures.none_asked c.exchanges.invariant.none_asked;
  words = later_again c.args.words.now c.exchanges.words c.exchange.new.words c.exchanges.invariant.words c.exchange.ensures.words;
  least = c.in-Applied-default-true.ensures.device.least ∙ c.exchanges.invariant.least;
  aimed = c.exchange.ensures.aimed ∙ c.exchanges.invariant.aimed;
  link_later = omega (arith, c.exchanges.invariant.link_later, c.exchange.ensures.link_later);
  grows = g.met.D.Disk.growing.on (device_disk c.args.self) (device_disk c.exchanges.device) (device_disk c.in-Applied-default-true.next) c.exchanges.invariant.grows
      c.in-Applied-default-true.ensures.device.grows;
  later = omega (arith, c.exchanges.invariant.later, c.in-Applied-default-true.ensures.device.later);
}

pub returns-in-Applied-default-false-clause-went : goal.returns-in-Applied-default-false-clause-went
returns-in-Applied-default-false-clause-went g c = λ kept opens.
    let (last, made, due) = c.exchanges.invariant.runs kept opens in
    let now : Kept = kept_now (IsOpenSince c.args.self kept) c.args.made kept c.args.words.now (g.L.Link.aimed c.args.link.now) (g.L.Link.asks c.args.link.now c.exchanges.link) c.exchanges.words last c.exchanges.device c.exchanges.count made in
    let since : AppliesOne (IsOpenSince c.exchanges.device now) now (stood now c.exchanges.words last) (g.L.Link.aimed c.args.link.now) (g.L.Link.asks c.exchanges.link c.exchange.new.link) c.exchange.new.words c.in-Applied-default-false.next false =
    subst (λ (h : Bytes). AppliesOne (IsOpenSince c.exchanges.device now) now (stood now c.exchanges.words last) h (g.L.Link.asks c.exchanges.link c.exchange.new.link) c.exchange.new.words c.in-Applied-default-false.next false) c.exchanges.invariant.aimed
    (subst (λ (m : Bool). AppliesOne (IsOpenSince c.exchanges.device now) now (stood now c.exchanges.words last) (g.L.Link.aimed c.exchanges.link) (g.L.Link.asks c.exchanges.link c.exchange.new.link) c.exchange.new.words c.in-Applied-default-false.next m) c.in-Applied-default-false.field-1-test
    (c.in-Applied-default-false.ensures.exchanged now last made.stands.opens due)) in
    let one : AppliesOne (IsOpenSince c.args.self kept) now (stood now c.exchanges.words last) (g.L.Link.aimed c.args.link.now) (g.L.Link.asks c.exchanges.link c.exchange.new.link) c.exchange.new.words c.in-Applied-default-false.next false =
    applies_as (IsOpenSince c.exchanges.device now) (IsOpenSince c.args.self kept) now
    (open_on c.args.self c.exchanges.device kept (flat_map acts_of made.rounds) made.stands)
    (stood now c.exchanges.words last) (g.L.Link.aimed c.args.link.now) (g.L.Link.asks c.exchanges.link c.exchange.new.link) c.exchange.new.words c.in-Applied-default-false.next false since in
    let more = made_more (IsOpenSince c.args.self kept) c.args.made kept c.args.words.now (g.L.Link.aimed c.args.link.now) (g.L.Link.asks c.args.link.now c.exchanges.link) (g.L.Link.asks c.exchanges.link c.exchange.new.link) (g.L.Link.asks c.args.link.now c.exchange.new.link) c.exchanges.words c.exchange.new.words last c.exchanges.device c.in-Applied-default-false.next false c.exchanges.count made (λ xs ys x y. g.met.L.Link.asking.more c.args.link.now c.exchanges.link c.exchange.new.link xs ys x y) one in
    let done = done_more (IsOpenSince c.args.self kept) c.args.made kept c.args.words.now (g.L.Link.aimed c.args.link.now) (g.L.Link.asks c.args.link.now c.exchanges.link) (g.L.Link.asks c.exchanges.link c.exchange.new.link) (g.L.Link.asks c.args.link.now c.exchange.new.link) c.exchanges.words c.exchange.new.words last c.exchanges.device c.in-Applied-default-false.next false c.exchanges.count made (λ xs ys x y. g.met.L.Link.asking.more c.args.link.now c.exchanges.link c.exchange.new.link xs ys x y) one (λ is. false≢true is) in
    ends_done (IsOpenSince c.args.self kept) c.args.made kept c.args.words.now (g.L.Link.aimed c.args.link.now) (g.L.Link.asks c.args.link.now c.exchange.new.link) c.exchange.new.words one.after.last c.in-Applied-default-false.next (c.exchanges.count + 1) more.0
    done (omega (arith, c.exchanges-test.true))

pub returns-in-Applied-default-false-clause-device : goal.returns-in-Applied-default-false-clause-device
returns-in-Applied-default-false-clause-device g c =
    keeps_on c.args.self c.exchanges.device (called.Refused c.in-Applied-default-false.next refusal.RoundsUsed) g.met.D.Disk.growing c.exchanges.invariant.least
    c.exchanges.invariant.grows c.exchanges.invariant.later c.in-Applied-default-false.ensures.device

pub returns-in-Applied-default-false-clause-owned : goal.returns-in-Applied-default-false-clause-owned
returns-in-Applied-default-false-clause-owned g c = c.in-Applied-default-false.ensures.owned

pub returns-in-Applied-default-false-clause-none_asked : goal.returns-in-Applied-default-false-clause-none_asked
returns-in-Applied-default-false-clause-none_asked g c = c.in-Applied-default-false.ensures.none_asked c.exchanges.invariant.none_asked

pub returns-in-Applied-default-false-clause-words : goal.returns-in-Applied-default-false-clause-words
returns-in-Applied-default-false-clause-words g c =
    later_again c.args.words.now c.exchanges.words c.exchange.new.words c.exchanges.invariant.words c.exchange.ensures.words

pub returns-in-Ended-clause-went : goal.returns-in-Ended-clause-went
returns-in-Ended-clause-went g c = λ kept opens.
    let (last, made, due) = c.exchanges.invariant.runs kept opens in
    let now : Kept = kept_now (IsOpenSince c.args.self kept) c.args.made kept c.args.words.now (g.L.Link.aimed c.args.link.now) (g.L.Link.asks c.args.link.now c.exchanges.link) c.exchanges.words last c.exchanges.device c.exchanges.count made in
    let since : EndsOne (IsOpenSince c.exchanges.device now) (MayHaveSince c.exchanges.device now) now (stood now c.exchanges.words last) (g.L.Link.aimed c.args.link.now) (g.L.Link.asks c.exchanges.link c.exchange.new.link) c.exchange.new.words c.in-Ended.called =
    subst (λ (h : Bytes). EndsOne (IsOpenSince c.exchanges.device now) (MayHaveSince c.exchanges.device now) now (stood now c.exchanges.words last) h (g.L.Link.asks c.exchanges.link c.exchange.new.link) c.exchange.new.words c.in-Ended.called) c.exchanges.invariant.aimed
    (c.in-Ended.ensures.exchanged now last made.stands.opens due) in
    let one : EndsOne (IsOpenSince c.args.self kept) (MayHaveSince c.args.self kept) now (stood now c.exchanges.words last) (g.L.Link.aimed c.args.link.now) (g.L.Link.asks c.exchanges.link c.exchange.new.link) c.exchange.new.words c.in-Ended.called =
    ends_one_as (IsOpenSince c.exchanges.device now) (IsOpenSince c.args.self kept) (MayHaveSince c.exchanges.device now) (MayHaveSince c.args.self kept) now
    (open_on c.args.self c.exchanges.device kept (flat_map acts_of made.rounds) made.stands) (may_on c.args.self c.exchanges.device kept (flat_map acts_of made.rounds) made.stands)
    (stood now c.exchanges.words last) (g.L.Link.aimed c.args.link.now) (g.L.Link.asks c.exchanges.link c.exchange.new.link) c.exchange.new.words c.in-Ended.called since in
    ends_by (IsOpenSince c.args.self kept) (MayHaveSince c.args.self kept) c.args.made kept c.args.words.now (g.L.Link.aimed c.args.link.now) (g.L.Link.asks c.args.link.now c.exchanges.link) c.exchanges.words last c.exchanges.device c.exchanges.count made
    (g.L.Link.asks c.exchanges.link c.exchange.new.link) (g.L.Link.asks c.args.link.now c.exchange.new.link) c.exchange.new.words c.in-Ended.called (λ xs ys x y. g.met.L.Link.asking.more c.args.link.now c.exchanges.link c.exchange.new.link xs ys x y) c.exchanges-test.true one

pub returns-in-Ended-clause-device : goal.returns-in-Ended-clause-device
returns-in-Ended-clause-device g c =
    keeps_on c.args.self c.exchanges.device c.in-Ended.called g.met.D.Disk.growing c.exchanges.invariant.least c.exchanges.invariant.grows c.exchanges.invariant.later
    c.in-Ended.ensures.device

pub returns-in-Ended-clause-words : goal.returns-in-Ended-clause-words
returns-in-Ended-clause-words g c =
    later_again c.args.words.now c.exchanges.words c.exchange.new.words c.exchanges.invariant.words c.exchange.ensures.words

pub returns-clause-went : goal.returns-clause-went
returns-clause-went g c = λ kept opens.
    let (last, made, due) = c.exchanges.invariant.runs kept opens in
    ends_used {T = Unit {0}} (IsOpenSince c.args.self kept) (MayHaveSince c.args.self kept) c.args.made kept c.args.words.now (g.L.Link.aimed c.args.link.now) (g.L.Link.asks c.args.link.now c.exchanges.link) c.exchanges.words last c.exchanges.device c.exchanges.count made due
    (omega (arith, c.exchanges-test.false, c.exchanges.invariant.within))
