use Rattle.std.proofs.Common.{◌≤◌, length, refl, sym, ◌∙◌, ap, subst, arith, length-append}
use Rattle.std.proofs.KnownBytes.{Keeps-refl, Keeps-trans}
use Rattle.sn_http.specs.Heads.{HasNoHead, NeverHasHead}
use Rattle.sn_http.proofs.Finding.{no_less, blank_front, blank_on, not_full, positive, headless_over, none_in_nothing, front_length, seen_in_front, longer, none_in_front, never_behind, headless, front_whole, seen_on}
use Rattle.sn_http.proofs.message.read_head.Goals as goal

pub reads-init : goal.reads-init
reads-init g c = record {
  kept = Keeps-refl _;
  place = refl;
  within = omega arith;
  ahead = omega arith;
  blank = λ k lt. absurd (no_less k lt);
  fewer = omega arith;
  few = omega arith;
  none = none_in_nothing c.args.carry.now.bytes;
  later = omega arith;
}

pub look-requires-clause-short : goal.look-requires-clause-short
look-requires-clause-short g c = omega (arith, front_length _ _ c.front-front.ensures)

pub look-requires-clause-seen : goal.look-requires-clause-seen
look-requires-clause-seen g c = omega (arith, front_length _ _ c.front-front.ensures, c.reads.invariant.within, c.reads.invariant.few)

pub look-requires-clause-none : goal.look-requires-clause-none
look-requires-clause-none g c = seen_in_front c.reads.carry.bytes _ c.reads.seen c.front-front.ensures (omega (arith, c.reads.invariant.few)) c.reads.invariant.none

pub returns-in-Never-clause-broken : goal.returns-in-Never-clause-broken
returns-in-Never-clause-broken g c = λ _.
    let never = c.in-Never.ensures.never tt in
    let bytes = c.reads.carry.bytes in
    headless bytes _ (omega (arith, front_length _ _ c.front-front.ensures, never.1)) (λ more. never_behind bytes more (subst NeverHasHead c.front-front.ensures never.0))

pub returns-then-count-eq-HEAD_LIMIT-clause-broken : goal.returns-then-count-eq-HEAD_LIMIT-clause-broken
returns-then-count-eq-HEAD_LIMIT-clause-broken g c = λ _.
    let bytes = c.reads.carry.bytes in
    let full = c.if-count-eq-HEAD_LIMIT.true in
    let long : 16384 ≤ length bytes = omega (arith, front_length _ _ c.front-front.ensures, full) in
    headless bytes _ (omega (arith, long)) (λ more. none_in_front bytes more long (subst HasNoHead c.front-front.ensures (c.in-NotYet.ensures.not_yet tt)))

pub returns-then-branch-eq0-clause-broken : goal.returns-then-branch-eq0-clause-broken
returns-then-branch-eq0-clause-broken g c = λ _.
    let bytes = c.reads.carry.bytes in
    let part = not_full _ bytes c.if-count-eq-HEAD_LIMIT.false c.front-front.ensures in
    let fills = c.in_ok-fill.ensures.fills in
    let none = c.if-branch-eq0.true in
    headless_over bytes _ fills.got c.front-front.result.now _ fills.grown (sym fills.count.0 ∙ none) (fills.count.1 none)
    (positive _ c.if-seen-eq0.false) (front_whole bytes _ c.front-front.ensures part) (c.in-NotYet.ensures.not_yet tt)

pub reads-smaller : goal.reads-smaller
reads-smaller g c =
    let old = c.reads.carry.bytes in
    let fills = c.in_ok-fill.ensures.fills in
    let part = not_full _ old c.if-count-eq-HEAD_LIMIT.false c.front-front.ensures in
    omega (arith, part, front_length _ _ c.front-front.ensures, ap length fills.grown, length-append old fills.got, fills.count.0, positive _ c.if-branch-eq0.false)

pub reads-preserved : goal.reads-preserved
reads-preserved g c =
    let old = c.reads.carry.bytes in
    let fills = c.in_ok-fill.ensures.fills in
    let part = not_full _ old c.if-count-eq-HEAD_LIMIT.false c.front-front.ensures in
    record {
      kept = Keeps-trans _ _ _ c.reads.invariant.kept fills.kept;
      place = c.in_ok-fill.ensures.place ∙ c.reads.invariant.place;
      within = omega (arith, front_length _ _ c.front-front.ensures, ap length fills.grown, length-append old fills.got);
      ahead = omega (arith, ap length fills.grown, length-append old fills.got, fills.most, ap length (front_whole old _ c.front-front.ensures part));
      blank = blank_on old c.fill.new.self.bytes fills.got c.front-front.result.now c.skip_blank-blank.result (front_whole old _ c.front-front.ensures part) fills.grown c.skip_blank-blank.ensures.within c.skip_blank-blank.ensures.blank;
      fewer = c.skip_blank-blank.ensures.within;
      few = part;
      none = seen_on old c.fill.new.self.bytes fills.got c.front-front.result.now c.front-front.ensures part fills.grown (c.in-NotYet.ensures.not_yet tt);
      later = omega (arith, c.reads.invariant.later, c.in_ok-fill.ensures.later);
    }

pub returns-in-Head-clause-ahead : goal.returns-in-Head-clause-ahead
returns-in-Head-clause-ahead g c =
    let at = c.in-Head.ensures.head in
    omega (arith, c.reads.invariant.ahead, at.len, longer c.reads.carry.bytes c.front-front.result.now c.reads.seen at.head _ c.front-front.ensures c.reads.invariant.few c.reads.invariant.none at.begins)

pub skip_blank-blank-requires-clause-known : goal.skip_blank-blank-requires-clause-known
skip_blank-blank-requires-clause-known g c = blank_front c.reads.carry.bytes c.front-front.result.now c.reads.blank c.front-front.ensures (omega (arith, c.reads.invariant.fewer, c.reads.invariant.few)) c.reads.invariant.blank

pub skip_blank-blank-requires-clause-within : goal.skip_blank-blank-requires-clause-within
skip_blank-blank-requires-clause-within g c = omega (arith, front_length _ _ c.front-front.ensures, c.reads.invariant.within, c.reads.invariant.few, c.reads.invariant.fewer)

pub returns-in_err-fill-clause-bounded : goal.returns-in_err-fill-clause-bounded
returns-in_err-fill-clause-bounded g c =
    let old = c.reads.carry.bytes in
    let fills = c.in_err-fill.ensures.fills in
    let part = not_full _ old c.if-count-eq-HEAD_LIMIT.false c.front-front.ensures in
    omega (arith, ap length fills.grown, length-append old fills.got, fills.most, ap length (front_whole old _ c.front-front.ensures part), part)
