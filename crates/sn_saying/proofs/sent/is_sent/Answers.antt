use Rattle.std.proofs.Common.{◌≡◌, ℕ, Option, Some, None, ap, refl, subst, sym}
use Rattle.std.proofs.lemmas.Bool.{iff_false}
use Rattle.std.specs.Option.{option_copied}
use Rattle.sn_row_map.specs.Steps.{lent}
use Rattle.sn_rows.specs.declared.key.Key.{Key}
use Rattle.sn_rows.specs.declared.kind.RowKind.TheVariants as kind
use Rattle.sn_rows.specs.declared.value.Value.{Value}
use Rattle.sn_saying.specs.Sent.{IsSentAt}
use Rattle.sn_saying.proofs.SentLemmas.{sent_here, sent_nowhere}
use Rattle.sn_saying.proofs.WalkLemmas.{walk_begins, walk_ends, walk_goes_on, walk_shorter}
use Rattle.sn_saying.proofs.sent.is_sent.Goals as goal

pub items-init : goal.items-init
items-init c =
    walk_begins (IsSentAt c.stamp_in-base.result c.args.uuid c.args.row.now) c.args.device.now kind.Local (lent c.first-local.result)
    c.first-local.ensures.walk c.first-local.ensures.first

pub returns-then-is_sent_at : goal.returns-then-is_sent_at
returns-then-is_sent_at c =
    let found : lent c.items.local ≡ Some (c.in-Some.key.now, c.in-Some.value.now) = ap lent c.in-Some.is in
    let base = c.stamp_in-base.ensures in
    let At : Option ℕ → Type 0 = λ b. IsSentAt b c.args.uuid c.args.row.now c.in-Some.key.now c.in-Some.value.now in (
      λ _. sent_here (option_copied c.args.found) c.args.device.now c.args.uuid c.args.row.now c.in-Some.key.now c.in-Some.value.now
          (c.items.invariant.stands c.in-Some.key.now c.in-Some.value.now found) (subst At base (c.is_sent_at.ensures.0 c.if-is_sent_at.true)),
      λ _. refl,
    )

pub items-preserved : goal.items-preserved
items-preserved c =
    let found : lent c.items.local ≡ Some (c.in-Some.key.now, c.in-Some.value.now) = ap lent c.in-Some.is in
    walk_goes_on (IsSentAt c.stamp_in-base.result c.args.uuid c.args.row.now) c.args.device.now kind.Local c.in-Some.key.now c.in-Some.value.now
    (lent c.items.local) (lent c.next_after-local.result) c.items.invariant found (iff_false c.is_sent_at.ensures c.if-is_sent_at.false)
    c.next_after-local.ensures.walk c.next_after-local.ensures.next

pub items-smaller : goal.items-smaller
items-smaller c =
    let found : lent c.items.local ≡ Some (c.in-Some.key.now, c.in-Some.value.now) = ap lent c.in-Some.is in
    walk_shorter c.args.device.now c.in-Some.key.now c.in-Some.value.now (lent c.items.local) (lent c.next_after-local.result) found
    c.next_after-local.ensures.walk

pub returns : goal.returns
returns c =
    let none : lent c.items.local ≡ None = ap lent c.in_default.is in
    let At : Option ℕ → Key → Value → Type 0 = λ b k v. IsSentAt b c.args.uuid c.args.row.now k v in (
      λ wrong. absurd cc,
      λ sent. absurd (sent_nowhere (option_copied c.args.found) c.args.device.now c.args.uuid c.args.row.now
          (λ k v of stands so.
          walk_ends (At c.stamp_in-base.result) c.args.device.now kind.Local (lent c.items.local) c.items.invariant c.first-local.ensures.rows none k v of stands
          (subst (λ (b : Option ℕ). At b k v) (sym c.stamp_in-base.ensures) so)) sent),
    )
