use Rattle.std.proofs.Common.{◌≡◌, ◌≤◌, ◌+◌, ◌∙◌, List, ℕ, Option, IfSome, String, Global, ap, subst, arith, length, string_bytes}
use Rattle.std.proofs.lemmas.Result.{IfOk-weaker}
use Rattle.sn_notes.specs.Copies.{copy_of}
use Rattle.sn_row_map.specs.RowMaps.{row_in}
use Rattle.sn_sets.proofs.Facts.{opened_is_short}
use Rattle.sn_taking.specs.Taken.{HasText}
use Rattle.sn_taking.proofs.RenamedLemmas.{copied, copy_short}
use Rattle.sn_device.proofs.Facts.{lengths}
use Rattle.sn_taking.proofs.renaming.copy_draft.Goals as goal

pub put_anew-requires-clause-kind : goal.put_anew-requires-clause-kind
put_anew-requires-clause-kind c = lengths 1 255 c.args.local.now.kind c.args.local.now.kind_fits

pub put_anew-requires-clause-short : goal.put_anew-requires-clause-short
put_anew-requires-clause-short c =
    let local = c.args.local.now in
    let text = string_bytes c.in-Some.text in
    let has : HasText c.args.sets.now local text =
    subst (λ (o : Option (String Global)). IfSome o (λ t. HasText c.args.sets.now local (string_bytes t))) c.in-Some.is c.in_ok-text.ensures.some in
    let strings = has.0 in
    let drafted = has.1 in
    let opens = has.2 in
    let given : length c.deref.result.now ≡ length text = ap length c.deref.ensures in
    let made : length c.deref-2.result.now ≡ length (string_bytes c.in_ok-copy.copy) = ap length c.deref-2.ensures in
    let bound : length c.deref-2.result.now ≤ length text + 53 = omega (arith, given, made, c.in_ok-copy.ensures.bound) in
    copy_short text c.deref-2.result.now local.uuid (opened_is_short c.args.sets.now local.uuid strings text opens)
    (c.deref-2.ensures ∙ c.in_ok-copy.ensures.copy ∙ ap (λ (t : List ℕ). copy_of t local.uuid) c.deref.ensures) bound

pub returns-clause-ok : goal.returns-clause-ok
returns-clause-ok c =
    let local = c.args.local.now in
    let text = string_bytes c.in-Some.text in
    let has : HasText c.args.sets.now local text =
    subst (λ (o : Option (String Global)). IfSome o (λ t. HasText c.args.sets.now local (string_bytes t))) c.in-Some.is c.in_ok-text.ensures.some in
    let strings = has.0 in
    let drafted = has.1 in
    let opens = has.2 in
    IfOk-weaker c.put_anew.result _ _
    (λ change put.
    copied c.args.sets.now (row_in c.args.rows.now) c.args.taken.now c.args.words.now c.as_slice-changes.result.now local strings text c.deref-2.result.now change
    c.put_anew.new.words c.as_slice-changes.ensures drafted opens c.if-taken.false
    (c.deref-2.ensures ∙ c.in_ok-copy.ensures.copy ∙ ap (λ (t : List ℕ). copy_of t local.uuid) c.deref.ensures) put)
    c.put_anew.ensures.ok
