use Rattle.std.proofs.Common.{◌≡◌, Some, ap, ◌∙◌}
use Rattle.std.specs.Prelude.{string_bytes}
use Rattle.sn_shown.proofs.OpenedItems.{none_given, one_text, only_memory}
use Rattle.sn_shown.proofs.opening.opened.Goals as goal

pub returns-in-Ok : goal.returns-in-Ok
returns-in-Ok c = λ text opens.
    ap (λ t. Some t) (c.of_string.ensures
    ∙ one_text c.args.content.now c.args.enc.now c.in_ok-content.content c.in_ok-enc.enc c.args.uuid.now text c.args.set.now c.in_ok-content.ensures
    c.in_ok-enc.ensures opens (string_bytes c.in-Ok.text) c.in-Ok.ensures.ok)

pub returns : goal.returns
returns c = λ text opens.
    let memory = only_memory c.args.content.now c.args.enc.now c.in_ok-content.content c.in_ok-enc.enc c.args.uuid.now text c.args.set.now
    c.in_ok-content.ensures c.in_ok-enc.ensures opens c.in-Err.field-0-0 c.in-Err.error c.in-Err.ensures.err in
    none_given c.not_opened.result (λ found. found ≡ Some text) (c.not_opened.ensures memory)
