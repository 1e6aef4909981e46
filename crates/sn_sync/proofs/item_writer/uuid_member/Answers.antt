use Rattle.std.proofs.Common.{◌≡◌, ◌∙◌, ap}
use Rattle.uuid.specs.Text.{hyphenated_text, lower}
use Rattle.sn_string.specs.Uuids.{uuid_text}
use Rattle.sn_sync.proofs.Appending.{◌>>◌, Appends-one, ends_with}
use Rattle.sn_sync.proofs.item_writer.uuid_member.Goals as goal

pub returns : goal.returns
returns c =
    let same : c.encode_lower-text.result.now ≡ uuid_text c.args.uuid =
    c.encode_lower-text.ensures.text ∙ ap (hyphenated_text lower) c.hyphenated.ensures in
    let last = rw same at c.string.ensures in
    ends_with last (λ end. Appends-one c.in_ok-key.ensures >> end)
