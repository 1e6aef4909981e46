use Rattle.std.proofs.Common.{subst, sym}
use Rattle.sn_cli.proofs.ShownLemmas.{with_bytes}
use Rattle.sn_cli.proofs.showing.lines.Goals as goal
use Rattle.sn_string.specs.Base64.{IsBase64}
use Rattle.sn_string.specs.Parts.{reading_of}

pub returns : goal.returns
returns c =
    let part = c.args.parts.now.ciphertext.now in
    with_bytes c.lines_of.result part c.deref.result.now (reading_of c.args.parts.now)
    (subst (IsBase64 part) (sym c.deref.ensures.value) c.in_ok-bytes.ensures) c.lines_of.ensures
