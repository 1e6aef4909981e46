use Rattle.std.proofs.Common.{◌≡◌, ◌∙◌, ◌++◌, ap, string_bytes, subst, sym}
use Rattle.std.specs.Str.{IsUtf8}
use Rattle.json.specs.Print.{print}
use Rattle.sn_sync.proofs.Outlines.{IsJsonOf-tokens}
use Rattle.sn_sync.proofs.json_texts.written_text.Goals as goal

pub from_utf8_unchecked-requires : goal.from_utf8_unchecked-requires
from_utf8_unchecked-requires c =
    let printed : c.into_inner.result.items ≡ print c.args.out.tokens =
    c.into_inner.ensures.items ∙ ap (λ before. before ++ print c.args.out.tokens) c.requires in
    subst IsUtf8 (sym printed) c.into_inner.ensures.utf8

pub returns : goal.returns
returns c = λ d readable is.
    let printed : string_bytes c.from_utf8_unchecked.result ≡ print c.args.out.tokens =
    ap (λ bytes. bytes.items) c.from_utf8_unchecked.ensures.value ∙ c.into_inner.ensures.items ∙ ap (λ before. before ++ print c.args.out.tokens) c.requires in
    IsJsonOf-tokens d c.args.out.tokens (string_bytes c.from_utf8_unchecked.result) readable is printed c.into_inner.ensures.reads_back c.into_inner.ensures.utf8
