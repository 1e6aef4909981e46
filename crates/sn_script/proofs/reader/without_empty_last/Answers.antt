use Rattle.std.proofs.Common.{◌∙◌}
use Rattle.sn_script.proofs.Lists.{map-take}
use Rattle.sn_script.proofs.reader.without_empty_last.Goals as goal

pub returns : goal.returns
returns c = map-take (λ t. t.now) c.kept.result c.args.texts.now ∙ c.kept.ensures.kept
