use Rattle.serde_json.specs.View.{view}
use Rattle.sn_sync.proofs.Shapes.{IsJsonOf-written}
use Rattle.sn_sync.proofs.json_texts.json_text.Goals as goal

pub returns : goal.returns
returns c =
    IsJsonOf-written (view c.args.value.now) c.to_string.result c.requires.whole c.requires.shallow c.to_string.ensures.text c.to_string.ensures.reads_back
