use Rattle.sn_http.proofs.Unique as unique
use Rattle.sn_http.proofs.laws.one_message.Goals as goal

pub returns : goal.returns
returns c = unique.one_message
