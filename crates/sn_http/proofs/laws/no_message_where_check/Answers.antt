use Rattle.sn_http.proofs.Unique as unique
use Rattle.sn_http.proofs.laws.no_message_where_check.Goals as goal

pub returns : goal.returns
returns c = unique.no_message_where_check
