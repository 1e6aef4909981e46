use Rattle.sn_http.proofs.ReadBack as back
use Rattle.sn_http.proofs.laws.answer_reads_back.Goals as goal

pub returns : goal.returns
returns c = back.answer_reads_back
