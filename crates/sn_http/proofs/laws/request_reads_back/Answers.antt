use Rattle.sn_http.proofs.ReadBack as back
use Rattle.sn_http.proofs.laws.request_reads_back.Goals as goal

pub returns : goal.returns
returns c = back.request_reads_back
