use Rattle.sn_link.proofs.Facts.{ReadLaws}
use Rattle.sn_recorder.proofs.Fating.{agains_have_fates}
use Rattle.sn_recorder.proofs.laws.agains_have_fates.Goals as goal

pub returns : goal.returns
returns c =
    let laws : ReadLaws = record {
      written = c.request_reads_back.ensures;
      one_message = c.one_message.ensures;
      no_check = c.no_message_where_check.ensures;
      said = c.requests_read_back.ensures;
      one_request = c.one_request.ensures;
      not_refused = c.requests_not_refused.ensures;
    } in
    agains_have_fates laws
