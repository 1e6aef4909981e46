use Rattle.sn_link.proofs.Facts.{HearLaws}
use Rattle.sn_recorder.proofs.Fating.{exchanges_have_fates}
use Rattle.sn_recorder.proofs.laws.exchanges_have_fates.Goals as goal

pub returns : goal.returns
returns c =
    let laws : HearLaws = record {
      read = record {
        written = c.request_reads_back.ensures;
        one_message = c.one_message.ensures;
        no_check = c.no_message_where_check.ensures;
        said = c.requests_read_back.ensures;
        one_request = c.one_request.ensures;
        not_refused = c.requests_not_refused.ensures;
      };
      answers = c.answers_read_back.ensures;
      one_answer = c.one_answer.ensures;
      fit = c.answers_fit.ensures;
      sound = c.stays_sound.ensures;
    } in
    exchanges_have_fates laws
