use Rattle.sn_link.specs.Deliveries.{serves}
use Rattle.sn_link.specs.Links.{link_losses, link_now, link_number}
use Rattle.sn_link.proofs.Batches.{agrees_asked}
use Rattle.sn_link.proofs.Serving.{HearLaws, all_leave}
use Rattle.sn_link.proofs.laws.link_serves.Goals as goal

pub returns : goal.returns
returns c = λ host acts old new xs kept holds sound exchanges readable asks.
    let laws : HearLaws = record {
      read = record {
        written = c.request_reads_back.ensures;
        one_message = c.one_message.ensures;
        no_check = c.no_message_where_check.ensures;
        said = c.requests_read_back.ensures;
        one_request = c.one_request.ensures;
        not_refused = c.requests_not_refused.ensures;
      };
      answers = c.answers_read_back.ensures;
      one_answer = c.one_answer.ensures;
      fit = c.answers_fit.ensures;
      sound = c.stays_sound.ensures;
    } in
    let (next, holds_next, asked, fails) = asks.served (serves kept) holds in
    record {
      next = next;
      holds = holds_next;
      leaves = all_leave laws host acts (link_losses old) (link_now old) (link_number old) kept xs (link_number new) next sound asked exchanges readable;
      agrees = agrees_asked (link_losses old) (link_now old) (link_number old) (serves kept) xs (link_number new) next asked;
    }
