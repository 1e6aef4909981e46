use Rattle.std.specs.Prelude.{[]}
use Rattle.sn_link.specs.Deliveries.{serves}
use Rattle.sn_link.specs.Links.{link_now}
use Rattle.sn_link.specs.declared.losses.Lost.TheVariants.{Nothing}
use Rattle.sn_link.proofs.Batches.{agrees_befalls}
use Rattle.sn_link.proofs.Requests.{ReadLaws}
use Rattle.sn_link.proofs.Serving.{again_leaves}
use Rattle.sn_link.proofs.laws.again_serves.Goals as goal

pub returns : goal.returns
returns c = λ host r bytes old new answer kept holds sound sent readable again.
    let laws : ReadLaws = record {
      written = c.request_reads_back.ensures;
      one_message = c.one_message.ensures;
      no_check = c.no_message_where_check.ensures;
      said = c.requests_read_back.ensures;
      one_request = c.one_request.ensures;
      not_refused = c.requests_not_refused.ensures;
    } in
    let (next, holds_next, befalls) = again.served (serves kept) holds in
    record {
      next = next;
      holds = holds_next;
      leaves = again_leaves laws kept host r readable bytes answer (link_now old) next sent befalls;
      agrees = agrees_befalls Nothing (link_now old) (serves kept) (record { host = []; request = bytes; answer = answer }) next befalls;
    }
