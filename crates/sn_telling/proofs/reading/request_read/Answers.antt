use Rattle.std.proofs.Common.{◌≡◌, Option, Some}
use Rattle.sn_link.proofs.Facts.{ReadLaws}
use Rattle.sn_server.proofs.Tokens.{token_utf8}
use Rattle.sn_server.specs.Routing.{AsksFor}
use Rattle.sn_sync.specs.declared.request.Request.{Request}
use Rattle.sn_telling.specs.Walking.{IsReadAs, known_of}
use Rattle.sn_telling.specs.declared.known.Known.{Known}
use Rattle.sn_telling.proofs.ReadForeign.{if_ok}
use Rattle.sn_telling.proofs.ReadRequest.{asks_taken, none_checked}
use Rattle.sn_telling.proofs.reading.request_read.Goals as goal

pub request_in-requires : goal.request_in-requires
request_in-requires c = token_utf8 c.in-Message.ensures.message.bytes c.in-Message.message c.in-Message.ensures.message.is

pub returns-in-Message : goal.returns-in-Message
returns-in-Message c =
    let laws : ReadLaws = record {
      written = c.request_reads_back.ensures;
      one_message = c.one_message.ensures;
      no_check = c.no_message_where_check.ensures;
      said = c.requests_read_back.ensures;
      one_request = c.one_request.ensures;
      not_refused = c.requests_not_refused.ensures;
    } in
    if_ok c.request_in.result (λ (found : Option Known). (r : Request) → AsksFor c.in-Message.message r → found ≡ Some (known_of r)) (IsReadAs c.args.bytes.now)
    (λ found is host r sent readable. is r (asks_taken laws host r c.args.bytes.now sent readable c.new-carry.result _ _ _ c.in-Message.message c.new-carry.ensures
    c.in-Message.ensures.message)) c.request_in.ensures

pub returns-in-Check : goal.returns-in-Check
returns-in-Check c = λ host r sent readable.
    let laws : ReadLaws = record {
      written = c.request_reads_back.ensures;
      one_message = c.one_message.ensures;
      no_check = c.no_message_where_check.ensures;
      said = c.requests_read_back.ensures;
      one_request = c.one_request.ensures;
      not_refused = c.requests_not_refused.ensures;
    } in
    absurd (none_checked laws host r c.args.bytes.now sent readable c.new-carry.result c.in-Check.status c.new-carry.ensures c.in-Check.ensures.check.1)
