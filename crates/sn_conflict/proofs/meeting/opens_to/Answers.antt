use Rattle.std.proofs.Common.{◌≡◌, rules, string_bytes}
use Rattle.std.specs.Prelude.{IsTrue, ◌↔◌}
use Rattle.sn_conflict.proofs.CheckLemmas.{found_none, found_some}
use Rattle.sn_conflict.proofs.MeetLemmas.{opens_none, opens_same}
use Rattle.sn_sets.specs.Sets.{OpensHeld, OpensNowhere}
use Rattle.sn_conflict.proofs.meeting.opens_to.Goals as goal

pub returns-in-Some : goal.returns-in-Some
returns-in-Some c =
    let opens = found_some (λ own. OpensHeld c.args.sets.now c.args.uuid c.args.sealed.now (string_bytes own)) c.in_ok-own.field-0 c.in-Some.own c.in-Some.is
    c.in_ok-own.ensures.some in
    let test : IsTrue c.eq.result ↔ (string_bytes c.in-Some.own ≡ c.args.text.now) = search rules in
    opens_same c.args.sets.now c.args.uuid c.args.sealed.now (string_bytes c.in-Some.own) c.args.text.now c.eq.result opens test

pub returns-in-None : goal.returns-in-None
returns-in-None c =
    opens_none c.args.sets.now c.args.uuid c.args.sealed.now c.args.text.now
    (found_none (OpensNowhere c.args.sets.now c.args.uuid c.args.sealed.now) c.in_ok-own.field-0 c.in-None.is c.in_ok-own.ensures.none)
