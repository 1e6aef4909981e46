use Rattle.std.proofs.Common.{◌≡◌, rules, ap, subst, Option, Some, None}
use Rattle.sn_row_map.specs.RowMaps.{row_in}
use Rattle.sn_table.specs.Tables.{table_rows}
use Rattle.sn_device.specs.Sending.{Numbered}
use Rattle.sn_sending.proofs.SendLemmas.{HasRoom, IsAt, at_first, at_next, ends_all, ends_full, is_sendable, lent_item, takes_less}
use Rattle.sn_sending.proofs.sending.choose.Goals as goal

pub waiting-init : goal.waiting-init
waiting-init g c =
    at_first (row_in (table_rows c.args.table.now)) c.args.account.now.next c.first_waiting-next.result c.new-chosen.result
    (λ n local has. c.requires.sound.locals.numbered c.args.account.now n local c.requires.owned has)
    (c.new-chosen.ensures (row_in (table_rows c.args.table.now))) c.first_waiting-next.ensures.some c.first_waiting-next.ensures.none

pub waiting-preserved : goal.waiting-preserved
waiting-preserved g c =
    let room : HasRoom c.waiting.chosen c.in-Some.item.now = c.has_room.ensures.0 (search rules) in
    let found : lent_item c.waiting.next ≡ Some (c.in-Some.number, c.in-Some.item.now) = ap lent_item c.in-Some.is in
    at_next (row_in (table_rows c.args.table.now)) c.args.account.now.next c.in-Some.number c.in-Some.item c.next_waiting-next.result c.waiting.chosen c.take.new.self
    (λ n local has. c.requires.sound.locals.numbered c.args.account.now n local c.requires.owned has)
    (subst (λ (o : Option Numbered). IsAt (row_in (table_rows c.args.table.now)) c.args.account.now.next o c.waiting.chosen) found c.waiting.invariant)
    room c.in_ok-take.ensures c.next_waiting-next.ensures.some c.next_waiting-next.ensures.none

pub waiting-smaller : goal.waiting-smaller
waiting-smaller g c =
    let room : HasRoom c.waiting.chosen c.in-Some.item.now = c.has_room.ensures.0 (search rules) in
    takes_less c.in-Some.number c.in-Some.item.now c.waiting.chosen c.take.new.self room c.in_ok-take.ensures

pub returns-then-not-has_room : goal.returns-then-not-has_room
returns-then-not-has_room g c =
    let found : lent_item c.waiting.next ≡ Some (c.in-Some.number, c.in-Some.item.now) = ap lent_item c.in-Some.is in
    ends_full (row_in (table_rows c.args.table.now)) c.args.account.now.next c.in-Some.number c.in-Some.item c.waiting.chosen
    (λ n local has. c.requires.sound.locals.numbered c.args.account.now n local c.requires.owned has)
    (subst (λ (o : Option Numbered). IsAt (row_in (table_rows c.args.table.now)) c.args.account.now.next o c.waiting.chosen) found c.waiting.invariant)
    (λ room. let is = c.has_room.ensures.1 room in search rules)

pub take-requires : goal.take-requires
take-requires g c =
    let found : lent_item c.waiting.next ≡ Some (c.in-Some.number, c.in-Some.item.now) = ap lent_item c.in-Some.is in
    let at : IsAt (row_in (table_rows c.args.table.now)) c.args.account.now.next (Some (c.in-Some.number, c.in-Some.item.now)) c.waiting.chosen =
    subst (λ (o : Option Numbered). IsAt (row_in (table_rows c.args.table.now)) c.args.account.now.next o c.waiting.chosen) found c.waiting.invariant in
    is_sendable c.in-Some.item.now (c.requires.sound.locals.items c.in-Some.number c.in-Some.item.now at.goes.0) at.goes.1

pub returns : goal.returns
returns g c =
    let none : lent_item c.waiting.next ≡ None = ap lent_item c.in_default.is in
    ends_all (row_in (table_rows c.args.table.now)) c.args.account.now.next c.waiting.chosen
    (λ n local has. c.requires.sound.locals.numbered c.args.account.now n local c.requires.owned has)
    (subst (λ (o : Option Numbered). IsAt (row_in (table_rows c.args.table.now)) c.args.account.now.next o c.waiting.chosen) none c.waiting.invariant)
