use Rattle.std.proofs.Common.{[], sym, subst}
use Rattle.std.specs.declared.option.Option.{Option}
use Rattle.sn_account.specs.Sound.{IsSound}
use Rattle.sn_link.specs.Deliveries.{serves}
use Rattle.sn_link.specs.Holdings.{HoldsIn}
use Rattle.sn_link.specs.declared.delivery.Held.{Held}
use Rattle.sn_server.specs.Loads.{kept_of}
use Rattle.sn_server.specs.Stores.{after}
use Rattle.sn_events.specs.Growing.{IsFreshHeld}
use Rattle.sn_events.specs.declared.ends.Ends.{Ends}
use Rattle.sn_events.specs.declared.outcome.Begun.{Begun}
use Rattle.sn_events.proofs.Opening.{begun, one_batch}
use Rattle.sn_events.proofs.ends.Ends.begin.Goals as goal

pub returns : goal.returns
returns c =
    let fresh = c.in_ok-server.ensures.fresh in
    let ends : Ends = record { alloc = c.args.alloc; link = c.new.result; place = c.in_ok-changes.place; devices = c.new-2.result } in
    let given : Begun = record { ends = ends; changes = c.in_ok-changes.changes } in
    let first = c.in_ok-changes.ensures (after (kept_of []) fresh.changes) fresh.changes fresh.stands (one_batch fresh.secret fresh.changes fresh.first) in
    record {
      begun = begun c.holds_first.ensures c.keeps_starting.ensures c.args.words.now c.fresh_server.new.words fresh.secret fresh.changes given fresh.drew fresh.first first.0
          (subst (λ (o : Option Held). HoldsIn o (serves (after (kept_of []) fresh.changes))) (sym c.new.ensures.held) fresh.stands) first.1
          (subst IsSound fresh.stands.rows_are fresh.sound) c.new-2.ensures (subst IsFreshHeld (sym c.new.ensures.held) c.in_ok-server.ensures.disk);
    }
