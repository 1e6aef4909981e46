-- A request that comes late or again is a line of the world.
use Rattle.std.proofs.Common.{◌≡◌, ◌≢◌, ℕ, List, [], true, false, Some, refl, sym, ap, ◌∙◌, subst}
use Rattle.sn_account.specs.RuleLaws.{StaysSound}
use Rattle.sn_account.specs.Sound.{IsSound}
use Rattle.std.specs.declared.option.Option.{Option}
use Rattle.sn_device.specs.Asking.{IsRequestBytes, said, unheard}
use Rattle.sn_events.proofs.Batches.{whole_befalls}
use Rattle.sn_events.proofs.Coming.{open_serves, serves_rows}
use Rattle.sn_events.proofs.Growing.{device_same, server_grows}
use Rattle.sn_events.specs.Calling.{IsOpenHeld, IsServerBack, host}
use Rattle.sn_events.specs.Devices.{HasRows, device_of}
use Rattle.sn_events.specs.Events.{AgainCame}
use Rattle.sn_events.specs.Late.{HasRedelivered}
use Rattle.sn_events.specs.Laws.{AgainComes, AgainLine}
use Rattle.sn_events.specs.Standing.{Stands}
use Rattle.sn_events.specs.declared.ends.Ends.{Ends}
use Rattle.sn_events.specs.declared.late.Redelivered.{Redelivered}
use Rattle.sn_events.specs.declared.outcome.Again.{Again}
use Rattle.sn_http.specs.Answers.{IsAnswer as IsHttpAnswer}
use Rattle.sn_laws.specs.Lookups.{Bytes}
use Rattle.sn_laws.specs.declared.ideal.Ideal.{Ideal}
use Rattle.sn_lines.specs.Lines.{EachKeeps}
use Rattle.sn_link.specs.Deliveries.{serves}
use Rattle.sn_link.specs.Holdings.{GoesOn, HoldsIn}
use Rattle.sn_link.specs.Laws.{IsReadable}
use Rattle.sn_link.specs.Links.{AsksAgain, Befalls, link_held, link_now}
use Rattle.sn_link.specs.declared.delivery.Held.{Held}
use Rattle.sn_link.specs.declared.link.ServingLink.{ServingLink}
use Rattle.sn_link.specs.declared.losses.Lost.TheVariants.{Nothing}
use Rattle.sn_net.specs.Exchanges.{Exchange}
use Rattle.sn_recorder.specs.Fates.{AgainsHaveFates, IsServedAt, IsStatusOf}
use Rattle.sn_recorder.specs.Recorded.{Gains, GainsAgain, IsPlaceOf, recorded_link, recorded_place}
use Rattle.sn_recorder.specs.Told.{batches_of}
use Rattle.sn_recorder.specs.declared.delivered.Delivered.{Delivered}
use Rattle.sn_recorder.specs.declared.recording.RecordingLink.{RecordingLink}
use Rattle.sn_rows.specs.Table.{Rows, rows_after}
use Rattle.sn_rows.specs.declared.change.Change.{Change}
use Rattle.sn_server.specs.Loads.{kept_of}
use Rattle.sn_server.specs.Stores.{Kept}
use Rattle.sn_sync.specs.declared.answer.Answer.{Answer}
use Rattle.sn_world.specs.Calls.{Fate, IsServed, crashed, rows_behind, served, undelivered}
use Rattle.sn_world.specs.Holds.{Holds, TokensDiffer}
use Rattle.sn_world.specs.Sessions.{AgainLeads, again}
use Rattle.sn_world.specs.World.{IsMade, Made, World}

module _ (leads : AgainLeads) (keeps : EachKeeps) (stays : StaysSound) (secret : Bytes) (w : World) (s : Ideal) (m : Made) (now : ℕ) (kept next : Kept) (batches : List (List Change)) (status : ℕ)
    (differ : TokensDiffer secret) (h : Holds secret w s) (made : IsMade w m) (rows_are : kept.rows ≡ w.server) (sound : IsSound kept.rows) (other : status ≢ 503) where
  served_line : (changes : List Change) (given : Answer) → IsServed kept.rows m.request unheard (served now changes given false) → batches ≡ batches_of (served now changes given false)
      → next.rows ≡ rows_after kept.rows changes → IsStatusOf status (served now changes given false) → AgainLine secret w s m now next batches status
  served_line changes given is gained left status_is =
      let fate = served now changes given false in
      let over : IsServed w.server m.request unheard fate = subst (λ (rows : Rows). IsServed rows m.request unheard fate) rows_are is in
      let x = leads secret w s m fate h made over in
      record {
        changes = changes;
        given = given;
        comes = record { begins = m.begins; made = made; over = over };
        leads = x.0;
        begins_is = x.1;
        keeps = keeps secret w s (again m.device m.request fate) differ h x.0;
        rows_are = left ∙ ap (λ (rows : Rows). rows_after rows changes) rows_are ∙ sym x.0.server_is;
        sound = subst IsSound (sym left) (stays kept.rows m.request now changes given sound is.0 is.1);
        gained = gained;
        status_is = status_is;
      }

  by_fate : (fate : Fate) → IsServed kept.rows m.request unheard fate → IsServedAt now fate → batches ≡ batches_of fate → next.rows ≡ rows_behind kept.rows fate → IsStatusOf status fate
      → AgainLine secret w s m now next batches status
  by_fate undelivered is at gained left status_is = absurd (other status_is)
  by_fate (served moment changes given true) is at gained left status_is = absurd (let same : unheard ≡ said given = is.2 in let impossible : ⊥ = cc in impossible)
  by_fate (served moment changes given false) is at gained left status_is =
      served_line changes given (subst (λ (n : ℕ). IsServed kept.rows m.request unheard (served n changes given false)) at is) gained left status_is
  by_fate (crashed moment changes given) is at gained left status_is = absurd at

pub again_comes : AgainLeads → EachKeeps → StaysSound → AgainsHaveFates → AgainComes
again_comes leads keeps stays law secret w s m bytes now kept next batches answer status body differ h made sent readable rows_are sound befalls gains heard other =
    let f = law host m.request bytes now kept next batches (Some answer) sent readable befalls gains in
    by_fate leads keeps stays secret w s m now kept next batches status differ h made rows_are sound other f.fate f.is f.at f.gained f.rows_are (f.status_is answer refl status body heard)

-- ---- an event

abbrev ends_behind : Ends → Redelivered → Ends
ends_behind old made = record { alloc = old.alloc; link = made.link; place = made.place; devices = old.devices }

abbrev again_behind : Ends → Redelivered → Again
again_behind old made = record { ends = ends_behind old made; status = made.status; batches = made.batches }

pub again_came : AgainComes → (secret : Bytes) (w : World) (s : Ideal) (m : Made) (now : ℕ) (old : Ends) (request : Bytes) (made : Redelivered) → HasRedelivered old.link old.place now request made
    → TokensDiffer secret → Stands old secret w s → IsMade w m → IsRequestBytes host m.request request → IsReadable host m.request → AgainCame secret w s m now old (again_behind old made)
again_came law secret w s m now old request made delivered differ stands is_made sent readable =
    let server = stands.server in
    let kept = kept_of server.batches in
    let exchange : Exchange = record { host = []; request = request; answer = Some delivered.answer } in
    let (next, holds, place_next, befalls, gains) = delivered.served (serves kept) server.holds server.place_is in
    let o = open_serves (link_held made.link) next delivered.open_held holds in
    let befalls_so : Befalls Nothing now (serves kept) exchange (serves o.kept) = subst (Befalls Nothing now (serves kept) exchange) o.is befalls in
    let x = law secret w s m request now kept o.kept made.batches delivered.answer made.status delivered.body differ stands.holds is_made sent readable server.rows_are
    (subst IsSound (sym server.rows_are) server.sound) befalls_so (subst (Gains (serves kept) made.batches) o.is gains) delivered.heard delivered.other in
    record {
      changes = x.changes;
      given = x.given;
      comes = x.comes;
      leads = x.leads;
      begins_is = x.begins_is;
      legal = x.keeps.0;
      stands = record {
        server = serves_rows (link_held made.link) o.kept made.place x.leads.next.server (subst (HoldsIn (link_held made.link)) o.is holds)
            (whole_befalls Nothing now kept exchange o.kept befalls_so refl) x.sound x.rows_are (subst (IsPlaceOf made.place) o.is place_next);
        devices = λ name. subst (HasRows (device_of old.devices name)) (sym (x.leads.devices_are name)) (stands.devices name);
        holds = x.keeps.1;
      };
      gained = x.gained;
      status_is = x.status_is;
      grow = record {
        server = server_grows (link_held old.link) (link_held made.link) (serves kept) server.holds delivered.goes_on;
        devices = λ name. device_same (device_of old.devices name);
      };
      devices = λ name. refl;
    }

-- ---- over the link

pub redelivered : (link set : ServingLink) (place now : ℕ) (request : Bytes) (old new : RecordingLink) (given : Delivered) (body : Bytes) (made : Redelivered) → link_held set ≡ link_held link
    → link_now set ≡ now → recorded_link old ≡ set → recorded_place old ≡ place → AsksAgain (recorded_link old) (recorded_link new) request (Some given.answer) → GainsAgain old new request given
    → IsServerBack new made.link made.place → IsHttpAnswer given.answer made.status body → made.status ≢ 503 → made.batches ≡ given.batches → HasRedelivered link place now request made
redelivered link set place now request old new given body made held now_is link_is place_is asks gains back heard other batches_are =
    let held_old : link_held (recorded_link old) ≡ link_held link = ap link_held link_is ∙ held in
    let now_old : link_now (recorded_link old) ≡ now = ap link_now link_is ∙ now_is in
    let exchange : Exchange = record { host = []; request = request; answer = Some given.answer } in
    record {
      answer = given.answer;
      body = body;
      heard = heard;
      other = other;
      open_held = subst IsOpenHeld (sym back.held) back.open_held;
      goes_on = subst (GoesOn (link_held link)) (sym back.held) (subst (λ (o : Option Held). GoesOn o (link_held (recorded_link new))) held_old asks.goes_on);
      served = λ was holds place_so.
          let (next, holds_next, place_next, befalls, gained) = gains was (subst (λ (o : Option Held). HoldsIn o was) (sym held_old) holds) (subst (λ (p : ℕ). IsPlaceOf p was) (sym place_is) place_so) in (
            next,
            subst (λ (o : Option Held). HoldsIn o next) (sym back.held) holds_next,
            subst (λ (p : ℕ). IsPlaceOf p next) (sym back.place_is) place_next,
            subst (λ (n : ℕ). Befalls Nothing n was exchange next) now_old befalls,
            subst (λ (bs : List (List Change)). Gains was bs next) (sym batches_are) gained,
          );
    }
