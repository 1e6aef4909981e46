-- A whole call, and a request that comes late or again.
use Rattle.std.proofs.Common.{◌≡◌, ◌++◌, List, Option, None, true, false, refl, sym, ap, ◌∙◌, subst}
use Rattle.std.proofs.lemmas.List.{append-nil}
use Rattle.sn_device.specs.Runs.{Halt, answered, broken, refused}
use Rattle.sn_laws.specs.Lookups.{Bytes}
use Rattle.sn_laws.specs.Reached.{DeletionsStay}
use Rattle.sn_laws.specs.declared.moves.Move.{Move}
use Rattle.sn_moves.specs.Laws.{SaysAnswered, SaysPlainly}
use Rattle.sn_order.specs.Laws.{KindsTell, RunsInOrder}
use Rattle.sn_saying.specs.Laws.{SaidOnce}
use Rattle.sn_saying.specs.Served.{IsBegunAs}
use Rattle.sn_server.specs.Stores.{batch_of}
use Rattle.sn_string.specs.declared.params.KeySet.{KeySet}
use Rattle.sn_world.specs.Calls.{call_steps, fate_steps, served}
use Rattle.sn_world.specs.Happens.{Happens, Trace}
use Rattle.sn_world.specs.Laws.{Keeps}
use Rattle.sn_world.specs.Sessions.{with_end}
use Rattle.sn_telling.specs.Laws.{AgainsTell, CallsTell, IsWhole}
use Rattle.sn_telling.specs.Walking.{SaysGained}
use Rattle.sn_telling.specs.declared.known.Known.{Known}
use Rattle.sn_telling.proofs.StepsCalls.{run_acts}
use Rattle.sn_telling.proofs.ToldServed.{served_told}
use Rattle.sn_telling.proofs.ToldTraces.{of_kind, tells}

-- where no disk failed, the steps are those of the acts alone
steps_whole : (name : Bytes) (halt : Halt) (steps : List Happens) → IsWhole halt → with_end name halt true steps ≡ steps
steps_whole name (answered given left) steps whole = refl
steps_whole name (refused why) steps whole = refl
steps_whole name (broken what changes) steps whole = absurd whole

pub calls_tell : DeletionsStay → SaysAnswered → SaysPlainly → SaidOnce → KindsTell → RunsInOrder → Keeps → CallsTell
calls_tell law answers plainly once kinds in_order keeps secret host w s name call what words acts fates halt batches exchanged moves begun server_end rows_end differ h
    whole of runs over told readable says x =
    let goes : Trace secret w s (call_steps name x.begins acts fates) x.moves x.next =
    subst (λ (steps : List Happens). Trace secret w s steps x.moves x.next) (steps_whole name halt (call_steps name x.begins acts fates) whole) x.goes in
    tells law answers plainly once kinds keeps secret host differ name (w.devices name) call what x.begins x.of_line server_end rows_end acts fates w x.next s _ None None
    batches exchanged x.moves moves begun
    (record {
      holds = h;
      order = in_order 1 call (w.devices name) words acts halt runs;
      of = run_acts 1 call what (w.devices name) words acts halt of runs None;
      heard_it = tt;
      of_kinds = of_kind kinds secret host name x.begins acts fates batches exchanged w x.next s x.moves told goes;
      readable = readable;
      told = told;
    }) goes says

pub agains_tell : SaidOnce → AgainsTell
agains_tell once secret host w s m now changes given bytes told found moves differ h sent readable begun reads gained x same = by x.moves x.goes
  where
    by : (said : List Move)
        → Trace secret w s (fate_steps (record { device = m.device; request = m.request; begins = x.begins m.request }) (served now changes given false)) said x.next
        → moves ≡ said
    by said (mid, first, later, does, says, none, is) =
        served_told once secret w s h m.device m.request (x.begins m.request) told (subst (λ (b : Option KeySet). IsBegunAs m.request b told) (sym same) begun) w.server
        (w.devices m.device) refl refl mid now changes given first moves does says
        (subst (λ (o : Option Known). SaysGained w.server (w.devices m.device) m.device told o (batch_of changes) moves) (reads host m.request sent readable) gained)
        ∙ sym (is ∙ ap (λ (l : List Move). first ++ l) none.0 ∙ append-nil first)
