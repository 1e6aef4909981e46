-- What befalls the connections of a port in memory.
use Rattle.std.specs.Prelude.{◌≡◌, ◌⊎◌, ◌++◌, List, [], ◌∷◌, map, IsTrue}
use Rattle.std.specs.List.{flat_map}
use Rattle.std.proofs.Common.{refl, sym, ◌∙◌, ap, append-nil, append_assoc}
use Rattle.std.proofs.lemmas.Grind.{flat_map-append}
use Rattle.sn_io.specs.FaultPlan.{Plan, is_listed, began, failed, wanted}
use Rattle.sn_io.specs.declared.memory.MemSource.{MemSource}
use Rattle.sn_io.specs.declared.memory.MemSink.{MemSink}
use Rattle.sn_net.specs.Connections.{Ends, Event, accepted, ended, Going}
use Rattle.sn_net.specs.Memory.{ends_of, port_waiting, port_ended}
use Rattle.sn_net.specs.declared.mem_port.MemPort.{MemPort}

-- the ends of the connection that an event accepts
abbrev pub accepted_in : Event → List Ends
accepted_in (accepted ends) = ends ∷ []
accepted_in (ended ends) = []

-- those that it ends
abbrev pub ended_in : Event → List Ends
ended_in (accepted ends) = []
ended_in (ended ends) = ends ∷ []

-- connections came from the front of those that wait, and were kept behind those that had ended
pub record Goes (old new : MemPort) (events : List Event) : Type 0 where
  pub came : map ends_of (port_waiting old) ≡ flat_map accepted_in events ++ map ends_of (port_waiting new)
  pub kept : map ends_of (port_ended new) ≡ map ends_of (port_ended old) ++ flat_map ended_in events

-- why no connection was taken: the call is listed, none is left, or memory is wanting
abbrev pub IsNoAccept : List (MemSource × MemSink) → Plan → Plan → Type 0
IsNoAccept waiting old new = (IsTrue (is_listed old) × (new ≡ began old))
    ⊎ (((waiting ≡ []) × (new ≡ failed (began old))) ⊎ (new ≡ wanted (began old)))

pub going : Going MemPort Goes
going = record {
  none = λ port. record { came = refl; kept = sym (append-nil (map ends_of (port_ended port))) };
  more = λ a b c xs ys x y. record {
    came = x.came ∙ ap (λ l. flat_map accepted_in xs ++ l) y.came ∙ sym (append_assoc (flat_map accepted_in xs) (flat_map accepted_in ys) (map ends_of (port_waiting c)))
        ∙ ap (λ l. l ++ map ends_of (port_waiting c)) (sym (flat_map-append accepted_in xs ys));
    kept = y.kept ∙ ap (λ l. l ++ flat_map ended_in ys) x.kept ∙ append_assoc (map ends_of (port_ended a)) (flat_map ended_in xs) (flat_map ended_in ys)
        ∙ ap (λ l. map ends_of (port_ended a) ++ l) (sym (flat_map-append ended_in xs ys));
  };
}
