-- Both ends before the first event.
use Rattle.std.proofs.Common.{◌≡◌, ℕ, zero, suc, List, [], ◌∷◌, Option, None, true, refl, sym, ap, ◌∙◌, subst}
use Rattle.std.specs.List.{AllZip}
use Rattle.rand_chacha.specs.ChaCha.{ChaCha}
use Rattle.sn_course.specs.Stages.{made_by, start}
use Rattle.sn_device.specs.Laws.{StepsStaySound}
use Rattle.sn_course.specs.Headline.{IsPasswordOf, Opens}
use Rattle.sn_disk.specs.Shelf.{Slot, unknown}
use Rattle.sn_disk.specs.declared.memory.MemDisk.{MemDisk}
use Rattle.sn_events.specs.Begins.{HasBegun}
use Rattle.sn_events.specs.Slots.{device_slot, slot_mark, slot_of_device}
use Rattle.sn_events.specs.Standing.{Stands}
use Rattle.sn_events.specs.declared.outcome.Begun.{Begun}
use Rattle.sn_items.specs.Draws.{drawn}
use Rattle.sn_journal.specs.declared.owner.Owner.TheVariants.{Device as DeviceOwner}
use Rattle.sn_laws.specs.Lookups.{Bytes, empty}
use Rattle.sn_laws.specs.Runs.{end, end_from}
use Rattle.sn_laws.specs.declared.moves.Move.{Move}
use Rattle.sn_lines.proofs.Facts.{each_holds_of, first_holds_of}
use Rattle.sn_lines.specs.Fits.{AllFitFirst, EachFits}
use Rattle.sn_lines.specs.Passwords.{HoldsOf}
use Rattle.sn_row_map.specs.RowMaps.{row_in}
use Rattle.sn_rows.specs.Table.{Rows, no_rows, row_after, rows_after}
use Rattle.sn_rows.specs.declared.change.Change.{Change}
use Rattle.sn_rows.specs.declared.key.Key.{Key}
use Rattle.sn_rows.specs.declared.value.Value.{Value}
use Rattle.sn_script.specs.declared.script.Script.{Script}
use Rattle.sn_tail.specs.Shelves.{SlotReads}
use Rattle.sn_world.specs.Holders.{AreHeld}
use Rattle.sn_world.specs.Holds.{TokensDiffer}
use Rattle.sn_world.specs.Laws.{HoldsFirst}
use Rattle.sn_world.specs.Sessions.{opens}
use Rattle.sn_world.specs.World.{Made, World, at_first}
use Rattle.sn_replay.specs.Keeping.{IsKeptOf, requests_of}
use Rattle.sn_replay.specs.Mirrored.{mirrored}
use Rattle.sn_replay.specs.Playing.{BeginsReplay, BeginsAt, IsAt}
use Rattle.sn_replay.specs.declared.kept.Kept.{Kept}
use Rattle.sn_replay.specs.declared.replaying.Replaying.{Replaying}
use Rattle.sn_replay.specs.declared.replaying.Seen.{Seen}

-- there is no account
none_held : AreHeld empty
none_held zero a uuid v text number at = absurd (cc)
none_held (suc n) a uuid v text number at = absurd (cc)

nothing_read : SlotReads unknown DeviceOwner 0 no_rows
nothing_read = record { batches = []; stood = (refl, refl); rows_are = refl }

module _ (first : HoldsFirst) (fitting : AllFitFirst) (fit : EachFits) (stay : StepsStaySound) (words seed left : ChaCha) (same : seed ≡ words) (begun : Begun) (x : HasBegun seed left begun)
    (seen : Seen) (labels_none : seen.labels ≡ []) (names_none : seen.names ≡ [])
    (rows : (key : Key) → row_in seen.server key ≡ row_after None key begun.changes)
    (none_mirrored : (name : Bytes) → mirrored seen.devices name ≡ no_rows) (none_kept : (name : Bytes) → requests_of seen.requests name ≡ []) where
  abbrev opened : World
  opened = x.leads.next

  drew_words : (x.secret, left) ≡ drawn 32 words
  drew_words = x.drew ∙ ap (drawn 32) same

  abbrev replaying : Replaying
  replaying = record { ends = begun.ends; seen = seen }

  server_now : row_in seen.server ≡ opened.server
  server_now =
      (λ i key. (rows key ∙ ap (λ (cs : List Change). row_after None key cs) x.changes_are) i) ∙ sym x.leads.server_is

  device_none : (name : Bytes) → opened.devices name ≡ no_rows
  device_none name = x.leads.devices_are name

  at_start : (script : Script) → TokensDiffer x.secret → IsAt script x.secret replaying (start opened)
  at_start script differ = record {
    legal = tt;
    stands = subst (λ (ms : List Move). Stands begun.ends x.secret opened (end_from empty ms)) x.no_moves x.stands;
    fits = fit x.secret at_first empty (opens x.changes true) fitting tt tt x.leads;
    holds_of = subst (λ (ms : List Move). HoldsOf (IsPasswordOf script) opened (end_from empty ms)) x.no_moves
        (each_holds_of (IsPasswordOf script) stay x.secret at_first empty (opens x.changes true) (first x.secret) (first_holds_of (IsPasswordOf script)) tt tt x.leads);
    held = none_held;
    labels_are = labels_none;
    names_are = names_none;
    begun = λ name none. device_none name;
    server_is = server_now;
    devices_are = λ name. none_mirrored name ∙ sym (device_none name);
    requests_are = λ name.
        subst (λ (ms : List Made). AllZip IsKeptOf (made_by name ms) (requests_of seen.requests name)) (sym x.leads.made_is)
        (subst (λ (ks : List Kept). AllZip IsKeptOf (made_by name []) ks) (sym (none_kept name)) tt);
    marks_are = λ name. ap (λ d. slot_mark (slot_of_device d)) (sym (x.none name));
    marks_read = λ name.
        subst (λ d. SlotReads (slot_of_device d) DeviceOwner 0 (opened.devices name)) (sym (x.none name))
        (subst (λ (r : Rows). SlotReads unknown DeviceOwner 0 r) (sym (device_none name)) nothing_read);
  }

  pub begins_with : BeginsReplay words replaying
  begins_with = record {
    secret = x.secret;
    left = left;
    drew = drew_words;
    begun = λ script differ. record {
      opened = opened;
      opens = record {
        left = left;
        drew = drew_words;
        changes = x.changes;
        comes = x.comes;
        leads = x.leads;
        no_moves = x.no_moves;
        opened_is = refl;
      };
      at = at_start script differ;
    };
  }
