-- What is shown of both ends.
use Rattle.std.proofs.Common.{◌≡◌, ℕ, List, [], ◌++◌, Option, None, false, refl, sym, ap, ◌∙◌, subst}
use Rattle.std.proofs.lemmas.List.{append-nil}
use Rattle.sn_course.specs.Stages.{Stage, Reported, past}
use Rattle.sn_course.specs.Fits.{Fits}
use Rattle.sn_course.specs.Headline.{IsPasswordOf}
use Rattle.sn_course.specs.declared.settings.Settings.{Settings}
use Rattle.sn_events.specs.Slots.{device_slot, server_slot, slot_mark}
use Rattle.sn_events.specs.Standing.{Stands}
use Rattle.sn_journal.specs.declared.owner.Owner.{Owner}
use Rattle.sn_journal.specs.declared.owner.Owner.TheVariants.{Device as DeviceOwner, Server as ServerOwner}
use Rattle.sn_laws.specs.Lookups.{Bytes}
use Rattle.sn_laws.specs.Runs.{Legal, end}
use Rattle.sn_laws.specs.declared.moves.Move.{Move}
use Rattle.sn_lines.specs.Passwords.{HoldsOf}
use Rattle.sn_report.specs.Labels.{Labels, labels_of}
use Rattle.sn_report.specs.Showing.{show_lines}
use Rattle.sn_report.specs.declared.report.Event.{Event}
use Rattle.sn_report.specs.declared.report.Last.TheVariants as last
use Rattle.sn_row_map.specs.RowMaps.{row_in}
use Rattle.sn_rows.specs.Table.{Rows}
use Rattle.sn_script.specs.declared.script.Line.TheVariants as line
use Rattle.sn_script.specs.declared.script.Script.{Script}
use Rattle.sn_shown.specs.Closed.{AreClosed}
use Rattle.sn_shown.specs.Laws.{StatesRegular}
use Rattle.sn_shown.specs.Shown.{AreHeld, EndsShow}
use Rattle.sn_shows.specs.Devices.{ShowsDevice}
use Rattle.sn_shows.specs.Servers.{ShowsServer}
use Rattle.sn_tail.specs.Shelves.{SlotGrows, SlotReads}
use Rattle.sn_world.specs.Holders.{AreHeld as AreHeldBySome}
use Rattle.sn_disk.specs.Shelf.{Slot, holds, out, unknown}
use Rattle.sn_disk.specs.declared.memory.MemDisk.{MemDisk}
use Rattle.sn_replay.specs.Mirrored.{mirrored}
use Rattle.sn_replay.specs.Playing.{IsAt, Tells}
use Rattle.sn_replay.specs.declared.replaying.Replaying.{Replaying}
use Rattle.sn_replay.proofs.Holding.{held_by_script}

-- a slot goes on as it is
grows_same : ((disk : MemDisk) → SlotGrows (holds disk) (holds disk)) → (slot : Slot MemDisk) (owner : Owner) (mark : ℕ) (rows : Rows)
    → SlotReads slot owner mark rows → SlotGrows slot slot
grows_same same unknown owner mark rows reads = tt
grows_same same out owner mark rows reads = absurd reads.stood
grows_same same (holds disk) owner mark rows reads = same disk

module _ (regular : StatesRegular) (script : Script) (secret : Bytes) (replaying : Replaying) (c : Stage) (at : IsAt script secret replaying c) where
  held_now : AreHeld (end c.moves) c.names
  held_now = held_by_script c.names c.world.devices (end c.moves) at.begun at.stands.holds.devices at.held

  devices_same : (λ name. mirrored replaying.seen.devices name) ≡ c.world.devices
  devices_same = λ i name. at.devices_are name i

  -- the rows that were seen show the state
  pub ends_show : EndsShow (row_in replaying.seen.server) (λ name. mirrored replaying.seen.devices name) replaying.seen.names (end c.moves)
  ends_show = record {
    regular = regular c.moves at.legal;
    accounts = subst (λ (rows : Rows). ShowsServer rows (end c.moves).accounts) (sym at.server_is) at.stands.holds.server;
    each = λ name. subst (λ (rows : Rows). ShowsDevice rows (end c.moves) name) (sym (at.devices_are name)) (at.stands.holds.devices name);
    held = subst (AreHeld (end c.moves)) (sym at.names_are) held_now;
  }

  module _ (number : ℕ) (settings : Settings) (none : List Move) (shown : List Bytes) (mark : ℕ) (no_moves : none ≡ [])
      (shown_is : (closed : Bytes → Bytes → Option ℕ) × AreClosed (λ name. mirrored replaying.seen.devices name) (end c.moves) closed
      × (shown ≡ show_lines replaying.seen.labels replaying.seen.names (end c.moves) closed))
      (marked : (mark ≡ slot_mark (server_slot replaying.ends)) × SlotReads (server_slot replaying.ends) ServerOwner mark c.world.server)
      (same : (disk : MemDisk) → SlotGrows (holds disk) (holds disk)) where
    abbrev r : Reported
    r = record { number = number; settings = settings; asks = line.Show }

    abbrev e : Event
    e = record { number = number; puts = false; moves = none; shown = shown; last = last.Done; server_mark = mark; device_mark = None }

    moves_same : c.moves ++ none ≡ c.moves
    moves_same = ap (λ (ms : List Move). c.moves ++ ms) no_moves ∙ append-nil c.moves

    fits : Fits secret c r e c.world
    fits = record {
      number = refl;
      puts = refl;
      happens = record { next_is = refl; moves_are = no_moves; ended = refl };
      shown = (
        shown_is.0,
        subst (λ (rows : Bytes → Rows). AreClosed rows (end c.moves) shown_is.0) devices_same shown_is.1,
        shown_is.2 ∙ ap (λ (ls : Labels). show_lines ls replaying.seen.names (end c.moves) shown_is.0) at.labels_are
            ∙ ap (λ (ns : List Bytes). show_lines c.labels ns (end c.moves) shown_is.0) at.names_are,
      );
    }

    at_now : IsAt script secret replaying (past c r.asks e c.world)
    at_now = record {
      legal = subst Legal (sym moves_same) at.legal;
      stands = subst (λ (ms : List Move). Stands replaying.ends secret c.world (end ms)) (sym moves_same) at.stands;
      fits = at.fits;
      holds_of = subst (λ (ms : List Move). HoldsOf (IsPasswordOf script) c.world (end ms)) (sym moves_same) at.holds_of;
      held = subst (λ (ms : List Move). AreHeldBySome (end ms)) (sym moves_same) at.held;
      labels_are = at.labels_are ∙ ap (labels_of false c.labels) (sym no_moves);
      names_are = at.names_are;
      begun = at.begun;
      server_is = at.server_is;
      devices_are = at.devices_are;
      requests_are = at.requests_are;
      marks_are = at.marks_are;
      marks_read = at.marks_read;
    }

    pub show_tells : Tells script secret replaying c r (record { replaying = replaying; event = e })
    show_tells = record {
      next = c.world;
      grow = record {
        server = grows_same same (server_slot replaying.ends) ServerOwner mark c.world.server marked.1;
        devices = λ name. grows_same same (device_slot replaying.ends name) DeviceOwner (c.marks name) (c.world.devices name) (at.marks_read name);
      };
      fits = fits;
      at = at_now;
      server_mark = marked.0;
      server_reads = marked.1;
    }
