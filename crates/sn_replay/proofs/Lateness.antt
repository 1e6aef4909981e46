-- A request that comes late or again, and its event.
use Rattle.std.proofs.Common.{◌≡◌, ◌≢◌, ◌⊎◌, ℕ, zero, suc, List, [], ◌∷◌, ◌++◌, Bool, true, false, Option, Some, None, refl, sym, ap, ◌∙◌, subst, inl, inr}
use Rattle.std.specs.Prelude.{if◌then◌else◌, filter, reverse, slice_get}
use Rattle.std.specs.List.{AllZip}
use Rattle.std.specs.Str.{bytes_eq}
use Rattle.std.proofs.lemmas.List.{reverse-append}
use Rattle.sn_course.specs.Stages.{Stage, Reported, made_by, nth_made, past}
use Rattle.sn_device.specs.Laws.{StepsStaySound}
use Rattle.sn_course.specs.Fits.{CameAgain, Fits}
use Rattle.sn_course.specs.Headline.{IsPasswordOf}
use Rattle.sn_course.specs.declared.settings.Settings.{Settings}
use Rattle.sn_disk.specs.Shelf.{Slot}
use Rattle.sn_disk.specs.declared.memory.MemDisk.{MemDisk}
use Rattle.sn_events.specs.Calling.{host}
use Rattle.sn_events.specs.Events.{AgainCame}
use Rattle.sn_events.specs.Slots.{device_slot, server_slot, slot_mark, slot_of_device}
use Rattle.sn_events.specs.Standing.{Stands}
use Rattle.sn_events.specs.declared.outcome.Again.{Again}
use Rattle.sn_journal.specs.declared.owner.Owner.TheVariants.{Device as DeviceOwner, Server as ServerOwner}
use Rattle.sn_laws.proofs.Facts.{end_from-append, same_text}
use Rattle.sn_laws.specs.Each.{One}
use Rattle.sn_laws.specs.Lookups.{Bytes, empty}
use Rattle.sn_laws.specs.Runs.{LegalFrom, end, end_from}
use Rattle.sn_laws.specs.declared.moves.Move.{Move}
use Rattle.sn_lines.proofs.Facts.{each_holds_of}
use Rattle.sn_lines.specs.Fits.{EachFits}
use Rattle.sn_lines.specs.Passwords.{HoldsOf}
use Rattle.sn_report.specs.Labels.{Labels, labels_of}
use Rattle.sn_report.specs.declared.report.Event.{Event}
use Rattle.sn_report.specs.declared.report.Last.TheVariants as last
use Rattle.sn_row_map.specs.RowMaps.{row_in}
use Rattle.sn_rows.specs.Table.{Rows, rows_after}
use Rattle.sn_rows.specs.declared.change.Change.{Change}
use Rattle.sn_script.specs.declared.script.Line.TheVariants as line
use Rattle.sn_script.specs.declared.script.Ordinal.{Ordinal}
use Rattle.sn_script.specs.declared.script.Ordinal.TheVariants as ordinal
use Rattle.sn_script.specs.declared.script.Script.{Script}
use Rattle.sn_server.specs.Stores.{batch_of}
use Rattle.sn_tail.specs.Shelves.{SlotReads}
use Rattle.sn_telling.specs.Laws.{AgainsTell}
use Rattle.sn_telling.specs.Walking.{IsReadAs, SaysGained, rows_behind_all}
use Rattle.sn_telling.specs.declared.known.Known.{Known}
use Rattle.sn_world.specs.Calls.{Fate, served}
use Rattle.sn_world.specs.Holders.{AreHeld, KeepsHeld}
use Rattle.sn_world.specs.Holds.{TokensDiffer}
use Rattle.sn_world.specs.Laws.{Keeps}
use Rattle.sn_world.specs.Sessions.{Line, again, line_steps}
use Rattle.sn_world.specs.World.{IsMade, Made, World}
use Rattle.sn_replay.specs.Keeping.{IsKeptOf, nth_of, requests_of}
use Rattle.sn_replay.specs.Mirrored.{mirrored}
use Rattle.sn_replay.specs.Playing.{IsAt, Tells}
use Rattle.sn_replay.specs.declared.kept.Kept.{Kept}
use Rattle.sn_replay.specs.declared.replaying.Replaying.{Replaying}
use Rattle.sn_replay.specs.declared.replaying.Seen.{Seen}
use Rattle.sn_replay.specs.declared.replaying.LineTold.{LineTold}
use Rattle.sn_replay.proofs.Holding.{held_along}
use Rattle.sn_replay.proofs.Lists.{one_at, zip_none, zip_there}
use Rattle.sn_replay.proofs.Telling.{legal_append}

-- ---- the request that is meant

one_either : {A : Type 0} (P : A → Type 0) (xs ys : List A) → One P (xs ++ ys) → One P xs ⊎ One P ys
one_either P [] ys h = inr h
one_either P (x ∷ xs) ys (inl h) = inl (inl h)
one_either P (x ∷ xs) ys (inr h) = at (one_either P xs ys h)
  where
    at : One P xs ⊎ One P ys → One P (x ∷ xs) ⊎ One P ys
    at (inl k) = inl (inr k)
    at (inr k) = inr k

one_reversed : {A : Type 0} (P : A → Type 0) (xs : List A) → One P (reverse xs) → One P xs
one_reversed P [] h = h
one_reversed P (x ∷ xs) h = at (one_either P (reverse xs) (x ∷ []) (subst (One P) (reverse-append (x ∷ []) xs) h)) (one_reversed P xs)
  where
    at : One P (reverse xs) ⊎ One P (x ∷ []) → (One P (reverse xs) → One P xs) → One P (x ∷ xs)
    at (inl k) later = inr (later k)
    at (inr (inl k)) later = inl k
    at (inr (inr k)) later = absurd k

-- one that passes a test is among all, and passes it
one_passes : (m : Made) (p : Made → Bool) (xs : List Made) → One (λ x. x ≡ m) (filter p xs) → One (λ x. x ≡ m) xs × (p m ≡ true)
one_passes m p [] h = absurd h
one_passes m p (x ∷ xs) h = at (p x) refl h (one_passes m p xs)
  where
    at : (b : Bool) → p x ≡ b → One (λ y. y ≡ m) (if b then x ∷ filter p xs else filter p xs)
        → (One (λ y. y ≡ m) (filter p xs) → One (λ y. y ≡ m) xs × (p m ≡ true)) → One (λ y. y ≡ m) (x ∷ xs) × (p m ≡ true)
    at true e (inl is) later = (inl is, ap p (sym is) ∙ e)
    at true e (inr k) later = let l = later k in (inr l.0, l.1)
    at false e k later = let l = later k in (inr l.0, l.1)

-- what is kept at a place is of a request that the device made
pub record Meant (name : Bytes) (made : List Made) (which : Ordinal) (k : Kept) : Type 0 where
  pub m : Made
  pub meant : nth_made name made which ≡ Some m
  pub is : IsKeptOf m k
  pub among : One (λ x. x ≡ m) made
  pub device_is : m.device ≡ name

pub nth_kept : (name : Bytes) (made : List Made) (kept : List Kept) (which : Ordinal) (k : Kept) → AllZip IsKeptOf (made_by name made) kept
    → nth_of kept which ≡ Some k → Meant name made which k
nth_kept name made kept (ordinal.Nth zero) k all found = absurd (cc)
nth_kept name made kept ordinal.Beyond k all found = absurd (cc)
nth_kept name made kept (ordinal.Nth (suc place)) k all found =
    let there = zip_there IsKeptOf (made_by name made) kept place k all found in
    let passes = one_passes there.0 (λ m. bytes_eq m.device name) made
    (one_reversed (λ x. x ≡ there.0) (filter (λ m. bytes_eq m.device name) made) (one_at (made_by name made) place there.0 there.1)) in
    record {
      m = there.0;
      meant = there.1;
      is = there.2;
      among = passes.0;
      device_is = same_text there.0.device name passes.1;
    }

pub nth_none : (name : Bytes) (made : List Made) (kept : List Kept) (which : Ordinal) → AllZip IsKeptOf (made_by name made) kept → nth_of kept which ≡ None
    → nth_made name made which ≡ None
nth_none name made kept (ordinal.Nth zero) all none = refl
nth_none name made kept ordinal.Beyond all none = refl
nth_none name made kept (ordinal.Nth (suc place)) all none = zip_none IsKeptOf (made_by name made) kept place all none

-- ---- its event

rows_gained : (server : Rows) (changes : List Change) → rows_behind_all server (batch_of changes) ≡ rows_after server changes
rows_gained server [] = refl
rows_gained server (change ∷ changes) = refl

module _ (tell : AgainsTell) (fit : EachFits) (keeps : Keeps) (stays : KeepsHeld) (stay : StepsStaySound) (script : Script) (secret : Bytes)
    (differ : TokensDiffer secret) (c : Stage) (number : ℕ) (settings : Settings) (device : Bytes) (which : Ordinal) (replaying : Replaying)
    (at : IsAt script secret replaying c) (kept : Kept) (meant : Meant device c.world.made which kept)
    (gave : Again) (x : AgainCame secret c.world (end c.moves) meant.m settings.clock replaying.ends gave) (moves : List Move)
    (behind : Seen) (shown : List Bytes) (mark : ℕ)
    (told : (found : Option Known) × IsReadAs kept.request found
    × SaysGained (row_in replaying.seen.server) (mirrored replaying.seen.devices device) device kept.begins found gave.batches moves)
    (server_see : row_in behind.server ≡ rows_behind_all (row_in replaying.seen.server) gave.batches)
    (labels_see : behind.labels ≡ labels_of false replaying.seen.labels moves) (names_see : behind.names ≡ replaying.seen.names)
    (devices_see : (name : Bytes) → mirrored behind.devices name ≡ mirrored replaying.seen.devices name) (requests_see : behind.requests ≡ replaying.seen.requests)
    (none_shown : shown ≡ [])
    (marked : (mark ≡ slot_mark (server_slot gave.ends)) × SlotReads (server_slot gave.ends) ServerOwner mark x.leads.next.server) where
  abbrev m : Made
  m = meant.m

  abbrev fate : Fate
  fate = served settings.clock x.changes x.given false

  abbrev w : World
  w = c.world

  abbrev next : World
  next = x.leads.next

  abbrev the_line : Line
  the_line = again m.device m.request fate

  abbrev r : Reported
  r = record { number = number; settings = settings; asks = line.Late device which }

  abbrev e : Event
  e = record { number = number; puts = false; moves = moves; shown = shown; last = last.Answer gave.status; server_mark = mark; device_mark = None }

  abbrev now : Stage
  now = past c r.asks e next

  -- what was gained, over the world's rows
  gained_here : SaysGained w.server (w.devices m.device) m.device kept.begins told.0 (batch_of x.changes) moves
  gained_here =
      subst (λ (rows : Rows). SaysGained rows (w.devices m.device) m.device kept.begins told.0 (batch_of x.changes) moves) at.server_is
      (subst (λ (batches : List (List Change)). SaysGained (row_in replaying.seen.server) (w.devices m.device) m.device kept.begins told.0 batches moves) x.gained
      (subst (λ (n : Bytes). SaysGained (row_in replaying.seen.server) (w.devices n) n kept.begins told.0 gave.batches moves) (sym meant.device_is)
      (subst (λ (rows : Rows). SaysGained (row_in replaying.seen.server) rows device kept.begins told.0 gave.batches moves) (at.devices_are device) told.2)))

  moves_told : moves ≡ x.leads.moves
  moves_told =
      tell secret host w (end c.moves) m settings.clock x.changes x.given kept.request kept.begins told.0 moves differ at.stands.holds meant.is.sent meant.is.readable
      meant.is.begins_so told.1 gained_here x.leads x.begins_is

  came : CameAgain secret c r device which e next
  came = record {
    m = m;
    meant = meant.meant;
    changes = x.changes;
    given = x.given;
    comes = x.comes;
    leads = x.leads;
    begins_is = x.begins_is;
    next_is = refl;
    moves_are = moves_told;
    ended = ap last.Answer x.status_is;
  }

  fits : Fits secret c r e next
  fits = record { number = refl; puts = refl; happens = came; shown = none_shown }

  end_is : end (c.moves ++ moves) ≡ end_from (end c.moves) x.leads.moves
  end_is = end_from-append empty c.moves moves ∙ ap (end_from (end c.moves)) moves_told

  slot_same : (name : Bytes) → device_slot gave.ends name ≡ device_slot replaying.ends name
  slot_same name = ap slot_of_device (x.devices name)

  made_same : next.made ≡ w.made
  made_same = x.leads.made_is

  at_now : IsAt script secret (record { ends = gave.ends; seen = behind }) now
  at_now = record {
    legal = legal_append empty c.moves moves at.legal (subst (LegalFrom (end c.moves)) (sym moves_told) x.legal);
    stands = subst (Stands gave.ends secret next) (sym end_is) x.stands;
    fits = fit secret w (end c.moves) the_line at.fits tt tt x.leads;
    holds_of = subst (HoldsOf (IsPasswordOf script) next) (sym end_is)
        (each_holds_of (IsPasswordOf script) stay secret w (end c.moves) the_line at.stands.holds at.holds_of tt tt x.leads);
    held = subst AreHeld (sym end_is)
        (held_along keeps stays secret differ w (end c.moves) (line_steps x.leads.begins the_line) x.leads.moves next at.stands.holds at.held x.leads.goes);
    labels_are = labels_see ∙ ap (λ (ls : Labels). labels_of false ls moves) at.labels_are;
    names_are = names_see ∙ at.names_are;
    begun = λ name none. x.leads.devices_are name ∙ at.begun name none;
    server_is = server_see ∙ ap (rows_behind_all (row_in replaying.seen.server)) x.gained ∙ rows_gained (row_in replaying.seen.server) x.changes
        ∙ ap (λ (rows : Rows). rows_after rows x.changes) at.server_is ∙ sym x.leads.server_is;
    devices_are = λ name. devices_see name ∙ at.devices_are name ∙ sym (x.leads.devices_are name);
    requests_are = λ name.
        subst (λ (ms : List Made). AllZip IsKeptOf (made_by name ms) (requests_of behind.requests name)) (sym made_same)
        (subst (λ q. AllZip IsKeptOf (made_by name w.made) (requests_of q name)) (sym requests_see) (at.requests_are name));
    marks_are = λ name. at.marks_are name ∙ ap slot_mark (sym (slot_same name));
    marks_read = λ name.
        subst (λ (slot : Slot MemDisk). SlotReads slot DeviceOwner (c.marks name) (next.devices name)) (sym (slot_same name))
        (subst (λ (rows : Rows). SlotReads (device_slot replaying.ends name) DeviceOwner (c.marks name) rows) (sym (x.leads.devices_are name)) (at.marks_read name));
  }

  pub late_tells : Tells script secret replaying c r (record { replaying = record { ends = gave.ends; seen = behind }; event = e })
  late_tells = record {
    next = next;
    grow = record { server = x.grow.server; devices = x.grow.devices };
    fits = fits;
    at = at_now;
    server_mark = marked.0;
    server_reads = marked.1;
  }
