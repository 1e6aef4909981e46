-- The event of a call tells what the call made of both ends.
use Rattle.std.proofs.Common.{◌≡◌, ◌≢◌, ◌⊎◌, ℕ, List, [], ◌∷◌, ◌++◌, Bool, true, false, Option, Some, None, map, refl, sym, ap, ◌∙◌, subst, inl, inr, ⊎_elim}
use Rattle.std.specs.Prelude.{if◌then◌else◌}
use Rattle.std.specs.List.{AllZip}
use Rattle.std.specs.Str.{bytes_eq}
use Rattle.rand_chacha.specs.ChaCha.{ChaCha}
use Rattle.sn_device.specs.Laws.{StepsStaySound}
use Rattle.sn_device.specs.Runs.{Act, Call, Halt, answered, broken, refused, rows_done}
use Rattle.sn_course.specs.Stages.{Stage, Reported, made_by, marks_with, names_with, past}
use Rattle.sn_course.specs.Fits.{Called, EndsSo, EndsWell, Fits, ShowsAs}
use Rattle.sn_course.specs.Headline.{IsPasswordOf}
use Rattle.sn_course.specs.Lines.{device_of, fates_of}
use Rattle.sn_course.specs.Settings.{words_of}
use Rattle.sn_disk.specs.Shelf.{Slot}
use Rattle.sn_disk.specs.declared.memory.MemDisk.{MemDisk}
use Rattle.sn_events.specs.Calling.{host}
use Rattle.sn_events.specs.Slots.{device_slot, slot_mark, slot_of_device}
use Rattle.sn_events.specs.Standing.{Stands}
use Rattle.sn_events.specs.declared.ends.Ends.{Ends}
use Rattle.sn_journal.specs.declared.owner.Owner.TheVariants.{Device as DeviceOwner}
use Rattle.sn_laws.proofs.Facts.{end_from-append, text_same}
use Rattle.sn_laws.specs.Each.{One}
use Rattle.sn_laws.specs.Lookups.{Bytes, empty}
use Rattle.sn_laws.specs.Moves.{after}
use Rattle.sn_laws.specs.Runs.{Legal, LegalFrom, end, end_from}
use Rattle.sn_laws.specs.declared.ideal.Ideal.{Ideal}
use Rattle.sn_laws.specs.declared.moves.Move.{Move}
use Rattle.sn_lines.proofs.Facts.{each_holds_of}
use Rattle.sn_lines.specs.Fits.{EachFits}
use Rattle.sn_lines.specs.Passwords.{HoldsOf}
use Rattle.sn_report.specs.Labels.{Labels, labels_of}
use Rattle.sn_report.specs.declared.report.DeviceMark.{DeviceMark}
use Rattle.sn_report.specs.declared.report.Event.{Event}
use Rattle.sn_row_map.specs.RowMaps.{row_in}
use Rattle.sn_rows.specs.Table.{Rows, no_rows}
use Rattle.sn_script.specs.declared.script.Script.{Script}
use Rattle.sn_string.specs.declared.params.KeySet.{KeySet}
use Rattle.sn_sync.specs.declared.request.Request.{Request}
use Rattle.sn_tail.specs.Shelves.{SlotReads}
use Rattle.sn_telling.specs.Laws.{CallsTell, IsTelling, IsWhole}
use Rattle.sn_telling.specs.Walking.{SaysWalk, requests_in}
use Rattle.sn_telling.specs.declared.calling.Calling.{Calling}
use Rattle.sn_world.specs.Calls.{Fate, call_steps}
use Rattle.sn_world.specs.Happens.{Happens}
use Rattle.sn_world.specs.Holders.{AreHeld, KeepsHeld}
use Rattle.sn_world.specs.Holds.{TokensDiffer}
use Rattle.sn_world.specs.Laws.{Keeps}
use Rattle.sn_world.specs.Sessions.{LeadsLine, Line, calls, line_steps, made_behind, rows_ended, with_end}
use Rattle.sn_world.specs.World.{Made, World}
use Rattle.sn_replay.specs.Coming.{HasCame, IsEventOf}
use Rattle.sn_replay.specs.Keeping.{IsKeptOf, kept_all, puts_of, requests_of}
use Rattle.sn_replay.specs.Lines.{setting_at}
use Rattle.sn_replay.specs.Mirrored.{mirrored}
use Rattle.sn_replay.specs.Playing.{IsAt, IsLineOf, SaysOneList, Tells}
use Rattle.sn_replay.specs.declared.came.Came.{Came}
use Rattle.sn_replay.specs.declared.kept.Kept.{Kept}
use Rattle.sn_replay.specs.declared.replaying.Replaying.{Replaying}
use Rattle.sn_replay.specs.declared.replaying.Seen.{Seen}
use Rattle.sn_replay.specs.declared.replaying.LineTold.{LineTold}
use Rattle.sn_replay.proofs.Holding.{held_along}
use Rattle.sn_replay.proofs.Making.{bytes_apart, names_among, names_grow, others_made, own_kept, same_or_apart}

pub legal_append : (s : Ideal) (xs ys : List Move) → LegalFrom s xs → LegalFrom (end_from s xs) ys → LegalFrom s (xs ++ ys)
legal_append s [] ys h k = k
legal_append s (x ∷ xs) ys h k = (h.0, legal_append (after s x) xs ys h.1 k)

-- ---- a call whose disk didn't fail

pub ended_whole : (halt : Halt) (rows : Rows) → IsWhole halt → rows_ended halt true rows ≡ rows
ended_whole (answered given left) rows whole = refl
ended_whole (refused why) rows whole = refl
ended_whole (broken what changes) rows whole = absurd whole

pub steps_whole : (name : Bytes) (halt : Halt) (steps : List Happens) → IsWhole halt → with_end name halt true steps ≡ steps
steps_whole name (answered given left) steps whole = refl
steps_whole name (refused why) steps whole = refl
steps_whole name (broken what changes) steps whole = absurd whole

-- what a device is told by its name, and what every other device keeps
pub by_name : (P : Bytes → Type 0) (name : Bytes) → P name → ((other : Bytes) → other ≢ name → P other) → (other : Bytes) → P other
by_name P name own others other =
    ⊎_elim (λ (e : other ≡ name). subst P (sym e) own) (λ (k : other ≢ name). others other k) (same_or_apart other name)

module _ (tell : CallsTell) (fit : EachFits) (keeps : Keeps) (stays : KeepsHeld) (stay : StepsStaySound) (script : Script) (secret : Bytes)
    (differ : TokensDiffer secret) (c : Stage) (r : Reported) (name : Bytes) (call : Call) (calling : Calling) (old : Ends) (seen behind : Seen) (came : Came)
    (moves : List Move) (begun : List (Option KeySet)) (e : Event)
    (at : IsAt script secret (record { ends = old; seen = seen }) c) (l : IsLineOf script secret c r name call calling)
    (x : HasCame secret c.world (end c.moves) name call (words_of r.settings r.number) (setting_at r.settings (fates_of r.asks)) old came)
    (walk : SaysWalk calling name (row_in seen.server) (mirrored seen.devices name) false None came.batches came.exchanged moves begun (row_in behind.server)
    (mirrored behind.devices name))
    (others_see : (other : Bytes) → other ≢ name → mirrored behind.devices other ≡ mirrored seen.devices other)
    (labels_see : behind.labels ≡ labels_of (puts_of calling) seen.labels moves) (names_see : behind.names ≡ names_with seen.names (Some name))
    (requests_see : requests_of behind.requests name ≡ requests_of seen.requests name ++ kept_all (requests_in came.exchanged) begun)
    (others_keep : (other : Bytes) → other ≢ name → requests_of behind.requests other ≡ requests_of seen.requests other)
    (event : IsEventOf came.ends x.leads.next r.number name (puts_of calling) moves came.last e) where
  abbrev words : ChaCha
  words = words_of r.settings r.number

  abbrev begins : Request → Option KeySet
  begins = x.leads.begins

  abbrev w : World
  w = c.world

  abbrev next : World
  next = x.leads.next

  abbrev now : Stage
  now = past c r.asks e next

  abbrev the_line : Line
  the_line = calls name 1 call words x.acts x.fates x.halt true

  -- ---- what is told

  walk_here : SaysWalk calling name w.server (w.devices name) false None came.batches came.exchanged moves begun (row_in behind.server) (mirrored behind.devices name)
  walk_here =
      subst (λ (rows : Rows). SaysWalk calling name rows (w.devices name) false None came.batches came.exchanged moves begun (row_in behind.server) (mirrored behind.devices name))
      at.server_is
      (subst (λ (rows : Rows). SaysWalk calling name (row_in seen.server) rows false None came.batches came.exchanged moves begun (row_in behind.server)
      (mirrored behind.devices name)) (at.devices_are name) walk)

  told : (other : LeadsLine secret w (end c.moves) the_line)
      → IsTelling w name other.begins x.acts x.fates other.moves moves begun (row_in behind.server) (mirrored behind.devices name)
  told other =
      tell secret host w (end c.moves) name call calling words x.acts x.fates x.halt came.batches came.exchanged moves begun (row_in behind.server)
      (mirrored behind.devices name) differ at.stands.holds x.whole l.is x.comes.runs x.comes.over x.told x.readable walk_here other

  one_list : SaysOneList secret c r name call x.acts x.fates x.halt x.leads.moves
  one_list other = sym (told other).moves_are ∙ (told x.leads).moves_are

  -- ---- the moves

  moves_told : e.moves ≡ x.leads.moves
  moves_told = event.moves_are ∙ (told x.leads).moves_are

  end_is : end (c.moves ++ e.moves) ≡ end_from (end c.moves) x.leads.moves
  end_is = end_from-append empty c.moves e.moves ∙ ap (end_from (end c.moves)) moves_told

  ended : EndsSo x.halt e.last
  ended = subst (EndsSo x.halt) (sym event.last_is) x.ended

  called : Called secret c r name call e next
  called = record {
    acts = x.acts;
    fates = x.fates;
    halt = x.halt;
    comes = x.comes;
    leads = x.leads;
    next_is = refl;
    moves_are = moves_told;
    by_losses = x.by_losses;
    link_lost = x.link_lost;
    at = x.at;
    ended = ended;
    well = subst (λ (ms : List Move). EndsWell call name (end c.moves) (next.devices name) (end (c.moves ++ ms)) e.last) (sym moves_told)
        (l.well x.acts x.fates x.halt x.comes x.leads one_list e.last ended);
  }

  fits : Fits secret c r e next
  fits = record {
    number = event.number_is;
    puts = event.puts_is ∙ sym l.puts;
    happens = l.happens e next called;
    shown = subst (ShowsAs r.asks c) (sym event.shown_none) l.shows;
  }

  -- ---- the rows

  next_own : next.devices name ≡ rows_done (w.devices name) x.acts
  next_own =
      x.leads.devices_are name
      ∙ ap (λ (b : Bool). if b then rows_ended x.halt true (rows_done (w.devices name) x.acts) else w.devices name) (text_same name name refl)
      ∙ ended_whole x.halt (rows_done (w.devices name) x.acts) x.whole

  next_other : (other : Bytes) → other ≢ name → next.devices other ≡ w.devices other
  next_other other apart =
      x.leads.devices_are other
      ∙ ap (λ (b : Bool). if b then rows_ended x.halt true (rows_done (w.devices other) x.acts) else w.devices other) (bytes_apart other name apart)

  server_now : row_in behind.server ≡ next.server
  server_now = (told x.leads).server_is ∙ sym x.leads.server_is

  devices_now : (other : Bytes) → mirrored behind.devices other ≡ next.devices other
  devices_now =
      by_name (λ (n : Bytes). mirrored behind.devices n ≡ next.devices n) name
      ((told x.leads).rows_are ∙ sym next_own)
      (λ other apart. others_see other apart ∙ at.devices_are other ∙ sym (next_other other apart))

  -- ---- the requests

  made_now : next.made ≡ made_behind w.made (call_steps name begins x.acts x.fates)
  made_now = x.leads.made_is ∙ ap (made_behind w.made) (steps_whole name x.halt (call_steps name begins x.acts x.fates) x.whole)

  requests_now : (other : Bytes) → AllZip IsKeptOf (made_by other next.made) (requests_of behind.requests other)
  requests_now =
      by_name (λ (n : Bytes). AllZip IsKeptOf (made_by n next.made) (requests_of behind.requests n)) name
      (subst (λ (ms : List Made). AllZip IsKeptOf (made_by name ms) (requests_of behind.requests name)) (sym made_now)
      (subst (λ (ks : List Kept). AllZip IsKeptOf (made_by name (made_behind w.made (call_steps name begins x.acts x.fates))) ks) (sym requests_see)
      (own_kept name begins x.acts x.fates came.batches came.exchanged begun w.made (requests_of seen.requests name) x.told x.readable (told x.leads).begun_are
      (at.requests_are name))))
      (λ other apart.
      subst (λ (ms : List Made). AllZip IsKeptOf (made_by other ms) (requests_of behind.requests other)) (sym made_now)
      (subst (λ (ms : List Made). AllZip IsKeptOf ms (requests_of behind.requests other)) (sym (others_made name begins other apart x.acts x.fates w.made))
      (subst (λ (ks : List Kept). AllZip IsKeptOf (made_by other w.made) ks) (sym (others_keep other apart)) (at.requests_are other))))

  -- ---- what holds of the sets, and which devices have begun

  holds_now : HoldsOf (IsPasswordOf script) next (end (c.moves ++ e.moves))
  holds_now =
      subst (HoldsOf (IsPasswordOf script) next) (sym end_is)
      (each_holds_of (IsPasswordOf script) stay secret w (end c.moves) the_line at.stands.holds at.holds_of l.gives x.comes.runs x.leads)

  held_now : AreHeld (end (c.moves ++ e.moves))
  held_now =
      subst AreHeld (sym end_is)
      (held_along keeps stays secret differ w (end c.moves) (line_steps begins the_line) x.leads.moves next at.stands.holds at.held x.leads.goes)

  begun_own : (other : Bytes) → ¬ (One (λ n. n ≡ other) (names_with c.names (Some name))) → next.devices other ≡ no_rows
  begun_own other none =
      ⊎_elim (λ (e : other ≡ name). absurd (none (subst (λ (n : Bytes). One (λ m. m ≡ n) (names_with c.names (Some name))) (sym e) (names_among c.names name))))
      (λ (k : other ≢ name). next_other other k ∙ at.begun other (λ one. none (names_grow (λ n. n ≡ other) c.names (Some name) one))) (same_or_apart other name)

  begun_now : (other : Bytes) → ¬ (One (λ n. n ≡ other) now.names) → next.devices other ≡ no_rows
  begun_now = subst (λ (d : Option Bytes). (other : Bytes) → ¬ (One (λ n. n ≡ other) (names_with c.names d)) → next.devices other ≡ no_rows) (sym l.named) begun_own

  -- ---- the marks

  mark_own : now.marks name ≡ event.mark.mark
  mark_own =
      ap (λ (d : Option DeviceMark). marks_with c.marks d name) event.mark_is
      ∙ ap (λ (b : Bool). if b then event.mark.mark else c.marks name) (text_same event.mark.name name event.named)

  mark_other : (other : Bytes) → other ≢ name → now.marks other ≡ c.marks other
  mark_other other apart =
      ap (λ (d : Option DeviceMark). marks_with c.marks d other) event.mark_is
      ∙ ap (λ (b : Bool). if b then event.mark.mark else c.marks other) (bytes_apart event.mark.name other (λ k. apart (sym k ∙ event.named)))

  slot_other : (other : Bytes) → other ≢ name → device_slot came.ends other ≡ device_slot old other
  slot_other other apart = ap slot_of_device (x.goes_on.others other apart)

  marks_now : (other : Bytes) → now.marks other ≡ slot_mark (device_slot came.ends other)
  marks_now =
      by_name (λ (n : Bytes). now.marks n ≡ slot_mark (device_slot came.ends n)) name (mark_own ∙ event.device_mark)
      (λ other apart. mark_other other apart ∙ at.marks_are other ∙ ap slot_mark (sym (slot_other other apart)))

  reads_now : (other : Bytes) → SlotReads (device_slot came.ends other) DeviceOwner (now.marks other) (next.devices other)
  reads_now =
      by_name (λ (n : Bytes). SlotReads (device_slot came.ends n) DeviceOwner (now.marks n) (next.devices n)) name
      (subst (λ (m : ℕ). SlotReads (device_slot came.ends name) DeviceOwner m (next.devices name)) (sym mark_own) event.device_reads)
      (λ other apart.
      subst (λ (m : ℕ). SlotReads (device_slot came.ends other) DeviceOwner m (next.devices other)) (sym (mark_other other apart))
      (subst (λ (rows : Rows). SlotReads (device_slot came.ends other) DeviceOwner (c.marks other) rows) (sym (next_other other apart))
      (subst (λ (slot : Slot MemDisk). SlotReads slot DeviceOwner (c.marks other) (w.devices other)) (sym (slot_other other apart)) (at.marks_read other))))

  -- ---- all of it

  replaying_now : Replaying
  replaying_now = record { ends = came.ends; seen = behind }

  at_now : IsAt script secret (record { ends = came.ends; seen = behind }) now
  at_now = record {
    legal = legal_append empty c.moves e.moves at.legal (subst (LegalFrom (end c.moves)) (sym moves_told) x.legal);
    stands = subst (Stands came.ends secret next) (sym end_is) x.stands;
    fits = fit secret w (end c.moves) the_line at.fits l.fits x.comes.runs x.leads;
    holds_of = holds_now;
    held = held_now;
    labels_are = labels_see ∙ ap (λ (ls : Labels). labels_of (puts_of calling) ls moves) at.labels_are
        ∙ ap (λ (b : Bool). labels_of b c.labels moves) (sym event.puts_is) ∙ ap (labels_of e.puts c.labels) (sym event.moves_are);
    names_are = names_see ∙ ap (λ (ns : List Bytes). names_with ns (Some name)) at.names_are ∙ ap (names_with c.names) (sym l.named);
    begun = begun_now;
    server_is = server_now;
    devices_are = devices_now;
    requests_are = requests_now;
    marks_are = marks_now;
    marks_read = reads_now;
  }

  pub tells : Tells script secret (record { ends = old; seen = seen }) c r (record { replaying = record { ends = came.ends; seen = behind }; event = e })
  tells = record {
    next = next;
    grow = record { server = x.grow.server; devices = x.grow.devices };
    fits = fits;
    at = at_now;
    server_mark = event.server_mark;
    server_reads = event.server_reads;
  }
