-- An event, by how its call ended and by its line.
use Rattle.std.proofs.Common.{arith, ◌≡◌, ◌≢◌, ◌++◌, ℕ, List, Bool, true, false, Result, Ok, Err, Some, refl, sym, ap, ◌∙◌, subst}
use Rattle.std.specs.Prelude.{IfOk, if◌then◌else◌}
use Rattle.std.specs.Str.{bytes_eq}
use Rattle.std.specs.declared.option.Option.{Option}
use Rattle.rand_chacha.specs.ChaCha.{ChaCha}
use Rattle.sn_client.specs.Calls.{Calls, CallsOver, Ends as CallEnds, IfRefused, IsOpen, called_disk, kept_done}
use Rattle.sn_device.specs.Runs.{Act, AreExchanges, Call, Given, Halt, Run, answered, broken, refused, rows_done}
use Rattle.sn_client.specs.declared.called.Called.{Called}
use Rattle.sn_client.specs.declared.called.Called.TheVariants as how
use Rattle.sn_client.specs.declared.device.Device.{Device as AnyDevice}
use Rattle.sn_device.specs.declared.error.ClientError.{ClientError}
use Rattle.sn_device.specs.declared.error.ClientError.TheVariants as refusal
use Rattle.sn_disk.specs.declared.disk.Disk.{Ghosts}
use Rattle.sn_disk.specs.MemDisk.{Grows}
use Rattle.sn_disk.specs.declared.memory.MemDisk.{MemDisk}
use Rattle.sn_events.proofs.Batches.{batches_done, done_are, kept_are, rows_are_done}
use Rattle.sn_events.proofs.Growing.{ends_grow, from_on}
use Rattle.sn_events.proofs.Quiet.{quiet_runs}
use Rattle.sn_events.specs.Answers.{IsAnswered, IsHalt, IsPlain}
use Rattle.sn_events.specs.Calling.{IsPutBack, IsReady, host}
use Rattle.sn_events.specs.Devices.{DeviceHas, HasRows, device_of}
use Rattle.sn_events.specs.Events.{AsksReadable, CallCame}
use Rattle.sn_events.specs.Fates.{AnyAskLost}
use Rattle.sn_events.specs.Growing.{ComesFrom, EndsGoOn, held_disk}
use Rattle.sn_events.specs.Laws.{CallsCome, LineCame, QuietCome, commits_of}
use Rattle.sn_events.specs.Servers.{ServesRows}
use Rattle.sn_events.specs.Standing.{Stands}
use Rattle.sn_events.specs.declared.calling.Calling.{Calling}
use Rattle.sn_events.specs.declared.ends.Ends.{Ends}
use Rattle.sn_events.specs.declared.outcome.Outcome.{Outcome}
use Rattle.sn_events.specs.declared.setting.Setting.{Setting}
use Rattle.sn_events.specs.declared.steady.Holding.{Holding}
use Rattle.sn_io.specs.Causes.{Rose}
use Rattle.sn_journal.specs.declared.owner.Owner.TheVariants.{Device as DeviceOwner}
use Rattle.sn_laws.proofs.Facts.{clash, same_text, text_same}
use Rattle.sn_laws.specs.Lookups.{Bytes}
use Rattle.sn_laws.specs.declared.ideal.Ideal.{Ideal}
use Rattle.sn_lines.specs.Lines.{MayCall}
use Rattle.sn_link.specs.Deliveries.{serves}
use Rattle.sn_link.specs.Holdings.{GoesOn, goes_further}
use Rattle.sn_link.specs.Links.{link_faults, link_held}
use Rattle.sn_link.specs.declared.delivery.Held.{Held}
use Rattle.sn_recorder.specs.Recorded.{Records, recorded_link, recorded_place}
use Rattle.sn_recorder.specs.Told.{AreTold}
use Rattle.sn_recorder.specs.declared.exchanged.Exchanged.{Exchanged}
use Rattle.sn_recorder.specs.declared.recording.RecordingLink.{RecordingLink}
use Rattle.sn_rows.specs.Table.{Rows, rows_of_batches}
use Rattle.sn_rows.specs.declared.change.Change.{Change}
use Rattle.sn_server.specs.Loads.{kept_of as kept_all}
use Rattle.sn_table.specs.Kept.{Kept, kept_of}
use Rattle.sn_tail.specs.Places.{place_behind}
use Rattle.sn_world.specs.Calls.{AsksNothing}
use Rattle.sn_world.specs.Holds.{TokensDiffer}
use Rattle.sn_world.specs.Sessions.{rows_ended}
use Rattle.sn_world.specs.World.{World}

-- a call that ends in no failing disk leaves the rows of its acts
plain_rows : (halt : Halt) (rows : Rows) → IsPlain halt → rows_ended halt true rows ≡ rows
plain_rows (answered given left) rows plain = refl
plain_rows (refused why) rows plain = refl
plain_rows (broken what changes) rows plain = absurd plain

-- a count that rose isn't 0
rose_some : (before now : ℕ) → Rose before now → now ≢ 0
rose_some before now rose = λ none. absurd (omega (arith, rose, none))

-- a call that is refused was refused so
same_why : (why other : ClientError) → refused why ≡ refused other → other ≡ why
same_why why other is = cc

module _ {S T : Type 0} (hold : S → ℕ → Holding) (is_open : S → Kept → Type 0) (may_have : MemDisk → Kept → List Change → Type 0) (gives : T → Given)
    (to_rows : (device : S) (place : ℕ) (batches : List (List Change)) (rows : Rows) → is_open device (kept_of batches) → rows_of_batches batches ≡ rows → place ≡ place_behind DeviceOwner batches
    → HasRows (Some (hold device place)) rows)
    (secret : Bytes) (w : World) (s : Ideal) (name : Bytes) (call : Call) (words left : ChaCha) (setting : Setting) (old : Ends) (outcome : Outcome T)
    (calling : Calling) (link : RecordingLink) (called : Called S MemDisk T) (batches : List (List Change)) (rows_are : rows_of_batches batches ≡ w.devices name)
    (place_is : calling.place ≡ place_behind DeviceOwner batches) (disk_of : S → MemDisk) (before : S) (came_from : ComesFrom (device_of old.devices name) (hold before calling.place))
    (grew : Grows (disk_of before) (called_disk disk_of called)) (held_is : (x : S) (place : ℕ) → held_disk (hold x place) ≡ disk_of x) (stands : Stands old secret w s)
    (ready : IsReady old setting name calling) (back : IsPutBack hold is_open link calling.devices calling.place name called outcome) where
  -- how it ended
  record Ended (acts : List Act) (halt : Halt) (device : S) (gave : Result T ClientError) : Type 0 where
    plain : IsPlain halt
    halt_is : IsHalt gives left gave halt
    stood : is_open device (kept_done (kept_of batches) acts)

  ended : (acts : List Act) (halt : Halt) (device : S) (done : Called S MemDisk T) (gave : Result T ClientError)
      → CallEnds is_open may_have gives (kept_of batches) acts halt left done → IsAnswered done device gave → Ended acts halt device gave
  ended acts halt device (how.Done d given) (Ok value) ends (same, is) = record {
    plain = subst IsPlain (sym ends.0) tt;
    halt_is = ends.0 ∙ ap (λ (v : T). answered (gives v) left) (sym is);
    stood = subst (λ (x : S). is_open x (kept_done (kept_of batches) acts)) (sym same) ends.1;
  }
  ended acts halt device (how.Done d given) (Err error) ends none = absurd none
  ended acts halt device (how.Refused d why) (Ok value) ends none = absurd none
  ended acts halt device (how.Refused d why) (Err error) ends (same, is, unwanted) = record {
    plain = subst IsPlain (sym ends.0) unwanted;
    halt_is = ends.0 ∙ ap (λ (e : ClientError). refused e) (sym is);
    stood = subst (λ (x : S). is_open x (kept_done (kept_of batches) acts)) (sym same) ends.1;
  }
  ended acts halt device (how.Broken disk) (Ok value) ends none = absurd none
  ended acts halt device (how.Broken disk) (Err error) ends none = absurd none

  -- what is known of the refusal that was given holds of the one by which the call ended
  refused_so : (acts : List Act) (halt : Halt) (done : Called S MemDisk T) (P : ClientError → Type 0) (why : ClientError) → CallEnds is_open may_have gives (kept_of batches) acts halt left done
      → IfRefused done P → halt ≡ refused why → P why
  refused_so acts halt (how.Done d given) P why ends so is = absurd (let is_done = ends.0 in let impossible : ⊥ = cc in impossible)
  refused_so acts halt (how.Refused d other) P why ends so is = subst P (same_why why other (sym is ∙ ends.0)) so
  refused_so acts halt (how.Broken disk) P why ends so is = absurd (let is_broken = ends.2 in let impossible : ⊥ = cc in impossible)

  disk_same : (done : Called S MemDisk T) (device : S) (gave : Result T ClientError) → IsAnswered done device gave → called_disk disk_of done ≡ disk_of device
  disk_same (how.Done d given) device (Ok value) gives_so = sym (ap disk_of gives_so.0)
  disk_same (how.Done d given) device (Err error) none = absurd none
  disk_same (how.Refused d why) device (Ok value) none = absurd none
  disk_same (how.Refused d why) device (Err error) gives_so = sym (ap disk_of gives_so.0)
  disk_same (how.Broken disk) device (Ok value) none = absurd none
  disk_same (how.Broken disk) device (Err error) none = absurd none

  grown : Grows (held_disk (hold before calling.place)) (held_disk (hold back.device back.gate))
  grown =
      subst (λ (d : MemDisk). Grows d (held_disk (hold back.device back.gate))) (sym (held_is before calling.place))
      (subst (Grows (disk_of before)) (disk_same called back.device outcome.answer back.gives ∙ sym (held_is back.device back.gate)) grew)

  goes_on : GoesOn (link_held old.link) (link_held (recorded_link link)) → EndsGoOn name old outcome.ends
  goes_on goes = record {
    server = subst (GoesOn (link_held old.link)) (sym back.server.held) goes;
    device = hold back.device back.gate;
    own = back.own;
    from = from_on (device_of old.devices name) (hold before calling.place) (hold back.device back.gate) came_from grown;
    others = λ other apart. back.others other apart ∙ ready.others other apart;
  }

  module _ (acts : List Act) (halt : Halt) (e : Ended acts halt back.device outcome.answer) (x : LineCame secret w s name call words acts halt setting link) where
    -- the batches of the device's store are those of the commits, behind those of before
    gained : (outcome.batches ≡ commits_of acts) × (back.gate ≡ place_behind DeviceOwner (batches ++ commits_of acts))
    gained = back.behind (kept_done (kept_of batches) acts) batches (commits_of acts) e.stood (ap (λ (k : Kept). k.batches) (kept_are batches acts) ∙ done_are batches acts) place_is

    line_rows : Bytes → Rows
    line_rows other = if bytes_eq other name then rows_ended halt true (rows_done (w.devices other) acts) else w.devices other

    own_rows : rows_of_batches (batches_done batches acts) ≡ x.leads.next.devices name
    own_rows =
        rows_are_done batches acts ∙ ap (λ (rows : Rows). rows_done rows acts) rows_are
        ∙ sym (plain_rows halt (rows_done (w.devices name) acts) e.plain)
        ∙ sym (ap (λ (b : Bool). if b then rows_ended halt true (rows_done (w.devices name) acts) else w.devices name) (text_same name name refl))
        ∙ sym (x.leads.devices_are name)

    own : HasRows (device_of outcome.ends.devices name) (x.leads.next.devices name)
    own = subst (λ (o : Option Holding). HasRows o (x.leads.next.devices name)) (sym back.own)
        (to_rows back.device back.gate (batches_done batches acts) (x.leads.next.devices name) (subst (is_open back.device) (kept_are batches acts) e.stood) own_rows
        (gained.1 ∙ ap (λ (bs : List (List Change)). place_behind DeviceOwner bs) (sym (done_are batches acts))))

    at : (other : Bytes) (b : Bool) → bytes_eq other name ≡ b → HasRows (device_of outcome.ends.devices other) (x.leads.next.devices other)
    at other true same = subst (λ (n : Bytes). HasRows (device_of outcome.ends.devices n) (x.leads.next.devices n)) (sym (same_text other name same)) own
    at other false off =
        let apart : other ≢ name = λ is. clash (bytes_eq other name) (text_same other name is) off in
        let same : x.leads.next.devices other ≡ w.devices other = x.leads.devices_are other
        ∙ ap (λ (b : Bool). if b then rows_ended halt true (rows_done (w.devices other) acts) else w.devices other) off in
        subst (HasRows (device_of outcome.ends.devices other)) (sym same)
        (subst (λ (o : Option Holding). HasRows o (w.devices other)) (sym (back.others other apart ∙ ready.others other apart)) (stands.devices other))

    server : ServesRows (link_held outcome.ends.link) outcome.ends.place x.leads.next.server
    server = subst (λ (p : ℕ). ServesRows (link_held outcome.ends.link) p x.leads.next.server) (sym back.server.place_is)
        (subst (λ (o : Option Held). ServesRows o (recorded_place link) x.leads.next.server) (sym back.server.held) x.server)

    told : AreTold host acts x.fates outcome.batches outcome.exchanged
    told = subst (λ (es : List Exchanged). AreTold host acts x.fates outcome.batches es) (sym back.exchanged_are)
        (subst (λ (bs : List (List Change)). AreTold host acts x.fates bs link.exchanged) (sym gained.0) x.told)

    came : (halt ≡ refused refusal.LinkFault → AnyAskLost setting.losses 1 acts) → GoesOn (link_held old.link) (link_held (recorded_link link))
        → CallCame secret w s name call words left setting gives old outcome
    came lost goes = record {
      acts = acts;
      fates = x.fates;
      halt = halt;
      comes = x.comes;
      leads = x.leads;
      legal = x.keeps.0;
      stands = record { server = server; devices = λ other. at other (bytes_eq other name) refl; holds = x.keeps.1 };
      halt_is = e.halt_is;
      by_losses = x.by_losses;
      link_lost = lost;
      at = x.at;
      told = told;
      readable = x.readable;
      goes_on = goes_on goes;
      grow = ends_grow name old outcome.ends (serves (kept_all stands.server.batches)) stands.server.holds (goes_on goes);
    }

  -- the server's disk while the link is aimed and set
  set_goes : GoesOn (link_held old.link) (link_held (recorded_link calling.link))
  set_goes = subst (λ (o : Option Held). GoesOn o (link_held (recorded_link calling.link))) ready.recording.begun_so.held ready.recording.unasked.goes_on

  runs_so : (acts : List Act) (halt : Halt) (least : ℕ) → least ≡ 1 → Run least call (rows_of_batches batches) words acts halt → Run 1 call (w.devices name) words acts halt
  runs_so acts halt least one runs =
      subst (λ (rows : Rows). Run 1 call rows words acts halt) rows_are (subst (λ (n : ℕ). Run n call (rows_of_batches batches) words acts halt) one runs)

  -- a call that asks nothing
  pub quiet_came : QuietCome → TokensDiffer secret → AsksNothing call → (least : ℕ) → least ≡ 1 → Calls is_open may_have gives least call (kept_of batches) words left called
      → link ≡ calling.link → CallCame secret w s name call words left setting gives old outcome
  quiet_came law differ quiet least one calls same =
      let e = ended calls.acts calls.halt back.device called outcome.answer calls.ends back.gives in
      came calls.acts calls.halt e
      (subst (λ (l : RecordingLink). LineCame secret w s name call words calls.acts calls.halt setting l) (sym same)
      (law secret w s name call words calls.acts calls.halt setting old.link old.place calling.link differ stands.holds quiet
      (runs_so calls.acts calls.halt least one calls.runs) e.plain stands.server ready.recording))
      (λ fault. absurd ((quiet_runs call (w.devices name) words calls.acts calls.halt quiet (runs_so calls.acts calls.halt least one calls.runs)).1 fault))
      (subst (λ (l : RecordingLink). GoesOn (link_held old.link) (link_held (recorded_link l))) (sym same) set_goes)

  -- a call over the link
  pub over_came : CallsCome → TokensDiffer secret → MayCall s (w.devices name) call → AsksReadable call (w.devices name) → (least : ℕ) → least ≡ 1
      → CallsOver is_open may_have gives least call (Records calling.link link) calling.link.link.host (kept_of batches) words left called
      → IfRefused called (λ why. why ≡ refusal.LinkFault → Rose (link_faults (recorded_link calling.link)) (link_faults (recorded_link link)))
      → CallCame secret w s name call words left setting gives old outcome
  over_came law differ may readable least one calls faults =
      let e = ended calls.acts calls.halt back.device called outcome.answer calls.ends back.gives in
      let runs = runs_so calls.acts calls.halt least one calls.runs in
      let records : Records calling.link link calls.exchanges = calls.asked_so in
      let x = law secret w s name call words calls.acts calls.halt calls.exchanges setting old.link old.place calling.link link differ stands.holds may runs e.plain
      (readable words calls.acts calls.halt runs w.server)
      (subst (λ (h : Bytes). AreExchanges h calls.acts calls.exchanges) ready.recording.aimed_is calls.are)
      stands.server ready.recording records back.server.whole back.server.open_held in
      let fault_rose : calls.halt ≡ refused refusal.LinkFault → Rose (link_faults (recorded_link calling.link)) (link_faults (recorded_link link)) =
      λ fault. refused_so calls.acts calls.halt called (λ why. why ≡ refusal.LinkFault → Rose (link_faults (recorded_link calling.link)) (link_faults (recorded_link link)))
      refusal.LinkFault calls.ends faults fault refl in
      came calls.acts calls.halt e x
      (λ fault. x.link_lost (rose_some (link_faults (recorded_link calling.link)) (link_faults (recorded_link link)) (fault_rose fault)))
      (goes_further (link_held old.link) (link_held (recorded_link calling.link)) (link_held (recorded_link link)) set_goes records.asks.goes_on)

-- what holds of each good result
pub ok_on : {A E : Type 0} (P Q : A → Type 0) (r : Result A E) → ((a : A) → P a → Q a) → IfOk r P → IfOk r Q
ok_on P Q (Ok a) more p = more a p
ok_on P Q (Err e) more p = tt

-- the device of a name, by what it has
pub has_rows : {D : Type 0} {g : Ghosts D} (device : AnyDevice D g) (place : ℕ) (batches : List (List Change)) (rows : Rows) → IsOpen device (kept_of batches) → rows_of_batches batches ≡ rows
    → place ≡ place_behind DeviceOwner batches → DeviceHas device place rows
has_rows device place batches rows is_open is at = record { batches = batches; open_is = is_open; rows_are = is; place_is = at }
