-- What a run did, by its status: what it read, which output its line called for, and how much of it was appended.
use Rattle.std.specs.Prelude.{◌≡◌, ◌⊎◌, ℕ, List, ⊤}
use Rattle.std.specs.declared.option.Option.{Option}
use Rattle.std.specs.Io.KnownBytes.{Keeps}
use Rattle.sn_cli.specs.Calls.{GenCallsFor, GenRefuses, OpenCallsFor, OpenRefuses, ReplayCallsFor, ReplayRefuses, SealCallsFor, SealRefuses, ShowRefuses}
use Rattle.sn_command.specs.CommandLine.{SealLine, OpenLine, GenLine, ServeLine, Asks, IsGenerating, IsReading, IsServing, IsSealLine, IsOpenLine, IsShowLine, IsReplayLine, IsGenLine, IsServeLine, IsUsage}
use Rattle.sn_command.specs.DeviceLines.{DeviceLine, IsDeviceLine, IsDevicing}
use Rattle.sn_cli.specs.Devices.{DeviceRuns}
use Rattle.sn_cli.specs.Inputs.{ReadsText, StopsReading}
use Rattle.sn_command.specs.Named.{USUAL_COST}
use Rattle.sn_cli.specs.Outputs.{Writes}
use Rattle.sn_cli.specs.Shown.{IsShown}
use Rattle.sn_course.specs.Headline.{IsNotAllowed}
use Rattle.sn_status.specs.declared.refusal.Refusal.{Refusal}
use Rattle.sn_status.specs.declared.refusal.Refusal.TheVariants.{InputLong, InputUtf8, NotAllowed, Client}
use Rattle.sn_status.specs.declared.status.Status.{Status}
use Rattle.sn_status.specs.declared.status.Status.TheVariants.{Done, Usage, Refused, DiskFault, LinkFault, ReadFault, WriteFault, Memory, Foreign, Server, BadAnswer}
use Rattle.sn_status.specs.declared.status.Unfit.{Unfit}
use Rattle.sn_status.specs.declared.status.Unfit.TheVariants as unfit
use Rattle.sn_calls.specs.Ends.{CallEnds}
use Rattle.sn_calls.specs.Ends.{Handed as HandedCall}
use Rattle.sn_calls.specs.declared.ends.CallEnd.{CallEnd}
use Rattle.sn_device.specs.Runs.{Call}
use Rattle.sn_disk.specs.Shelf.{Slot}
use Rattle.sn_disk.specs.declared.disk.Disk.{Ghosts}
use Rattle.sn_io.specs.Streams.{Gains}
use Rattle.sn_net.specs.Connections.{Event}
use Rattle.sn_net.specs.Exchanges.{Exchange}
use Rattle.sn_disk.specs.declared.mem_shelf.MemShelf.{MemShelf}
use Rattle.sn_script.specs.Scripts.{IsScript}
use Rattle.sn_serve.specs.Serving.{Handed, ServeEnds}
use Rattle.sn_serve.specs.declared.ends.Served.{Served}
use Rattle.sn_serve.specs.declared.ends.Served.TheVariants as served
use Rattle.sn_script.specs.declared.script.Script.{Script}

-- the whole input was read as a text, which calls for an output, and that was appended
pub record WritesOf (calls_for : List ℕ → List ℕ → Type 0) (status : Status) (input_before input_after out_before out_after : Option (List ℕ)) : Type 0 where
  pub text : List ℕ
  pub read : ReadsText input_before input_after text
  pub output : List ℕ
  pub called : calls_for text output
  pub wrote : Writes status out_before out_after output

-- the whole input was read as a text, which is refused
pub record RefusesInput (refuses : List ℕ → Refusal → Type 0) (refusal : Refusal) (input_before input_after : Option (List ℕ)) : Type 0 where
  pub text : List ℕ
  pub read : ReadsText input_before input_after text
  pub cause : refuses text refusal

-- What a command did that reads its whole input as a text, of which each calls for an output or is refused. Want of
-- memory may come once some of the input was read; a command never finds its own line faulty.
abbrev pub RunsOver : (calls_for : List ℕ → List ℕ → Type 0) (refuses : List ℕ → Refusal → Type 0) → Status
    → (input_before input_after out_before out_after : Option (List ℕ)) → Type 0
RunsOver calls_for refuses Done input_before input_after out_before out_after =
    WritesOf calls_for Done input_before input_after out_before out_after
RunsOver calls_for refuses Usage input_before input_after out_before out_after = ⊥
RunsOver calls_for refuses (Refused InputLong) input_before input_after out_before out_after =
    StopsReading (Refused InputLong) input_before input_after
RunsOver calls_for refuses (Refused (InputUtf8 place)) input_before input_after out_before out_after =
    StopsReading (Refused (InputUtf8 place)) input_before input_after
RunsOver calls_for refuses (Refused refusal) input_before input_after out_before out_after =
    RefusesInput refuses refusal input_before input_after
RunsOver calls_for refuses DiskFault input_before input_after out_before out_after = ⊥
RunsOver calls_for refuses LinkFault input_before input_after out_before out_after = ⊥
RunsOver calls_for refuses ReadFault input_before input_after out_before out_after = StopsReading ReadFault input_before input_after
RunsOver calls_for refuses WriteFault input_before input_after out_before out_after =
    WritesOf calls_for WriteFault input_before input_after out_before out_after
RunsOver calls_for refuses Memory input_before input_after out_before out_after = StopsReading Memory input_before input_after
RunsOver calls_for refuses (Foreign unfit) input_before input_after out_before out_after = ⊥
RunsOver calls_for refuses (Server number tag) input_before input_after out_before out_after = ⊥
RunsOver calls_for refuses (BadAnswer place) input_before input_after out_before out_after = ⊥

-- the line of `gen` calls for an output, and that was appended
pub record WritesGen (memory_shelf : MemShelf) (line : GenLine) (status : Status) (out_before out_after : Option (List ℕ)) : Type 0 where
  pub output : List ℕ
  pub called : GenCallsFor memory_shelf line output
  pub wrote : Writes status out_before out_after output

-- the line is refused, and nothing was written
pub record RefusesGen (line : GenLine) (refusal : Refusal) (out_before out_after : Option (List ℕ)) : Type 0 where
  pub cause : GenRefuses line refusal
  pub silent : Keeps out_before out_after

-- What a line of `gen` did, which reads no input. Where memory was wanting, nothing was written.
abbrev pub GenRuns : GenLine → MemShelf → Status → (out_before out_after : Option (List ℕ)) → Type 0
GenRuns line memory_shelf Done out_before out_after = WritesGen memory_shelf line Done out_before out_after
GenRuns line memory_shelf Usage out_before out_after = ⊥
GenRuns line memory_shelf (Refused refusal) out_before out_after = RefusesGen line refusal out_before out_after
GenRuns line memory_shelf DiskFault out_before out_after = ⊥
GenRuns line memory_shelf LinkFault out_before out_after = ⊥
GenRuns line memory_shelf ReadFault out_before out_after = ⊥
GenRuns line memory_shelf WriteFault out_before out_after = WritesGen memory_shelf line WriteFault out_before out_after
GenRuns line memory_shelf Memory out_before out_after = Keeps out_before out_after
GenRuns line memory_shelf (Foreign unfit) out_before out_after = ⊥
GenRuns line memory_shelf (Server number tag) out_before out_after = ⊥
GenRuns line memory_shelf (BadAnswer place) out_before out_after = ⊥

-- what a command drew that draws one seed: it, once the input is a text, and none before
abbrev pub Draws : Status → List ℕ → Option (List (List ℕ)) → Option (List (List ℕ)) → Type 0
Draws Done seed before after = Gains before after seed
Draws Usage seed before after = after ≡ before
Draws (Refused refusal) seed before after = after ≡ before
Draws DiskFault seed before after = after ≡ before
Draws LinkFault seed before after = after ≡ before
Draws ReadFault seed before after = after ≡ before
Draws WriteFault seed before after = Gains before after seed
Draws Memory seed before after = (after ≡ before) ⊎ Gains before after seed
Draws (Foreign unfit) seed before after = after ≡ before
Draws (Server number tag) seed before after = after ≡ before
Draws (BadAnswer place) seed before after = after ≡ before

-- what `seal` did: the output is the one that the seed drawn calls for
pub record SealRuns (line : SealLine) (status : Status) (input_before input_after out_before out_after : Option (List ℕ))
    (seeds_before seeds_after : Option (List (List ℕ))) : Type 0 where
  pub seed : List ℕ
  pub drew : Draws status seed seeds_before seeds_after
  pub ran : RunsOver (SealCallsFor line seed) SealRefuses status input_before input_after out_before out_after

-- some text is the output, or memory was wanting for it
abbrev pub WritesText : Status → Option (List ℕ) → Option (List ℕ) → Type 0
WritesText Done before after = (text : List ℕ) × Writes Done before after text
WritesText Usage before after = ⊥
WritesText (Refused refusal) before after = ⊥
WritesText DiskFault before after = ⊥
WritesText LinkFault before after = ⊥
WritesText ReadFault before after = ⊥
WritesText WriteFault before after = (text : List ℕ) × Writes WriteFault before after text
WritesText Memory before after = ⊤
WritesText (Foreign unfit) before after = ⊥
WritesText (Server number tag) before after = ⊥
WritesText (BadAnswer place) before after = ⊥

-- What a question for help or for the version brought about: nothing is read, and a text is the output. Where `clap` finds
-- a fault beside the question, the words may be faulty.
pub record AnswersWith (status : Status) (input_before input_after out_before out_after : Option (List ℕ)) : Type 0 where
  pub unread : input_after ≡ input_before
  pub wrote : WritesText status out_before out_after ⊎ (status ≡ Usage)

-- what the words of a run of this status are; want of memory may come at any words
abbrev pub AreWordsOf : Status → List (List ℕ) → Type 0
AreWordsOf Done words = IsReading words ⊎ IsServing words ⊎ IsDevicing words ⊎ IsGenerating words ⊎ Asks words
AreWordsOf Usage words = IsUsage words
AreWordsOf (Refused (Client refusal)) words = IsDevicing words
AreWordsOf (Refused (NotAllowed number)) words = IsReading words ⊎ IsGenerating words
AreWordsOf (Refused refusal) words = IsReading words
AreWordsOf DiskFault words = IsServing words ⊎ IsDevicing words
AreWordsOf LinkFault words = IsServing words ⊎ IsDevicing words
AreWordsOf ReadFault words = IsReading words
AreWordsOf WriteFault words = IsReading words ⊎ IsServing words ⊎ IsDevicing words ⊎ IsGenerating words ⊎ Asks words
AreWordsOf Memory words = ⊤
AreWordsOf (Foreign unfit) words = IsServing words ⊎ IsDevicing words
AreWordsOf (Server number tag) words = IsDevicing words
AreWordsOf (BadAnswer place) words = IsDevicing words

-- the words are a line of a command to which this text is a right one
abbrev pub Accepts : List (List ℕ) → List ℕ → Type 0
Accepts words text =
    ((line : SealLine) × IsSealLine words line)
    ⊎ ((line : OpenLine) × (plain : List ℕ) × IsOpenLine words line × OpenCallsFor line text plain)
    ⊎ ((output : List ℕ) × IsShowLine words × IsShown text output)
    ⊎ ((script : Script) × IsReplayLine words × IsScript text script.lines × ((number : ℕ) → ¬ (IsNotAllowed script number)))

-- a status that refuses what was given, or wants another line
abbrev pub IsRefusal : Status → Type 0
IsRefusal Done = ⊥
IsRefusal Usage = ⊤
IsRefusal (Refused refusal) = ⊤
IsRefusal DiskFault = ⊥
IsRefusal LinkFault = ⊥
IsRefusal ReadFault = ⊥
IsRefusal WriteFault = ⊥
IsRefusal Memory = ⊥
IsRefusal (Foreign unfit) = ⊥
IsRefusal (Server number tag) = ⊥
IsRefusal (BadAnswer place) = ⊥

-- a status that refuses the input itself, or wants another line
abbrev pub IsInputRefusal : Status → Type 0
IsInputRefusal Done = ⊥
IsInputRefusal Usage = ⊤
IsInputRefusal (Refused (Client refusal)) = ⊥
IsInputRefusal (Refused refusal) = ⊤
IsInputRefusal DiskFault = ⊥
IsInputRefusal LinkFault = ⊥
IsInputRefusal ReadFault = ⊥
IsInputRefusal WriteFault = ⊥
IsInputRefusal Memory = ⊥
IsInputRefusal (Foreign unfit) = ⊥
IsInputRefusal (Server number tag) = ⊥
IsInputRefusal (BadAnswer place) = ⊥

-- a status at which no script was carried out: the input is refused, or a script has a line that may not come
abbrev pub IsOfInput : Status → Type 0
IsOfInput Done = ⊥
IsOfInput Usage = ⊥
IsOfInput (Refused refusal) = ⊤
IsOfInput DiskFault = ⊥
IsOfInput LinkFault = ⊥
IsOfInput ReadFault = ⊤
IsOfInput WriteFault = ⊥
IsOfInput Memory = ⊥
IsOfInput (Foreign unfit) = ⊥
IsOfInput (Server number tag) = ⊥
IsOfInput (BadAnswer place) = ⊥

-- a status at which a command that doesn't serve has written nothing to standard output
abbrev pub IsSilent : Status → Type 0
IsSilent Done = ⊥
IsSilent Usage = ⊤
IsSilent (Refused refusal) = ⊤
IsSilent DiskFault = ⊤
IsSilent LinkFault = ⊤
IsSilent ReadFault = ⊤
IsSilent WriteFault = ⊥
IsSilent Memory = ⊤
IsSilent (Foreign unfit) = ⊤
IsSilent (Server number tag) = ⊤
IsSilent (BadAnswer place) = ⊤

-- the end of serving that is this refusal of a store
abbrev pub unfit_end : Unfit → Served
unfit_end (unfit.Foreign place) = served.Foreign place
unfit_end (unfit.Damaged place) = served.Damaged place
unfit_end (unfit.Rows kind) = served.Rows kind

-- the status of that end
abbrev pub status_of_end : Served → Status
status_of_end served.Reached = Done
status_of_end served.DiskFault = DiskFault
status_of_end served.PortFault = LinkFault
status_of_end served.WriteFault = WriteFault
status_of_end (served.Foreign place) = Foreign (unfit.Foreign place)
status_of_end (served.Damaged place) = Foreign (unfit.Damaged place)
status_of_end (served.Rows kind) = Foreign (unfit.Rows kind)
status_of_end served.Memory = Memory

-- the port and the clock are as they were
pub record AreLeft {P C : Type 0} (port port_after : P) (clock clock_after : C) : Type 0 where
  pub same_port : port_after ≡ port
  pub same_clock : clock_after ≡ clock

-- What a line of `serve` did, by how serving ends. Want of memory may come before anything was touched, within serving, or
-- for the line that tells what is wrong with the store.
abbrev pub ServeRuns : (Served → Type 0) → Type 0 → Status → Type 0
ServeRuns ends untouched Done = ends served.Reached
ServeRuns ends untouched Usage = ⊥
ServeRuns ends untouched (Refused refusal) = ⊥
ServeRuns ends untouched DiskFault = ends served.DiskFault
ServeRuns ends untouched LinkFault = ends served.PortFault
ServeRuns ends untouched ReadFault = ⊥
ServeRuns ends untouched WriteFault = ends served.WriteFault
ServeRuns ends untouched Memory = untouched ⊎ ends served.Memory ⊎ ((fault : Unfit) × ends (unfit_end fault))
ServeRuns ends untouched (Foreign fault) = ends (unfit_end fault)
ServeRuns ends untouched (Server number tag) = ⊥
ServeRuns ends untouched (BadAnswer place) = ⊥

module _ {S D P O C R : Type 0} (g : Ghosts D) (told : Type 0) (slot : S → List ℕ → Slot D) (shelf_faults : S → ℕ) (goes : P → P → List Event → Type 0) (bound : P → ℕ)
    (held : O → Option (List ℕ)) (given : C → Option (List ℕ)) (drawn : R → Option (List (List ℕ))) (old new : Handed S P O C R) where
  -- what a line of `serve` did, by what was handed in
  abbrev pub Serves : ServeLine → Status → Type 0
  Serves line status = ServeRuns (ServeEnds g told slot shelf_faults goes bound held given drawn line.store line.port line.requests old new) (new ≡ old) status

module _ {S D L R : Type 0} (g : Ghosts D) (told : Type 0) (slot : S → List ℕ → Slot D) (shelf_faults : S → ℕ)
    (asks : L → L → List Exchange → Type 0) (aimed : L → List ℕ) (drawn : R → Option (List (List ℕ))) (old new : HandedCall S L R) where
  -- how the call of a device on the store of a name ended, by what was handed in
  abbrev pub EndsCall : List ℕ → Call → Option (List ℕ) → CallEnd → Type 0
  EndsCall store call server ended = CallEnds g told slot shelf_faults asks aimed drawn store call server USUAL_COST old new ended

-- What a run did, whatever its words; each field is a clause of the top call. `serves` is what a line of `serve` did,
-- `ends` how a device's call ended, and `untouched` that what it is handed is as it was. `left` says that of what serves
-- alone, `link_left` of the link, and `shelf_left` of the shelf.
pub record Meets (words : List (List ℕ)) (serves : ServeLine → Status → Type 0) (ends : List ℕ → Call → Option (List ℕ) → CallEnd → Type 0)
    (untouched left link_left shelf_left : Type 0) (status : Status) (bench_before bench_after : MemShelf)
    (input_before input_after out_before out_after : Option (List ℕ)) (seeds_before seeds_after : Option (List (List ℕ))) : Type 0 where
  pub seal : (line : SealLine) → IsSealLine words line
      → SealRuns line status input_before input_after out_before out_after seeds_before seeds_after
  pub open_ : (line : OpenLine) → IsOpenLine words line
      → RunsOver (OpenCallsFor line) (OpenRefuses line) status input_before input_after out_before out_after
  pub show : IsShowLine words → RunsOver IsShown ShowRefuses status input_before input_after out_before out_after
  pub replay : IsReplayLine words → RunsOver (ReplayCallsFor bench_after) ReplayRefuses status input_before input_after out_before out_after
  pub generate : (line : GenLine) → IsGenLine words line → GenRuns line bench_after status out_before out_after
  pub serve : (line : ServeLine) → IsServeLine words line → serves line status
  pub device : (line : DeviceLine) → IsDeviceLine words line → DeviceRuns ends untouched line input_before input_after out_before out_after status
  pub help : Asks words → AnswersWith status input_before input_after out_before out_after
  pub spelled : AreWordsOf status words
  pub usage : IsUsage words → ¬ (Asks words) → (status ≡ Usage) ⊎ (status ≡ Memory)
  pub unread : IsUsage words → input_after ≡ input_before
  pub served_unread : IsServing words → input_after ≡ input_before
  pub gen_unread : IsGenerating words → input_after ≡ input_before
  pub undrawn : ((line : SealLine) → ¬ (IsSealLine words line)) → ¬ (IsServing words) → ¬ (IsDevicing words) → seeds_after ≡ seeds_before
  pub unplayed : ¬ (IsReplayLine words) → ¬ (IsGenerating words) → bench_after ≡ bench_before
  pub unserved : ¬ (IsServing words) → left
  pub unasked : ¬ (IsDevicing words) → link_left
  pub unstored : ¬ (IsServing words) → ¬ (IsDevicing words) → shelf_left
  pub no_script : IsOfInput status → bench_after ≡ bench_before
