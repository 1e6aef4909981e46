-- What a run did, by what its parts did.
use Rattle.std.proofs.Common.{◌≡◌, inl, ℕ, ◌+◌, List, [], Option, arith}
use Rattle.std.proofs.KnownBytes.{Consumes-nil}
use Rattle.std.specs.Io.KnownBytes.{Keeps}
use Rattle.sn_cli.specs.Calls.{GenCallsFor, SealCallsFor, SealRefuses}
use Rattle.sn_command.specs.CommandLine.{GenLine, SealLine}
use Rattle.sn_cli.specs.Inputs.{MOST_INPUT, ReadsText, StopsReading}
use Rattle.sn_status.specs.Lines.{TellsValues}
use Rattle.sn_cli.specs.Outputs.{Writes}
use Rattle.sn_cli.specs.Runs.{Draws, GenRuns, RunsOver, SealRuns}
use Rattle.sn_status.specs.declared.refusal.Refusal.{Refusal}
use Rattle.sn_status.specs.declared.refusal.Refusal.TheVariants.{InputLong, InputUtf8, Form, Item, Line, NotAllowed, PasswordLine, Client}
use Rattle.sn_status.specs.declared.status.Status.{Status}
use Rattle.sn_status.specs.declared.status.Status.TheVariants.{Done, Usage, Refused, DiskFault, LinkFault, ReadFault, WriteFault, Memory, Foreign, Server, BadAnswer}
use Rattle.sn_disk.specs.declared.mem_shelf.MemShelf.{MemShelf}
use Rattle.sn_io.specs.Streams.{Gains, GivesAtMost, GivesPart, HasGiven}

-- an input that is no text ends the run
pub stopped : (calls_for : List ℕ → List ℕ → Type 0) (refuses : List ℕ → Refusal → Type 0) (status : Status) (i j o p : Option (List ℕ))
    → StopsReading status i j → RunsOver calls_for refuses status i j o p
stopped calls_for refuses Done i j o p stops = absurd stops
stopped calls_for refuses Usage i j o p stops = absurd stops
stopped calls_for refuses (Refused InputLong) i j o p stops = stops
stopped calls_for refuses (Refused (InputUtf8 place)) i j o p stops = stops
stopped calls_for refuses (Refused (Form refusal)) i j o p stops = absurd stops
stopped calls_for refuses (Refused (Item refusal)) i j o p stops = absurd stops
stopped calls_for refuses (Refused (Line number)) i j o p stops = absurd stops
stopped calls_for refuses (Refused (NotAllowed number)) i j o p stops = absurd stops
stopped calls_for refuses (Refused (PasswordLine count)) i j o p stops = absurd stops
stopped calls_for refuses (Refused (Client refusal)) i j o p stops = absurd stops
stopped calls_for refuses DiskFault i j o p stops = absurd stops
stopped calls_for refuses LinkFault i j o p stops = absurd stops
stopped calls_for refuses ReadFault i j o p stops = stops
stopped calls_for refuses WriteFault i j o p stops = absurd stops
stopped calls_for refuses Memory i j o p stops = stops
stopped calls_for refuses (Foreign unfit) i j o p stops = absurd stops
stopped calls_for refuses (Server number tag) i j o p stops = absurd stops
stopped calls_for refuses (BadAnswer place) i j o p stops = absurd stops

-- before anything is drawn
pub stops_undrawn : (seed : List ℕ) (status : Status) (i j : Option (List ℕ)) (s t : Option (List (List ℕ))) → StopsReading status i j → t ≡ s
    → Draws status seed s t
stops_undrawn seed Done i j s t stops same = absurd stops
stops_undrawn seed Usage i j s t stops same = same
stops_undrawn seed (Refused refusal) i j s t stops same = same
stops_undrawn seed DiskFault i j s t stops same = same
stops_undrawn seed LinkFault i j s t stops same = same
stops_undrawn seed ReadFault i j s t stops same = same
stops_undrawn seed WriteFault i j s t stops same = absurd stops
stops_undrawn seed Memory i j s t stops same = inl same
stops_undrawn seed (Foreign unfit) i j s t stops same = same
stops_undrawn seed (Server number tag) i j s t stops same = same
stops_undrawn seed (BadAnswer place) i j s t stops same = same

-- a status of writing an output that the text calls for
pub written : (calls_for : List ℕ → List ℕ → Type 0) (refuses : List ℕ → Refusal → Type 0) (status : Status) (i j o p : Option (List ℕ))
    (text output : List ℕ) → ReadsText i j text → calls_for text output → Writes status o p output → RunsOver calls_for refuses status i j o p
written calls_for refuses Done i j o p text output read called wrote =
    record { text = text; read = read; output = output; called = called; wrote = wrote }
written calls_for refuses Usage i j o p text output read called wrote = absurd wrote
written calls_for refuses (Refused refusal) i j o p text output read called wrote = absurd wrote
written calls_for refuses DiskFault i j o p text output read called wrote = absurd wrote
written calls_for refuses LinkFault i j o p text output read called wrote = absurd wrote
written calls_for refuses ReadFault i j o p text output read called wrote = absurd wrote
written calls_for refuses WriteFault i j o p text output read called wrote =
    record { text = text; read = read; output = output; called = called; wrote = wrote }
written calls_for refuses Memory i j o p text output read called wrote = absurd wrote
written calls_for refuses (Foreign unfit) i j o p text output read called wrote = absurd wrote
written calls_for refuses (Server number tag) i j o p text output read called wrote = absurd wrote
written calls_for refuses (BadAnswer place) i j o p text output read called wrote = absurd wrote

pub drawn_for_output : (seed output : List ℕ) (status : Status) (o p : Option (List ℕ)) (s t : Option (List (List ℕ))) → Writes status o p output
    → Gains s t seed → Draws status seed s t
drawn_for_output seed output Done o p s t wrote gains = gains
drawn_for_output seed output Usage o p s t wrote gains = absurd wrote
drawn_for_output seed output (Refused refusal) o p s t wrote gains = absurd wrote
drawn_for_output seed output DiskFault o p s t wrote gains = absurd wrote
drawn_for_output seed output LinkFault o p s t wrote gains = absurd wrote
drawn_for_output seed output ReadFault o p s t wrote gains = absurd wrote
drawn_for_output seed output WriteFault o p s t wrote gains = gains
drawn_for_output seed output Memory o p s t wrote gains = absurd wrote
drawn_for_output seed output (Foreign unfit) o p s t wrote gains = absurd wrote
drawn_for_output seed output (Server number tag) o p s t wrote gains = absurd wrote
drawn_for_output seed output (BadAnswer place) o p s t wrote gains = absurd wrote

-- nothing was read
pub none_read : (i : Option (List ℕ)) (most : ℕ) → GivesAtMost i i most
none_read i most = ([], omega arith, Consumes-nil i)

-- want of memory behind a whole input
pub whole_at_most : (i j : Option (List ℕ)) (input : List ℕ) → HasGiven MOST_INPUT i j input → GivesAtMost i j (MOST_INPUT + 1)
whole_at_most i j input given = let short = given.short in (input, omega (arith, short), given.given)

pub read_at_most : (i j : Option (List ℕ)) (text : List ℕ) → ReadsText i j text → GivesAtMost i j (MOST_INPUT + 1)
read_at_most i j text read = whole_at_most i j text read.given

pub part_at_most : (i j : Option (List ℕ)) (n : ℕ) → GivesPart i j n → GivesAtMost i j n
part_at_most i j n part = let count = part.1 in (part.0, omega (arith, count), part.2)

-- a refusal for whose line memory was wanting
pub refused_to_memory : (calls_for : List ℕ → List ℕ → Type 0) (refuses : List ℕ → Refusal → Type 0) (refusal : Refusal)
    (i j o p : Option (List ℕ)) → RunsOver calls_for refuses (Refused refusal) i j o p → RunsOver calls_for refuses Memory i j o p
refused_to_memory calls_for refuses InputLong i j o p ran = part_at_most i j (MOST_INPUT + 1) ran
refused_to_memory calls_for refuses (InputUtf8 place) i j o p ran = whole_at_most i j ran.input ran.given
refused_to_memory calls_for refuses (Form refusal) i j o p ran = read_at_most i j ran.text ran.read
refused_to_memory calls_for refuses (Item refusal) i j o p ran = read_at_most i j ran.text ran.read
refused_to_memory calls_for refuses (Line number) i j o p ran = read_at_most i j ran.text ran.read
refused_to_memory calls_for refuses (NotAllowed number) i j o p ran = read_at_most i j ran.text ran.read
refused_to_memory calls_for refuses (PasswordLine count) i j o p ran = read_at_most i j ran.text ran.read
refused_to_memory calls_for refuses (Client refusal) i j o p ran = read_at_most i j ran.text ran.read

-- or another status for whose line it was
pub run_to_memory : (calls_for : List ℕ → List ℕ → Type 0) (refuses : List ℕ → Refusal → Type 0) (status : Status) → TellsValues status
    → (i j o p : Option (List ℕ)) → RunsOver calls_for refuses status i j o p → RunsOver calls_for refuses Memory i j o p
run_to_memory calls_for refuses Done tells i j o p ran = absurd tells
run_to_memory calls_for refuses Usage tells i j o p ran = absurd tells
run_to_memory calls_for refuses (Refused refusal) tells i j o p ran = refused_to_memory calls_for refuses refusal i j o p ran
run_to_memory calls_for refuses DiskFault tells i j o p ran = absurd tells
run_to_memory calls_for refuses LinkFault tells i j o p ran = absurd tells
run_to_memory calls_for refuses ReadFault tells i j o p ran = absurd tells
run_to_memory calls_for refuses WriteFault tells i j o p ran = absurd tells
run_to_memory calls_for refuses Memory tells i j o p ran = absurd tells
run_to_memory calls_for refuses (Foreign unfit) tells i j o p ran = absurd ran
run_to_memory calls_for refuses (Server number tag) tells i j o p ran = absurd ran
run_to_memory calls_for refuses (BadAnswer place) tells i j o p ran = absurd ran

undrawn_to_memory : (seed : List ℕ) (status : Status) → TellsValues status → (s t : Option (List (List ℕ))) → Draws status seed s t → Draws Memory seed s t
undrawn_to_memory seed Done tells s t drew = absurd tells
undrawn_to_memory seed Usage tells s t drew = absurd tells
undrawn_to_memory seed (Refused refusal) tells s t drew = inl drew
undrawn_to_memory seed DiskFault tells s t drew = absurd tells
undrawn_to_memory seed LinkFault tells s t drew = absurd tells
undrawn_to_memory seed ReadFault tells s t drew = absurd tells
undrawn_to_memory seed WriteFault tells s t drew = absurd tells
undrawn_to_memory seed Memory tells s t drew = absurd tells
undrawn_to_memory seed (Foreign unfit) tells s t drew = inl drew
undrawn_to_memory seed (Server number tag) tells s t drew = inl drew
undrawn_to_memory seed (BadAnswer place) tells s t drew = inl drew

pub seal_to_memory : (line : SealLine) (status : Status) → TellsValues status → (i j o p : Option (List ℕ)) (s t : Option (List (List ℕ)))
    → SealRuns line status i j o p s t → SealRuns line Memory i j o p s t
seal_to_memory line status tells i j o p s t runs = record {
  seed = runs.seed;
  drew = undrawn_to_memory runs.seed status tells s t runs.drew;
  ran = run_to_memory (SealCallsFor line runs.seed) SealRefuses status tells i j o p runs.ran;
}

-- ---- `gen`

-- a status of writing an output that the line calls for
pub gen_written : (line : GenLine) (memory_shelf : MemShelf) (status : Status) (o p : Option (List ℕ)) (output : List ℕ) → GenCallsFor memory_shelf line output
    → Writes status o p output → GenRuns line memory_shelf status o p
gen_written line memory_shelf Done o p output called wrote = record { output = output; called = called; wrote = wrote }
gen_written line memory_shelf Usage o p output called wrote = absurd wrote
gen_written line memory_shelf (Refused refusal) o p output called wrote = absurd wrote
gen_written line memory_shelf DiskFault o p output called wrote = absurd wrote
gen_written line memory_shelf LinkFault o p output called wrote = absurd wrote
gen_written line memory_shelf ReadFault o p output called wrote = absurd wrote
gen_written line memory_shelf WriteFault o p output called wrote = record { output = output; called = called; wrote = wrote }
gen_written line memory_shelf Memory o p output called wrote = absurd wrote
gen_written line memory_shelf (Foreign unfit) o p output called wrote = absurd wrote
gen_written line memory_shelf (Server number tag) o p output called wrote = absurd wrote
gen_written line memory_shelf (BadAnswer place) o p output called wrote = absurd wrote

-- a status for whose line memory was wanting
pub gen_to_memory : (line : GenLine) (memory_shelf : MemShelf) (status : Status) → TellsValues status → (o p : Option (List ℕ)) → GenRuns line memory_shelf status o p
    → Keeps o p
gen_to_memory line memory_shelf Done tells o p ran = absurd tells
gen_to_memory line memory_shelf Usage tells o p ran = absurd tells
gen_to_memory line memory_shelf (Refused refusal) tells o p ran = ran.silent
gen_to_memory line memory_shelf DiskFault tells o p ran = absurd tells
gen_to_memory line memory_shelf LinkFault tells o p ran = absurd tells
gen_to_memory line memory_shelf ReadFault tells o p ran = absurd tells
gen_to_memory line memory_shelf WriteFault tells o p ran = absurd tells
gen_to_memory line memory_shelf Memory tells o p ran = absurd tells
gen_to_memory line memory_shelf (Foreign unfit) tells o p ran = absurd ran
gen_to_memory line memory_shelf (Server number tag) tells o p ran = absurd ran
gen_to_memory line memory_shelf (BadAnswer place) tells o p ran = absurd ran
