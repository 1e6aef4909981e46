-- What a line of a device did, by what its parts did.
use Rattle.std.proofs.Common.{◌≡◌, ◌≢◌, inl, inr, ℕ, ◌+◌, List, Option, Result, Ok, Err, IfOk, IfErr, String, string_bytes, length, refl, sym, ap, subst, ◌∙◌}
use Rattle.std.specs.Io.KnownBytes.{Keeps}
use Rattle.std.specs.declared.alloc.Global.{Global}
use Rattle.sn_calls.specs.declared.ends.Answered.{Answered}
use Rattle.sn_calls.specs.declared.ends.CallEnd.{CallEnd}
use Rattle.sn_calls.specs.declared.ends.CallEnd.TheVariants as end
use Rattle.sn_cli.specs.CallEnds.{EndsSo, LeadsTo, MayWant, client_error, output_of, unfit_call_end}
use Rattle.sn_cli.specs.DeviceCalls.{IsPassword, ReadsFor, TakesPassword, call_for, first_line, kept_of, server_for}
use Rattle.sn_command.specs.DeviceLines.{DeviceLine, GivesTask, HasTaskBounds, IsDeviceLine, TakesInput, Task}
use Rattle.sn_command.specs.DeviceLines as task
use Rattle.sn_cli.specs.Devices.{DeviceRuns, HasCalled, HasFailed, HasNoPassword, HasStopped, IsUnread, ReadsSome}
use Rattle.sn_cli.specs.Inputs.{MOST_INPUT, ReadsText, StopsReading}
use Rattle.sn_status.specs.Lines.{TellsValues}
use Rattle.sn_cli.specs.Outputs.{Writes}
use Rattle.sn_calls.specs.Parts.{IsLinkFault}
use Rattle.sn_cli.specs.Runs.{AreWordsOf, IsSilent}
use Rattle.sn_status.specs.declared.refusal.ClientRefusal.{ClientRefusal}
use Rattle.sn_status.specs.declared.refusal.ClientRefusal.TheVariants as client
use Rattle.sn_status.specs.declared.refusal.Refusal.TheVariants.{InputLong, InputUtf8, Form, Item, Line, NotAllowed, PasswordLine, Client}
use Rattle.sn_status.specs.declared.status.Status.{Status}
use Rattle.sn_status.specs.declared.status.Status.TheVariants.{Done, Usage, Refused, DiskFault, LinkFault, ReadFault, WriteFault, Memory, Foreign, Server, BadAnswer}
use Rattle.sn_status.specs.declared.status.Unfit.{Unfit}
use Rattle.sn_status.specs.declared.status.Unfit.TheVariants as unfit
use Rattle.sn_device.specs.Runs.{Call}
use Rattle.sn_device.specs.declared.error.ClientError.TheVariants as error
use Rattle.sn_cli.proofs.RunLemmas.{part_at_most, read_at_most, whole_at_most}

-- a task that takes a password takes its input
pub takes_input : (t : Task) → TakesPassword t → TakesInput t
takes_input (task.register server identifier cost) takes = tt
takes_input (task.sign_in server identifier) takes = tt
takes_input (task.put title) takes = absurd takes
takes_input (task.edit uuid) takes = absurd takes
takes_input (task.delete uuid) takes = absurd takes
takes_input task.list takes = absurd takes
takes_input (task.content uuid) takes = absurd takes
takes_input (task.sync server) takes = absurd takes
takes_input (task.change_password server cost) takes = tt

-- the words give an identifier within its bounds
pub has_bounds : (words : List (List ℕ)) (t : Task) → GivesTask words t → HasTaskBounds t
has_bounds words (task.register server identifier cost) gives = gives.identifier_given.fits
has_bounds words (task.sign_in server identifier) gives = gives.identifier_given.fits
has_bounds words (task.put title) gives = tt
has_bounds words (task.edit uuid) gives = tt
has_bounds words (task.delete uuid) gives = tt
has_bounds words task.list gives = tt
has_bounds words (task.content uuid) gives = tt
has_bounds words (task.sync server) gives = tt
has_bounds words (task.change_password server cost) gives = tt

no_link_fault : (refusal : ClientRefusal) → client_error refusal ≢ error.LinkFault
no_link_fault client.NoAccount is = cc
no_link_fault (client.NoItem uuid) is = cc
no_link_fault (client.Closed nonce) is = cc
no_link_fault (client.TooLong size) is = cc
no_link_fault client.NotObject is = cc
no_link_fault client.RoundsUsed is = cc
no_link_fault (client.NoFreshUuid drawn) is = cc
no_link_fault client.WrongPassword is = cc
no_link_fault (client.OtherAccount identifier) is = cc
no_link_fault (client.HasAccount identifier) is = cc
no_link_fault (client.Cost cost) is = cc
no_link_fault (client.NumbersUsed next) is = cc
no_link_fault (client.Rekey why) is = cc
no_link_fault (client.TooLarge size) is = cc

no_server_fault : (number : ℕ) (tag : List ℕ) → error.Refused number tag ≢ error.LinkFault
no_server_fault number tag is = cc

unfit_may_want : (fault : Unfit) → MayWant (unfit_call_end fault)
unfit_may_want (unfit.Foreign place) = tt
unfit_may_want (unfit.Damaged place) = tt
unfit_may_want (unfit.Rows kind) = tt

-- an end that leads to a line of values
leads_to_memory : (ended : CallEnd) (status : Status) → TellsValues status → LeadsTo ended status → LeadsTo ended Memory
leads_to_memory ended Done tells leads = absurd leads
leads_to_memory ended Usage tells leads = absurd leads
leads_to_memory ended (Refused InputLong) tells leads = absurd leads
leads_to_memory ended (Refused (InputUtf8 place)) tells leads = absurd leads
leads_to_memory ended (Refused (Form refusal)) tells leads = absurd leads
leads_to_memory ended (Refused (Item refusal)) tells leads = absurd leads
leads_to_memory ended (Refused (Line number)) tells leads = absurd leads
leads_to_memory ended (Refused (NotAllowed number)) tells leads = absurd leads
leads_to_memory ended (Refused (PasswordLine count)) tells leads = absurd leads
leads_to_memory ended (Refused (Client refusal)) tells leads = subst MayWant (sym leads) (no_link_fault refusal)
leads_to_memory ended DiskFault tells leads = absurd tells
leads_to_memory ended LinkFault tells leads = absurd tells
leads_to_memory ended ReadFault tells leads = absurd tells
leads_to_memory ended WriteFault tells leads = absurd tells
leads_to_memory ended Memory tells leads = absurd tells
leads_to_memory ended (Foreign fault) tells leads = subst MayWant (sym leads) (unfit_may_want fault)
leads_to_memory ended (Server number tag) tells leads = subst MayWant (sym leads) (no_server_fault number tag)
leads_to_memory ended (BadAnswer place) tells leads = subst MayWant (sym leads) (λ is. cc)

module _ (ends : List ℕ → Call → Option (List ℕ) → CallEnd → Type 0) (untouched : Type 0) (line : DeviceLine) (i j o p : Option (List ℕ)) where
  -- an input that is no text, or isn't read, ends the run
  pub unread : (status : Status) → TakesInput line.task → StopsReading status i j → untouched → Keeps o p → DeviceRuns ends untouched line i j o p status
  unread Done takes stops kept silent = absurd stops
  unread Usage takes stops kept silent = absurd stops
  unread (Refused InputLong) takes stops kept silent = record { read = record { takes = takes; stops = stops }; kept = kept; silent = silent }
  unread (Refused (InputUtf8 place)) takes stops kept silent = record { read = record { takes = takes; stops = stops }; kept = kept; silent = silent }
  unread (Refused (Form refusal)) takes stops kept silent = absurd stops
  unread (Refused (Item refusal)) takes stops kept silent = absurd stops
  unread (Refused (Line number)) takes stops kept silent = absurd stops
  unread (Refused (NotAllowed number)) takes stops kept silent = absurd stops
  unread (Refused (PasswordLine count)) takes stops kept silent = absurd stops
  unread (Refused (Client refusal)) takes stops kept silent = absurd stops
  unread DiskFault takes stops kept silent = absurd stops
  unread LinkFault takes stops kept silent = absurd stops
  unread ReadFault takes stops kept silent = record { read = record { takes = takes; stops = stops }; kept = kept; silent = silent }
  unread WriteFault takes stops kept silent = absurd stops
  unread Memory takes stops kept silent = inl (record { read = inr (takes, stops); kept = kept; silent = silent })
  unread (Foreign fault) takes stops kept silent = absurd stops
  unread (Server number tag) takes stops kept silent = absurd stops
  unread (BadAnswer place) takes stops kept silent = absurd stops

  -- the output of an answered call
  answered_so : (status : Status) (given : Answered) → HasCalled ends untouched line i j o p (end.Answered given) → Writes status o p (output_of given)
      → DeviceRuns ends untouched line i j o p status
  answered_so Done given called wrote = record { given = given; called = called; wrote = wrote }
  answered_so Usage given called wrote = absurd wrote
  answered_so (Refused refusal) given called wrote = absurd wrote
  answered_so DiskFault given called wrote = absurd wrote
  answered_so LinkFault given called wrote = absurd wrote
  answered_so ReadFault given called wrote = absurd wrote
  answered_so WriteFault given called wrote = record { given = given; called = called; wrote = wrote }
  answered_so Memory given called wrote = absurd wrote
  answered_so (Foreign fault) given called wrote = absurd wrote
  answered_so (Server number tag) given called wrote = absurd wrote
  answered_so (BadAnswer place) given called wrote = absurd wrote

  -- the status of a call that wasn't answered
  failed_so : (status : Status) (ended : CallEnd) → HasCalled ends untouched line i j o p ended → LeadsTo ended status → Keeps o p
      → DeviceRuns ends untouched line i j o p status
  failed_so Done ended called leads silent = absurd leads
  failed_so Usage ended called leads silent = absurd leads
  failed_so (Refused InputLong) ended called leads silent = absurd leads
  failed_so (Refused (InputUtf8 place)) ended called leads silent = absurd leads
  failed_so (Refused (Form refusal)) ended called leads silent = absurd leads
  failed_so (Refused (Item refusal)) ended called leads silent = absurd leads
  failed_so (Refused (Line number)) ended called leads silent = absurd leads
  failed_so (Refused (NotAllowed number)) ended called leads silent = absurd leads
  failed_so (Refused (PasswordLine count)) ended called leads silent = absurd leads
  failed_so (Refused (Client refusal)) ended called leads silent = record { ended = ended; called = called; leads = leads; silent = silent }
  failed_so DiskFault ended called leads silent = record { ended = ended; called = called; leads = leads; silent = silent }
  failed_so LinkFault ended called leads silent = record { ended = ended; called = called; leads = leads; silent = silent }
  failed_so ReadFault ended called leads silent = absurd leads
  failed_so WriteFault ended called leads silent = absurd leads
  failed_so Memory ended called leads silent = inr (record { ended = ended; called = called; leads = leads; silent = silent })
  failed_so (Foreign fault) ended called leads silent = record { ended = ended; called = called; leads = leads; silent = silent }
  failed_so (Server number tag) ended called leads silent = record { ended = ended; called = called; leads = leads; silent = silent }
  failed_so (BadAnswer place) ended called leads silent = record { ended = ended; called = called; leads = leads; silent = silent }

  -- a call that was made
  pub ended_so : (status : Status) (ended : CallEnd) → HasCalled ends untouched line i j o p ended → EndsSo ended status o p
      → DeviceRuns ends untouched line i j o p status
  ended_so status ended called (inl (given, is, wrote)) =
      answered_so status given (subst (HasCalled ends untouched line i j o p) is called) wrote
  ended_so status ended called (inr (leads, silent)) = failed_so status ended called leads silent

  stopped_to_memory : (reading : Type 0) → (reading → ReadsSome ends untouched line i j o p) → HasStopped ends untouched line i j o p reading
      → DeviceRuns ends untouched line i j o p Memory
  stopped_to_memory reading turns stopped = inl (record { read = turns stopped.read; kept = stopped.kept; silent = stopped.silent })

  failed_to_memory : (status : Status) → TellsValues status → HasFailed ends untouched line i j o p status → DeviceRuns ends untouched line i j o p Memory
  failed_to_memory status tells failed = inr (record {
    ended = failed.ended;
    called = failed.called;
    leads = leads_to_memory failed.ended status tells failed.leads;
    silent = failed.silent;
  })

  -- a status for whose line memory was wanting
  pub device_to_memory : (status : Status) → TellsValues status → DeviceRuns ends untouched line i j o p status → DeviceRuns ends untouched line i j o p Memory
  device_to_memory Done tells runs = absurd tells
  device_to_memory Usage tells runs = absurd tells
  device_to_memory (Refused InputLong) tells runs =
      stopped_to_memory (IsUnread ends untouched line i j o p (Refused InputLong)) (λ read. inr (read.takes, part_at_most i j (MOST_INPUT + 1) read.stops)) runs
  device_to_memory (Refused (InputUtf8 place)) tells runs =
      stopped_to_memory (IsUnread ends untouched line i j o p (Refused (InputUtf8 place)))
      (λ read. inr (read.takes, whole_at_most i j read.stops.input read.stops.given)) runs
  device_to_memory (Refused (Form refusal)) tells runs = absurd runs
  device_to_memory (Refused (Item refusal)) tells runs = absurd runs
  device_to_memory (Refused (Line number)) tells runs = absurd runs
  device_to_memory (Refused (NotAllowed number)) tells runs = absurd runs
  device_to_memory (Refused (PasswordLine count)) tells runs =
      stopped_to_memory (HasNoPassword ends untouched line i j o p count)
      (λ read. inr (takes_input line.task read.takes, read_at_most i j read.text read.read)) runs
  device_to_memory (Refused (Client refusal)) tells runs = failed_to_memory (Refused (Client refusal)) tells runs
  device_to_memory DiskFault tells runs = absurd tells
  device_to_memory LinkFault tells runs = absurd tells
  device_to_memory ReadFault tells runs = absurd tells
  device_to_memory WriteFault tells runs = absurd tells
  device_to_memory Memory tells runs = absurd tells
  device_to_memory (Foreign fault) tells runs = failed_to_memory (Foreign fault) tells runs
  device_to_memory (Server number tag) tells runs = failed_to_memory (Server number tag) tells runs
  device_to_memory (BadAnswer place) tells runs = failed_to_memory (BadAnswer place) tells runs

  -- what a status of a device's line says of the words
  pub words_of_device : (words : List (List ℕ)) (status : Status) → IsDeviceLine words line → DeviceRuns ends untouched line i j o p status → AreWordsOf status words
  words_of_device words Done spelled runs = inr (inr (inl (line, spelled)))
  words_of_device words Usage spelled runs = absurd runs
  words_of_device words (Refused InputLong) spelled runs = inr (inr (inr (inr (line, spelled, runs.read.takes))))
  words_of_device words (Refused (InputUtf8 place)) spelled runs = inr (inr (inr (inr (line, spelled, runs.read.takes))))
  words_of_device words (Refused (Form refusal)) spelled runs = absurd runs
  words_of_device words (Refused (Item refusal)) spelled runs = absurd runs
  words_of_device words (Refused (Line number)) spelled runs = absurd runs
  words_of_device words (Refused (NotAllowed number)) spelled runs = absurd runs
  words_of_device words (Refused (PasswordLine count)) spelled runs = inr (inr (inr (inr (line, spelled, takes_input line.task runs.read.takes))))
  words_of_device words (Refused (Client refusal)) spelled runs = (line, spelled)
  words_of_device words DiskFault spelled runs = inr (line, spelled)
  words_of_device words LinkFault spelled runs = inr (line, spelled)
  words_of_device words ReadFault spelled runs = inr (inr (inr (inr (line, spelled, runs.read.takes))))
  words_of_device words WriteFault spelled runs = inr (inr (inl (line, spelled)))
  words_of_device words Memory spelled runs = tt
  words_of_device words (Foreign fault) spelled runs = inr (line, spelled)
  words_of_device words (Server number tag) spelled runs = (line, spelled)
  words_of_device words (BadAnswer place) spelled runs = (line, spelled)

-- ---- a call on a store

-- what is kept of a password's input is it
pub password_kept : (t : Task) (text : List ℕ) → TakesPassword t → kept_of t text ≡ text
password_kept (task.register server identifier cost) text takes = refl
password_kept (task.sign_in server identifier) text takes = refl
password_kept (task.put title) text takes = absurd takes
password_kept (task.edit uuid) text takes = absurd takes
password_kept (task.delete uuid) text takes = absurd takes
password_kept task.list text takes = absurd takes
password_kept (task.content uuid) text takes = absurd takes
password_kept (task.sync server) text takes = absurd takes
password_kept (task.change_password server cost) text takes = refl

-- which is the whole
pub password_read : (t : Task) (i j : Option (List ℕ)) (text : List ℕ) → TakesPassword t → ReadsFor t i j text → ReadsText i j text
password_read (task.register server identifier cost) i j text takes read = read
password_read (task.sign_in server identifier) i j text takes read = read
password_read (task.put title) i j text takes read = absurd takes
password_read (task.edit uuid) i j text takes read = absurd takes
password_read (task.delete uuid) i j text takes read = absurd takes
password_read task.list i j text takes read = absurd takes
password_read (task.content uuid) i j text takes read = absurd takes
password_read (task.sync server) i j text takes read = absurd takes
password_read (task.change_password server cost) i j text takes read = read

-- an input without a password ends the run
pub no_password : (ends : List ℕ → Call → Option (List ℕ) → CallEnd → Type 0) (untouched : Type 0) (line : DeviceLine) (i j o p : Option (List ℕ))
    (status : Status) (text kept : List ℕ) → ReadsFor line.task i j text → kept ≡ kept_of line.task text → TakesPassword line.task
    → (IsPassword (first_line kept) → ⊥) → status ≡ Refused (PasswordLine (length (first_line kept))) → untouched → Keeps o p
    → DeviceRuns ends untouched line i j o p status
no_password ends untouched line i j o p status text kept read is takes none was same silent =
    let whole : kept ≡ text = is ∙ password_kept line.task text takes in
    subst (DeviceRuns ends untouched line i j o p) (sym was) (record {
      read = record {
        takes = takes;
        text = text;
        read = password_read line.task i j text takes read;
        none = subst (λ (t : List ℕ). IsPassword (first_line t) → ⊥) whole none;
        count_is = ap (λ (t : List ℕ). length (first_line t)) whole;
      };
      kept = same;
      silent = silent;
    })

-- a link's fault ends a call so
pub link_failed : (ended : CallEnd) (status : Status) (o p : Option (List ℕ)) → EndsSo ended status o p → status ≡ LinkFault → IsLinkFault ended
link_failed ended status o p (inl (given, is, wrote)) fault =
    absurd (subst (λ (s : Status). Writes s o p (output_of given)) fault wrote)
link_failed ended status o p (inr (leads, silent)) fault = by (subst (LeadsTo ended) fault leads)
  where
    by : LeadsTo ended LinkFault → IsLinkFault ended
    by (inl aiming) = subst IsLinkFault (sym aiming) tt
    by (inr asking) = subst IsLinkFault (sym asking) refl

-- no read fault does
pub not_read : (ended : CallEnd) (status : Status) (o p : Option (List ℕ)) → EndsSo ended status o p → status ≡ ReadFault → ⊥
not_read ended status o p (inl (given, is, wrote)) fault = subst (λ (s : Status). Writes s o p (output_of given)) fault wrote
not_read ended status o p (inr (leads, silent)) fault = subst (LeadsTo ended) fault leads

unwritten : (status : Status) (o p : Option (List ℕ)) (output : List ℕ) → IsSilent status → Writes status o p output → ⊥
unwritten Done o p output silent wrote = absurd silent
unwritten Usage o p output silent wrote = wrote
unwritten (Refused refusal) o p output silent wrote = wrote
unwritten DiskFault o p output silent wrote = wrote
unwritten LinkFault o p output silent wrote = wrote
unwritten ReadFault o p output silent wrote = wrote
unwritten WriteFault o p output silent wrote = absurd silent
unwritten Memory o p output silent wrote = wrote
unwritten (Foreign fault) o p output silent wrote = wrote
unwritten (Server number tag) o p output silent wrote = wrote
unwritten (BadAnswer place) o p output silent wrote = wrote

-- a status at which nothing is written
pub call_silent : (ended : CallEnd) (status : Status) (o p : Option (List ℕ)) → EndsSo ended status o p → IsSilent status → Keeps o p
call_silent ended status o p (inl (given, is, wrote)) silent = absurd (unwritten status o p (output_of given) silent wrote)
call_silent ended status o p (inr (leads, kept)) silent = kept

-- what a call was made of
pub has_called : (ends : List ℕ → Call → Option (List ℕ) → CallEnd → Type 0) (untouched : Type 0) (line : DeviceLine) (i j o p : Option (List ℕ))
    (text : List ℕ) (made : Call) (host : Option (List ℕ)) (ended : CallEnd) → ReadsFor line.task i j text
    → (made ≡ call_for line.task text) × (host ≡ server_for line.task) × (TakesPassword line.task → IsPassword (first_line text))
    → ends line.store made host ended → HasCalled ends untouched line i j o p ended
has_called ends untouched line i j o p text made host ended read spells call = record {
  text = text;
  read = read;
  password = spells.2;
  call =
      subst (λ (h : Option (List ℕ)). ends line.store (call_for line.task text) h ended) spells.1
      (subst (λ (k : Call). ends line.store k host ended) spells.0 call);
}

-- ---- what is taken of the input

-- a task that takes its input reads all of it
pub taken_read : (t : Task) (i j : Option (List ℕ)) (text : List ℕ) → TakesInput t → ReadsText i j text → ReadsFor t i j text
taken_read (task.register server identifier cost) i j text takes read = read
taken_read (task.sign_in server identifier) i j text takes read = read
taken_read (task.put title) i j text takes read = read
taken_read (task.edit uuid) i j text takes read = read
taken_read (task.delete uuid) i j text takes read = absurd takes
taken_read task.list i j text takes read = absurd takes
taken_read (task.content uuid) i j text takes read = absurd takes
taken_read (task.sync server) i j text takes read = absurd takes
taken_read (task.change_password server cost) i j text takes read = read

-- a text that is read for a task is what is kept, where it isn't a note's
pub content_taken : (t : Task) (i j : Option (List ℕ)) (result : Result (String Global) Status) → TakesInput t → ((text : List ℕ) → kept_of t text ≡ text)
    → IfOk result (λ text. ReadsText i j (string_bytes text))
    → IfOk result (λ content. (text : List ℕ) × ReadsFor t i j text × (string_bytes content ≡ kept_of t text))
content_taken t i j (Ok content) takes kept read = (string_bytes content, taken_read t i j (string_bytes content) takes read, sym (kept (string_bytes content)))
content_taken t i j (Err status) takes kept read = tt

pub content_refused : (t : Task) (i j : Option (List ℕ)) (result : Result (String Global) Status) → TakesInput t
    → IfErr result (λ status. StopsReading status i j) → IfErr result (λ status. TakesInput t × StopsReading status i j)
content_refused t i j (Ok content) takes stops = tt
content_refused t i j (Err status) takes stops = (takes, stops)
