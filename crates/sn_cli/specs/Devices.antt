-- What a line of a device did, by its status: what it read, the call that it made and how that ended, and what it wrote.
use Rattle.std.specs.Prelude.{◌≡◌, ◌⊎◌, ℕ, ◌+◌, List, length, Option}
use Rattle.std.specs.Io.KnownBytes.{Appends, Keeps}
use Rattle.sn_calls.specs.declared.ends.Answered.{Answered}
use Rattle.sn_calls.specs.declared.ends.CallEnd.{CallEnd}
use Rattle.sn_calls.specs.declared.ends.CallEnd.TheVariants as end
use Rattle.sn_cli.specs.CallEnds.{LeadsTo, output_of}
use Rattle.sn_cli.specs.DeviceCalls.{IsPassword, ReadsFor, TakesPassword, call_for, first_line, server_for}
use Rattle.sn_command.specs.DeviceLines.{DeviceLine, TakesInput}
use Rattle.sn_cli.specs.Inputs.{MOST_INPUT, ReadsText, StopsReading}
use Rattle.sn_status.specs.declared.refusal.Refusal.TheVariants.{InputLong, InputUtf8, Form, Item, Line, NotAllowed, PasswordLine, Client}
use Rattle.sn_status.specs.declared.status.Status.{Status}
use Rattle.sn_status.specs.declared.status.Status.TheVariants.{Done, Usage, Refused, DiskFault, LinkFault, ReadFault, WriteFault, Memory, Foreign, Server, BadAnswer}
use Rattle.sn_device.specs.Runs.{Call}
use Rattle.sn_io.specs.Streams.{GivesAtMost, TakesPart}

-- `ends` says how a call on the store of a name ends, and `untouched` that shelf, link and seeds are as they were
module _ (ends : List ℕ → Call → Option (List ℕ) → CallEnd → Type 0) (untouched : Type 0) (line : DeviceLine)
    (input_before input_after out_before out_after : Option (List ℕ)) where
  -- all that is to be read was read, and spells the call, which ended so
  pub record HasCalled (ended : CallEnd) : Type 0 where
    pub text : List ℕ
    pub read : ReadsFor line.task input_before input_after text
    pub password : TakesPassword line.task → IsPassword (first_line text)
    pub call : ends line.store (call_for line.task text) (server_for line.task) ended

  -- it was answered, and this was called for
  pub record HasAnswered (writes : List ℕ → Type 0) : Type 0 where
    pub given : Answered
    pub called : HasCalled (end.Answered given)
    pub wrote : writes (output_of given)

  -- it wasn't, and nothing was written
  pub record HasFailed (status : Status) : Type 0 where
    pub ended : CallEnd
    pub called : HasCalled ended
    pub leads : LeadsTo ended status
    pub silent : Keeps out_before out_after

  -- no call was made, and nothing was written
  pub record HasStopped (reading : Type 0) : Type 0 where
    pub read : reading
    pub kept : untouched
    pub silent : Keeps out_before out_after

  -- the input is no text, or wasn't read
  pub record IsUnread (status : Status) : Type 0 where
    pub takes : TakesInput line.task
    pub stops : StopsReading status input_before input_after

  -- the input's first line is no password, for its length
  pub record HasNoPassword (count : ℕ) : Type 0 where
    pub takes : TakesPassword line.task
    pub text : List ℕ
    pub read : ReadsText input_before input_after text
    pub none : ¬ (IsPassword (first_line text))
    pub count_is : count ≡ length (first_line text)

  -- nothing was read, or where the line takes its input, at most one byte more than an input may have
  abbrev pub ReadsSome : Type 0
  ReadsSome = (input_after ≡ input_before) ⊎ (TakesInput line.task × GivesAtMost input_before input_after (MOST_INPUT + 1))

  -- what the line did
  abbrev pub DeviceRuns : Status → Type 0
  DeviceRuns Done = HasAnswered (Appends out_before out_after)
  DeviceRuns Usage = ⊥
  DeviceRuns (Refused InputLong) = HasStopped (IsUnread (Refused InputLong))
  DeviceRuns (Refused (InputUtf8 place)) = HasStopped (IsUnread (Refused (InputUtf8 place)))
  DeviceRuns (Refused (Form refusal)) = ⊥
  DeviceRuns (Refused (Item refusal)) = ⊥
  DeviceRuns (Refused (Line number)) = ⊥
  DeviceRuns (Refused (NotAllowed number)) = ⊥
  DeviceRuns (Refused (PasswordLine count)) = HasStopped (HasNoPassword count)
  DeviceRuns (Refused (Client refusal)) = HasFailed (Refused (Client refusal))
  DeviceRuns DiskFault = HasFailed DiskFault
  DeviceRuns LinkFault = HasFailed LinkFault
  DeviceRuns ReadFault = HasStopped (IsUnread ReadFault)
  DeviceRuns WriteFault = HasAnswered (TakesPart out_before out_after)
  DeviceRuns Memory = HasStopped ReadsSome ⊎ HasFailed Memory
  DeviceRuns (Foreign fault) = HasFailed (Foreign fault)
  DeviceRuns (Server number tag) = HasFailed (Server number tag)
  DeviceRuns (BadAnswer place) = HasFailed (BadAnswer place)
