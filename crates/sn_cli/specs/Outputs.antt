-- How much of an output was written.
use Rattle.std.specs.Prelude.{ℕ, List}
use Rattle.std.specs.declared.option.Option.{Option}
use Rattle.std.specs.Io.KnownBytes.{Appends}
use Rattle.sn_status.specs.declared.status.Status.{Status}
use Rattle.sn_status.specs.declared.status.Status.TheVariants.{Done, Usage, Refused, DiskFault, LinkFault, ReadFault, WriteFault, Memory, Foreign, Server, BadAnswer}
use Rattle.sn_io.specs.Streams.{TakesPart}

-- the output was appended: all of it, or at a write fault a front of it and not all
abbrev pub Writes : Status → Option (List ℕ) → Option (List ℕ) → List ℕ → Type 0
Writes Done before after output = Appends before after output
Writes Usage before after output = ⊥
Writes (Refused refusal) before after output = ⊥
Writes DiskFault before after output = ⊥
Writes LinkFault before after output = ⊥
Writes ReadFault before after output = ⊥
Writes WriteFault before after output = TakesPart before after output
Writes Memory before after output = ⊥
Writes (Foreign unfit) before after output = ⊥
Writes (Server number tag) before after output = ⊥
Writes (BadAnswer place) before after output = ⊥
