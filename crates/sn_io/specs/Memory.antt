-- What the forms in memory hold.
use Rattle.std.specs.Prelude.{ℕ, List, drop}
use Rattle.std.specs.declared.option.Option.{Option}
use Rattle.sn_io.specs.FaultPlan.{Plan}
use Rattle.sn_io.specs.Seeds.{told_seeds}
use Rattle.sn_io.specs.declared.memory.MemSource.{MemSource}
use Rattle.sn_io.specs.declared.memory.MemSink.{MemSink}
use Rattle.sn_io.specs.declared.memory.MemSeeds.{MemSeeds}

-- the bytes that a source has left
abbrev pub source_left : MemSource → List ℕ
source_left source = drop source.at source.bytes.items

-- how many bytes it gives in one call at most
abbrev pub source_piece : MemSource → ℕ
source_piece source = source.piece

abbrev pub source_plan : MemSource → Plan
source_plan source = source.plan

-- the bytes that a sink holds
abbrev pub sink_held : MemSink → List ℕ
sink_held sink = sink.bytes.items

-- how many bytes it takes in one call at most
abbrev pub sink_piece : MemSink → ℕ
sink_piece sink = sink.piece

abbrev pub sink_plan : MemSink → Plan
sink_plan sink = sink.plan

-- the seeds that it gives first
abbrev pub seeds_made_with : MemSeeds → List (List ℕ)
seeds_made_with m = m.seeds.items

-- how many it gave, up to the end of the type
abbrev pub seeds_drawn : MemSeeds → ℕ
seeds_drawn m = m.drawn

-- the seeds that it gave, where it tells them
abbrev pub seeds_given : MemSeeds → Option (List (List ℕ))
seeds_given m = told_seeds m.seeds.items m.drawn
