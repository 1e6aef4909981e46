-- What the forms in memory hold.
use Rattle.std.specs.Prelude.{ℕ, List}
use Rattle.std.specs.declared.option.Option.{Option}
use Rattle.std.specs.Prelude.{Some}
use Rattle.sn_io.specs.FaultPlan.{Plan}
use Rattle.sn_io.specs.Memory.{source_left, source_plan, sink_held, sink_plan}
use Rattle.sn_io.specs.declared.memory.MemSource.{MemSource}
use Rattle.sn_io.specs.declared.memory.MemSink.{MemSink}
use Rattle.sn_net.specs.Connections.{Ends}
use Rattle.sn_net.specs.Times.{told_times}
use Rattle.sn_net.specs.declared.mem_clock.MemClock.{MemClock}
use Rattle.sn_net.specs.declared.mem_port.MemPort.{MemPort}

-- the moments that a clock gives first
abbrev pub clock_times : MemClock → List ℕ
clock_times clock = clock.times.items

-- how many it gave, up to the end of the type
abbrev pub clock_count : MemClock → ℕ
clock_count clock = clock.given

-- the moments that it gave, where it tells them
abbrev pub clock_given : MemClock → Option (List ℕ)
clock_given clock = told_times clock.times.items clock.given

-- what a connection in memory tells
abbrev pub ends_of : MemSource × MemSink → Ends
ends_of ends = record {
  left = Some (source_left ends.0);
  held = Some (sink_held ends.1);
  reads = (source_plan ends.0).faults;
  writes = (sink_plan ends.1).faults;
}

-- the connections that are to come at a port, in order
abbrev pub port_waiting : MemPort → List (MemSource × MemSink)
port_waiting port = port.waiting.items

-- those that were ended, in order
abbrev pub port_ended : MemPort → List (MemSource × MemSink)
port_ended port = port.ended.items

abbrev pub port_plan : MemPort → Plan
port_plan port = port.plan
