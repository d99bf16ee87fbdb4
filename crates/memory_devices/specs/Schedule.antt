-- The calls of a schedule.
use Rattle.memory_devices.specs.Calls.{Calls}
use Rattle.memory_devices.specs.declared.schedule.Schedule.{Schedule}

-- what it says of them
abbrev pub calls_of : Schedule → Calls
calls_of s = record { failing = s.failing.items; made = s.made; faults = s.faults }
