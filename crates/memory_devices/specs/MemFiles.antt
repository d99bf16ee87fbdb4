-- What files in memory hold, and which calls of them fail.
use Rattle.outside.specs.Files.{Held}
use Rattle.memory_devices.specs.Calls.{Calls}
use Rattle.memory_devices.specs.Schedule as schedule
use Rattle.memory_devices.specs.Store.{held_of}
use Rattle.memory_devices.specs.declared.mem_files.MemFiles.{MemFiles}

-- the bytes under each name
abbrev pub contents_of : MemFiles → Held
contents_of f = held_of f.store

-- their calls
abbrev pub calls_of : MemFiles → Calls
calls_of f = schedule.calls_of f.schedule
