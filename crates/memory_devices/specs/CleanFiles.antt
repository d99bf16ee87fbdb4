-- What files without faults hold.
use Rattle.outside.specs.Files.{Held}
use Rattle.memory_devices.specs.Store.{held_of}
use Rattle.memory_devices.specs.declared.clean.CleanFiles.{CleanFiles}

-- the bytes under each name
abbrev pub contents_of : CleanFiles → Held
contents_of f = held_of f.store
