-- What a map from names to bytes holds.
use Rattle.std.specs.Prelude.{option_map}
use Rattle.std.specs.BTreeMap.{get_by_text}
use Rattle.outside.specs.Files.{Held}
use Rattle.memory_devices.specs.declared.store.Store.{Store}

-- the bytes under each name
abbrev pub held_of : Store → Held
held_of s name = option_map (λ v. v.items) (get_by_text s.files name)
