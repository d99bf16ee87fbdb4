use Rattle.std.proofs.Common.{◌≡◌, map, take}
use Rattle.std.specs.Arc.{arc_value}
use Rattle.check_types.specs.Fields.{in_maps}
use Rattle.check_types.proofs.fields.last_of.Given as goal

abbrev pub invariant-loop-fields : goal.invariant-loop-fields
invariant-loop-fields l = l.found ≡ in_maps (map arc_value (take l.fields-index l.maps)) l.name
