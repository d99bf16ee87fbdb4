use Rattle.std.proofs.Common.{◌≡◌, map, take}
use Rattle.type_rows.specs.Sample.{field}
use Rattle.type_rows.proofs.sample.record_type.Given as goal

abbrev pub invariant-loop-type_number : goal.invariant-loop-type_number
invariant-loop-type_number l = l.found.items ≡ map field (take l.type_number-index l.fields)
