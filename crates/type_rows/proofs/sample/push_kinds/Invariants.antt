use Rattle.std.proofs.Common.{◌≡◌, ◌++◌, take}
use Rattle.type_rows.proofs.sample.push_kinds.Given as goal

abbrev pub invariant-loop-kind : goal.invariant-loop-kind
invariant-loop-kind l = l.types ≡ record l.initial.types { kinds = l.initial.types.kinds ++ take l.kind-index l.kinds }
