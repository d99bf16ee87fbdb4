use Rattle.std.specs.BTreeMap.{values}
use Rattle.check_bodies.specs.Strings.{EachAlike}
use Rattle.check_bodies.proofs.names.are_alike.Given as goal

abbrev pub invariant-loop-declared : goal.invariant-loop-declared
invariant-loop-declared l = EachAlike l.declared-iterator → EachAlike (values l.names.names)
