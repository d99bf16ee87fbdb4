use Rattle.std.proofs.Common.{◌≡◌, ◌++◌, drop}
use Rattle.ssa_tables.specs.Strings.{first_strings}
use Rattle.ssa_tables.proofs.strings.first_strings.Given as goal

abbrev pub invariant-loop-q : goal.invariant-loop-q
invariant-loop-q l = l.list ++ first_strings l.at (drop l.q-index l.procedures) ≡ first_strings 0 l.procedures
