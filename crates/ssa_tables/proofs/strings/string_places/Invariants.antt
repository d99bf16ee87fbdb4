use Rattle.std.proofs.Common.{◌≡◌, ◌++◌, drop}
use Rattle.ob_types.specs.Meaning.{texts_of}
use Rattle.ssa_tables.specs.Places.{starts, string_size}
use Rattle.ssa_tables.proofs.strings.string_places.Given as goal

abbrev pub invariant-loop-q : goal.invariant-loop-q
invariant-loop-q l = l.list ++ starts string_size l.at (texts_of (drop l.q-index l.procedures)) ≡ starts string_size l.first (texts_of l.procedures)
