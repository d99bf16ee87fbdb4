use Rattle.std.proofs.Common.{◌≡◌, drop}
use Rattle.ob_types.specs.Meaning.{texts_of}
use Rattle.ssa_tables.specs.Places.{finish, string_cells}
use Rattle.ssa_tables.proofs.cells.behind_procedures.Given as goal

abbrev pub invariant-loop-q : goal.invariant-loop-q
invariant-loop-q l = finish string_cells l.at (texts_of (drop l.q-index l.procedures)) ≡ finish string_cells l.first (texts_of l.procedures)
