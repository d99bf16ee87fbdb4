-- Holes in code as holes.
use Rattle.procedure_pieces.specs.Pieces as p
use Rattle.procedure_code.specs.declared.holes.What.{What}
use Rattle.procedure_code.specs.declared.holes.What.TheVariants as w
use Rattle.procedure_code.specs.declared.holes.Hole.{Hole}

abbrev pub what_in : What → p.What
what_in (w.Calls procedure) = p.Calls procedure
what_in w.Copies = p.Copies
what_in w.Zeros = p.Zeros
what_in w.Compares = p.Compares
what_in (w.Lower procedure rd) = p.Lower procedure rd
what_in (w.Upper procedure rd) = p.Upper procedure rd

abbrev pub hole_in : Hole → p.Hole
hole_in h = record { at = h.at; what = what_in h.what }
