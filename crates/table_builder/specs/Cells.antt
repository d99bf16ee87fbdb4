-- How far cells and bytes are counted, and what arrays are in the end.
use Rattle.std.specs.Prelude.{ℕ, ◌*◌, ◌^◌, min}
use Rattle.ob_types.specs.declared.types.Extent.{Extent}
use Rattle.ob_judge.specs.Shapes.{Shape, Array}

-- more than any type may have
abbrev pub most_cells : ℕ
most_cells = 2 ^ 30

abbrev pub counted_extent : Extent → Extent
counted_extent x = record x { bytes = min most_cells x.bytes }

-- what the innermost elements of an array are, and how many these are; of what is no array, itself
abbrev pub innermost : Shape → Shape
innermost (Array n a) = innermost a
innermost a = a

abbrev pub elements_in : Shape → ℕ
elements_in (Array n a) = n * elements_in a
elements_in a = 1
