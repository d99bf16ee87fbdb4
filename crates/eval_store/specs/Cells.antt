-- What the code's cells hold, as the meaning says it.
use Rattle.std.specs.Prelude.{ℕ, Option, Some, None}
use Rattle.ob_types.specs.Store.{Cell, Bits, Pointer, Code}
use Rattle.eval_store.specs.declared.cell.CellForm.{CellForm}
use Rattle.eval_store.specs.declared.cell.CellForm.TheVariants.{Bits as ABits, Pointer as APointer, Code as ACode}

abbrev pub cell_of : CellForm → Cell
cell_of (ABits n) = Bits n
cell_of (APointer o) = Pointer o
cell_of (ACode f) = Code f

abbrev pub form_of : Cell → CellForm
form_of (Bits n) = ABits n
form_of (Pointer o) = APointer o
form_of (Code f) = ACode f

-- the bits of a cell that has bits
abbrev pub number_of : Cell → Option ℕ
number_of (Bits n) = Some n
number_of _ = None
