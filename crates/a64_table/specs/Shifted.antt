-- The fields of a word that say how the second operand is shifted.
use Rattle.std.specs.Prelude.{ℕ, List, [], ◌∷◌}
use Rattle.a64_table.specs.Table.{Field, ◌is◌, Imm6, ShiftType, shift_number}
use Rattle.a64_instr.specs.declared.instr.Shift.{Shift}
use Rattle.a64_instr.specs.declared.instr.Instr.{Instr}
use Rattle.a64_instr.specs.declared.instr.Instr.TheVariants.{AddReg, SubReg, SubsReg, AndReg, BicReg, OrrReg, OrnReg, EorReg, AndsReg}

-- a shift type and an amount
abbrev pub shift_by : Shift → ℕ → List Field
shift_by shift by = (Imm6 is by) ∷ (ShiftType is shift_number shift) ∷ []

-- the shift of the second operand of an instruction: no field in a row that has none
abbrev pub shift_fields : Instr → List Field
shift_fields (AddReg rd rn rm shift by) = shift_by shift by
shift_fields (SubReg rd rn rm shift by) = shift_by shift by
shift_fields (SubsReg rd rn rm shift by) = shift_by shift by
shift_fields (AndReg rd rn rm shift by) = shift_by shift by
shift_fields (BicReg rd rn rm shift by) = shift_by shift by
shift_fields (OrrReg rd rn rm shift by) = shift_by shift by
shift_fields (OrnReg rd rn rm shift by) = shift_by shift by
shift_fields (EorReg rd rn rm shift by) = shift_by shift by
shift_fields (AndsReg rd rn rm shift by) = shift_by shift by
shift_fields _ = []
