-- The routines: words that procedures call to copy, to zero and to compare bytes.
use Rattle.std.specs.Prelude.{ℕ, ◌-◌, ◌^◌, List, [], ◌∷◌, ◌++◌, map, false}
use Rattle.a64_instr.specs.declared.instr.Shift.TheVariants.{Lsl}
use Rattle.a64_instr.specs.declared.instr.Cond.TheVariants.{Ne, Hs, Hi}
use Rattle.a64_instr.specs.declared.instr.Instr.{Instr}
use Rattle.a64_instr.specs.declared.instr.Instr.TheVariants as i
use Rattle.a64_table.specs.Table.{word_of}
use Rattle.block_runs.specs.Effects.{char_bytes}
use Rattle.a64_runtime.specs.declared.routine.Routine.{Routine}
use Rattle.a64_runtime.specs.declared.routine.Routine.TheVariants.{Copy, Zero, Compare}

-- SUBS of two registers, whose difference is dropped
abbrev pub against : ℕ → ℕ → Instr
against a b = i.SubsReg 31 a b Lsl 0

-- X2 bytes go from X1 to X0: eight at a time as long as so many are left, then one at a time; X3 counts the bytes that are done
abbrev pub copy_words : List Instr
copy_words =
    i.Movz 3 0 0
    ∷ i.AddImm 4 3 8 false ∷ against 4 2 ∷ i.BCond 5 Hi ∷ i.LdrReg 5 1 3 ∷ i.StrReg 5 0 3 ∷ i.OrrReg 3 31 4 Lsl 0 ∷ i.B (2 ^ 26 - 6)
    ∷ against 3 2 ∷ i.BCond 5 Hs ∷ i.LdrbReg 5 1 3 ∷ i.StrbReg 5 0 3 ∷ i.AddImm 3 3 1 false ∷ i.B (2 ^ 26 - 5) ∷ i.Ret 30 ∷ []

-- X1 bytes at X0, a multiple of eight, become zero; X3 counts them
abbrev pub zero_words : List Instr
zero_words = i.Movz 3 0 0 ∷ against 3 1 ∷ i.BCond 4 Hs ∷ i.StrReg 31 0 3 ∷ i.AddImm 3 3 8 false ∷ i.B (2 ^ 26 - 4) ∷ i.Ret 30 ∷ []

-- the texts of X1 bytes at X0 and of X3 bytes at X2: X0 becomes the difference of their first different characters, or 0 where
-- both end before; a character behind a text's bytes is 0; X4 counts the bytes that are done
abbrev pub compare_words : List Instr
compare_words =
    i.Movz 4 0 0
    ∷ i.Movz 5 0 0 ∷ i.Movz 6 0 0 ∷ against 4 1 ∷ i.BCond 2 Hs ∷ i.LdrbReg 5 0 4 ∷ against 4 3 ∷ i.BCond 2 Hs ∷ i.LdrbReg 6 2 4 ∷ against 5 6 ∷ i.BCond 4 Ne ∷ i.Cbz 5 3
    ∷ i.AddImm 4 4 char_bytes false ∷ i.B (2 ^ 26 - 12) ∷ i.SubReg 0 5 6 Lsl 0 ∷ i.Ret 30 ∷ []

abbrev pub instructions : Routine → List Instr
instructions Copy = copy_words
instructions Zero = zero_words
instructions Compare = compare_words

-- the code words of a routine
abbrev pub words : Routine → List ℕ
words which = map word_of (instructions which)

-- all routines, as they stand in an image one behind the other
abbrev pub routines : List Instr
routines = copy_words ++ (zero_words ++ compare_words)
