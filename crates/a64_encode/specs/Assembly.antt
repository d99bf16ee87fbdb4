-- Lines with labels, and the words that they come to (Arm Architecture Reference Manual: B, BL, B.cond,
-- CBZ and CBNZ have the distance to their target, in words, as a signed field of 26 or 19 bits).
use Rattle.std.specs.Prelude.{ℕ, ◌+◌, ◌*◌, ◌<◌, ◌==◌, Option, Some, None, List, [], ◌∷◌, ◌++◌, if◌then◌else◌, IsSome}
use Rattle.a64_numbers.specs.Branches.{branch_field}
use Rattle.a64_instr.specs.declared.instr.Instr.{Instr}
use Rattle.a64_instr.specs.declared.instr.Instr.TheVariants as instr
use Rattle.a64_table.specs.Table.{word_of}
use Rattle.a64_encode.specs.declared.asm.Branch.{Branch}
use Rattle.a64_encode.specs.declared.asm.Branch.TheVariants.{B, Bl, If, Cbz, Cbnz}
use Rattle.a64_encode.specs.declared.asm.Asm.{Asm}
use Rattle.a64_encode.specs.declared.asm.Asm.TheVariants.{Word, Label, To}

-- how many words a line has
abbrev pub width : Asm → ℕ
width (Label label) = 0
width _ = 1

-- how many words lines have
abbrev pub count : List Asm → ℕ
count [] = 0
count (line ∷ lines) = width line + count lines

-- the first of two that is there
abbrev pub or_else : Option ℕ → Option ℕ → Option ℕ
or_else (Some x) other = Some x
or_else None other = other

-- where a label stands, in lines of which the first word has number k: the number of the word that
-- follows it; of a label that stands twice, the last
abbrev pub place_from : ℕ → List Asm → ℕ → Option ℕ
place_from k [] label = None
place_from k (Label other ∷ lines) label = or_else (place_from k lines label) (if other == label then Some k else None)
place_from k (Word instr ∷ lines) label = place_from (k + 1) lines label
place_from k (To kind other ∷ lines) label = place_from (k + 1) lines label

abbrev pub place : List Asm → ℕ → Option ℕ
place lines label = place_from 0 lines label

-- a branch from the word with number `from` to the word with number `to`
abbrev pub branch : Branch → ℕ → ℕ → Instr
branch B from to = instr.B (branch_field 26 (4 * from) (4 * to))
branch Bl from to = instr.Bl (branch_field 26 (4 * from) (4 * to))
branch (If cond) from to = instr.BCond (branch_field 19 (4 * from) (4 * to)) cond
branch (Cbz register) from to = instr.Cbz register (branch_field 19 (4 * from) (4 * to))
branch (Cbnz register) from to = instr.Cbnz register (branch_field 19 (4 * from) (4 * to))

-- the word with number k, branching to a place that is there
abbrev pub branch_word : Branch → ℕ → Option ℕ → List ℕ
branch_word kind k (Some to) = word_of (branch kind k to) ∷ []
branch_word kind k None = []

-- the words of lines, of which the first has number k, with labels at `places`
abbrev pub words_from : (ℕ → Option ℕ) → ℕ → List Asm → List ℕ
words_from places k [] = []
words_from places k (Word instr ∷ lines) = word_of instr ∷ words_from places (k + 1) lines
words_from places k (Label label ∷ lines) = words_from places k lines
words_from places k (To kind label ∷ lines) = branch_word kind k (places label) ++ words_from places (k + 1) lines

abbrev pub words : List Asm → List ℕ
words lines = words_from (place lines) 0 lines

-- each label that is named stands somewhere
abbrev pub IsNamed : (ℕ → Option ℕ) → Asm → Type 0
IsNamed places (To kind label) = IsSome (places label)
IsNamed places _ = Unit {0}

abbrev pub AreNamed : (ℕ → Option ℕ) → List Asm → Type 0
AreNamed places [] = Unit {0}
AreNamed places (line ∷ lines) = IsNamed places line × AreNamed places lines

-- behind each label stands a word
abbrev pub AreFollowed : List Asm → Type 0
AreFollowed [] = Unit {0}
AreFollowed (Label label ∷ lines) = (0 < count lines) × AreFollowed lines
AreFollowed (line ∷ lines) = AreFollowed lines

-- lines that can be assembled
pub record Assembles (lines : List Asm) : Type 0 where
  pub named : AreNamed (place lines) lines
  pub followed : AreFollowed lines

-- the greatest number of code words
abbrev pub greatest : ℕ
greatest = 262144
