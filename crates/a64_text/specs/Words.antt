-- The text of a word, whether it is an instruction's or none's.
use Rattle.std.specs.Prelude.{ℕ, List, ◌++◌, codes, Option, Some, None}
use Rattle.a64_instr.specs.declared.instr.Instr.{Instr}
use Rattle.a64_table.specs.Decode.{decode_of}
use Rattle.a64_text.specs.declared.parts.Told.{Told}
use Rattle.a64_text.specs.declared.parts.Told.TheVariants.{Beside, At}
use Rattle.a64_text.specs.Operands.{last_digits}
use Rattle.a64_text.specs.Texts.{instr_text}

-- a word that is no instruction's, as data
abbrev pub data_text : ℕ → List ℕ
data_text word = codes ".word 0x" ++ last_digits 8 word

abbrev pub read_text : Told → ℕ → Option Instr → List ℕ
read_text told word None = data_text word
read_text told word (Some i) = instr_text told i

-- a word alone: its branch is told in bytes from the word
abbrev pub word_text : ℕ → List ℕ
word_text word = read_text Beside word (decode_of word)

-- the word of a number in code: its branch is told by the target's number
abbrev pub word_text_at : ℕ → ℕ → List ℕ
word_text_at word at = read_text (At at) word (decode_of word)
