-- What stands at the numbers of words.
use Rattle.std.specs.Prelude.{◌≡◌, ℕ, ◌+◌, List, [], ◌∷◌, Option, Some, slice_get}
use Rattle.std.specs.Option.{option_and_then}
use Rattle.a64_instr.specs.declared.instr.Instr.{Instr}
use Rattle.a64_instr.specs.declared.instr.Instr.TheVariants as i
use Rattle.a64_numbers.specs.Branches.{branch_to}
use Rattle.a64_table.specs.Table.{InRange}
use Rattle.a64_table.specs.Decode.{decode_of}
use Rattle.image_form.specs.declared.image.Image.{Image}
use Rattle.elf_file.specs.Native.{native_size, native_words, runtime_place, address}
use Rattle.elf_file.specs.Runtime.{Piece, Code, Text, service_entry}

-- the instruction of the word with that number, where there is one of the table
abbrev pub instr_at : List ℕ → ℕ → Option Instr
instr_at words place = option_and_then decode_of (slice_get words place)

-- each instruction's word is one of the table
abbrev pub AreInTable : List Instr → Type 0
AreInTable [] = Unit {0}
AreInTable (instr ∷ instrs) = InRange instr × AreInTable instrs

abbrev pub PiecesAreInTable : List Piece → Type 0
PiecesAreInTable [] = Unit {0}
PiecesAreInTable (Code instrs ∷ pieces) = AreInTable instrs × PiecesAreInTable pieces
PiecesAreInTable (Text bytes ∷ pieces) = PiecesAreInTable pieces

-- neither a call of a service nor a trap
abbrev pub IsOrdinary : Instr → Type 0
IsOrdinary (i.Svc service) = ⊥
IsOrdinary (i.Brk kind) = ⊥
IsOrdinary other = Unit {0}

-- a word is B, and arrives at a word
pub record Goes (words : List ℕ) (from to : ℕ) : Type 0 where
  pub field : ℕ
  pub is : instr_at words from ≡ Some (i.B field)
  pub arrives : branch_to 26 (address from) field ≡ address to

-- a word is BL, and arrives at a word
pub record Calls (words : List ℕ) (from to : ℕ) : Type 0 where
  pub field : ℕ
  pub is : instr_at words from ≡ Some (i.Bl field)
  pub arrives : branch_to 26 (address from) field ≡ address to

-- the word with that number calls a service by a stub: it goes to the stub, which saves X30, calls the service's words of the
-- runtime, restores X30 and goes to the word behind that one
pub record CallsByStub (image : Image) (place service : ℕ) : Type 0 where
  pub stub : ℕ
  pub goes : Goes (native_words image) place stub
  pub saves : instr_at (native_words image) stub ≡ Some (i.Str 30 31 0)
  pub calls : Calls (native_words image) (stub + 1) (runtime_place (native_size image.code) + service_entry service)
  pub restores : instr_at (native_words image) (stub + 2) ≡ Some (i.Ldr 30 31 0)
  pub returns : Goes (native_words image) (stub + 3) (place + 1)
