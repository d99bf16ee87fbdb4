-- Which registers an instruction names, and how a code word that leaves X28 stands in a native program.
use Rattle.std.specs.Prelude.{◌≡◌, ℕ, ◌==◌, Bool, true, not, List, map, filter, Some}
use Rattle.std.specs.List.{list_all}
use Rattle.image_form.specs.declared.image.Image.{Image}
use Rattle.a64_instr.specs.declared.instr.Instr.{Instr}
use Rattle.a64_table.specs.Table.{Field, row_of}
use Rattle.a64_table.specs.Decode.{decode_of}
use Rattle.elf_file.specs.Native.{on_frame, native_words}
use Rattle.elf_file.specs.Placed.{instr_at, IsOrdinary}

-- the fields at Rd, Rn, Rm and Ra, which alone have five bits
abbrev pub is_register : Field → Bool
is_register field = field.at.width == 5

-- the numbers of the registers that an instruction names
abbrev pub registers_of : Instr → List ℕ
registers_of instr = map (λ field. field.value) (filter is_register (row_of instr).fields)

-- X28, which stands for SP in native words, is none of them
abbrev pub leaves_frame_register : Instr → Bool
leaves_frame_register instr = list_all (λ register. not (register == 28)) (registers_of instr)

-- the word with that number is one of the table, and doesn't name X28; but for calls of services and traps its native word is the
-- same instruction with X28 for SP
pub record StandsForItself (image : Image) (place word : ℕ) : Type 0 where
  pub instr : Instr
  pub is : decode_of word ≡ Some instr
  pub leaves : leaves_frame_register instr ≡ true
  pub native : IsOrdinary instr → instr_at (native_words image) place ≡ Some (on_frame instr)
