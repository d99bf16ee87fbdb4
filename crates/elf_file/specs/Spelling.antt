-- The bytes of a native program: a static ELF file of 64 bits for Linux on AArch64. All numbers have their lowest byte first.
use Rattle.std.specs.Prelude.{ℕ, ◌+◌, ◌*◌, List, [], ◌∷◌, ◌++◌, length, replicate, codes}
use Rattle.std.specs.List.{flat_map}
use Rattle.std.specs.Int.{w16, w32, w64, to_le_bytes}
use Rattle.image_form.specs.declared.image.Image.{Image}
use Rattle.a64_memory.specs.Areas.{data_base, local_base, frames_base, heap_base, frames_bytes, local_words, heap_words}
use Rattle.elf_file.specs.declared.writing.Segment.{Segment}
use Rattle.elf_file.specs.Native.{native_size, links_place, constants_place, address, native_words}

abbrev pub two : ℕ → List ℕ
two n = to_le_bytes w16 n

abbrev pub four : ℕ → List ℕ
four n = to_le_bytes w32 n

abbrev pub eight : ℕ → List ℕ
eight n = to_le_bytes w64 n

unfoldable pub zeros : ℕ → List ℕ
zeros n = replicate n 0

-- where the words begin in the file: the greatest page of memory, by which a segment's place and its address agree
abbrev pub words_begin : ℕ
words_begin = 65536

-- the words and the constants
abbrev pub segment_length : Image → ℕ
segment_length image = 4 * constants_place (native_size image.code) + length image.constants

-- 64 bits, lowest byte first, version 1; a program with fixed addresses, for AArch64, version 1
abbrev pub identification : List ℕ
identification = 0x7F ∷ codes "ELF" ++ 2 ∷ 1 ∷ 1 ∷ 0 ∷ 0 ∷ 0 ∷ 0 ∷ 0 ∷ 0 ∷ 0 ∷ 0 ∷ 0 ∷ [] ++ two 2 ++ two 183 ++ four 1

-- the segments' list begins at 64 and there is none of sections; no flags; the header's 64 bytes, 7 segments of 56 bytes, and of
-- sections' entries of 64 bytes none
abbrev pub lists : List ℕ
lists = eight 64 ++ eight 0 ++ four 0 ++ two 64 ++ two 56 ++ two 7 ++ two 64 ++ two 0 ++ two 0

-- it begins at the links' second word
abbrev pub file_header : Image → List ℕ
file_header image = identification ++ eight (address (links_place (native_size image.code) + 1)) ++ lists

-- readable and executable, or readable and writable
abbrev pub executed : ℕ
executed = 5

abbrev pub written : ℕ
written = 6

-- memory of zeros
abbrev pub memory : ℕ → ℕ → Segment
memory address bytes = record { kind = 1; rights = written; place = 0; address = address; in_file = 0; in_memory = bytes; alignment = 65536 }

-- the words with the constants; the data, the local data, the frames and the heap as the machine has them; the runtime's own; no
-- stack that is executed
abbrev pub segments : Image → List Segment
segments image =
    record { kind = 1; rights = executed; place = words_begin; address = address 0; in_file = segment_length image; in_memory = segment_length image; alignment = 65536 }
    ∷ memory data_base (image.globals + length image.constants)
    ∷ memory local_base (8 * local_words)
    ∷ memory frames_base (frames_bytes image.frame)
    ∷ memory heap_base (8 * heap_words)
    ∷ memory 0x90000000 1114112
    ∷ record { kind = 0x6474E551; rights = written; place = 0; address = 0; in_file = 0; in_memory = 0; alignment = 16 }
    ∷ []

abbrev pub segment_bytes : Segment → List ℕ
segment_bytes s = four s.kind ++ four s.rights ++ eight s.place ++ eight s.address ++ eight s.address ++ eight s.in_file ++ eight s.in_memory ++ eight s.alignment

-- 456 bytes
abbrev pub header : Image → List ℕ
header image = file_header image ++ flat_map segment_bytes (segments image)

unfoldable pub elf_bytes : Image → List ℕ
elf_bytes image = header image ++ zeros 65080 ++ flat_map four (native_words image) ++ image.constants
