-- The runtime: the words that stand behind each program's own, the same in each file. They do the services by Linux's calls
-- (`SVC 0` is here the call with the number in X8: 63 reads, 64 writes, 94 ends the process, 134 sets what a signal does).
-- SP is at 90000000 (hexadecimal). There lie: 0 a stub's X30; 8 how many bytes are in the buffer; 16 the next byte of the input; 24 how many
-- are left; 32 to 96 X0 to X8; 104 and 112 X30 within; 128 the action for the signal of a closed pipe; 256 to 512 a number's text; 4096 the
-- buffer; 8192 the input.
use Rattle.std.specs.Prelude.{ℕ, ◌+◌, ◌-◌, ◌*◌, ◌^◌, true, false, List, [], ◌∷◌, map, codes, get_or}
use Rattle.std.specs.List.{flat_map}
use Rattle.a64_instr.specs.declared.instr.Shift.TheVariants.{Lsl, Lsr, Asr}
use Rattle.a64_instr.specs.declared.instr.Instr.{Instr}
use Rattle.a64_instr.specs.declared.instr.Instr.TheVariants as i
use Rattle.a64_table.specs.Table.{word_of}

-- SP, as an address or in a sum with a number
abbrev pub sp : ℕ
sp = 31

-- 0, elsewhere
abbrev pub zr : ℕ
zr = 31

-- ORR of nothing and a register
abbrev pub move : ℕ → ℕ → Instr
move to from = i.OrrReg to zr from Lsl 0

-- 0: copies the constants to their place, ignores the signal of a closed pipe, reads the input where the image takes one, and puts
-- the registers and flags as the machine has them at the start
abbrev pub start : List Instr
start =
    i.Cbz 2 7 ∷ i.Ldr 3 0 0 ∷ i.Str 3 1 0 ∷ i.AddImm 0 0 8 false ∷ i.AddImm 1 1 8 false ∷ i.SubImm 2 2 8 false ∷ i.B (2 ^ 26 - 6) ∷
    i.Movz 8 36864 1 ∷ i.AddImm sp 8 0 false ∷ i.Movz 0 1 0 ∷ i.Str 0 sp 16 ∷ i.Movz 0 13 0 ∷ i.AddImm 1 sp 128 false ∷
    i.Movz 3 8 0 ∷ i.Movz 8 134 0 ∷ i.Svc 0 ∷ i.Cbz 9 18 ∷ i.AddImm 1 sp 2 true ∷ i.Str 1 sp 2 ∷ i.Movz 2 16 1 ∷
    i.AddImm 2 2 1 false ∷ i.Movz 0 0 0 ∷ i.Movz 8 63 0 ∷ i.Svc 0 ∷ i.Cbz 0 7 ∷ i.OrrReg 3 zr 0 Lsr 63 ∷ i.Cbnz 3 186 ∷
    i.AddReg 1 1 0 Lsl 0 ∷ i.SubReg 2 2 0 Lsl 0 ∷ i.Cbnz 2 (2 ^ 19 - 8) ∷ i.B 200 ∷ i.Ldr 0 sp 2 ∷ i.SubReg 1 1 0 Lsl 0 ∷
    i.Str 1 sp 3 ∷ i.Movz 0 0 0 ∷ i.Movz 1 0 0 ∷ i.Movz 2 0 0 ∷ i.Movz 3 0 0 ∷ i.Movz 8 0 0 ∷ i.Movz 9 0 0 ∷ i.Movz 19 8192 1 ∷
    i.Movz 20 8192 0 ∷ i.Movz 21 32768 1 ∷ i.Movz 22 128 1 ∷ i.Movz 23 16 1 ∷ i.Movz 24 4096 1 ∷ i.AndsReg zr 20 20 Lsl 0 ∷
    i.B (2 ^ 26 - 57) ∷ []

-- 48: service 1
abbrev pub char_service : List Instr
char_service =
    i.Str 30 sp 14 ∷ i.Bl 21 ∷ i.Bl 42 ∷ i.B 8 ∷ []

-- 52: service 2
abbrev pub int_service : List Instr
int_service =
    i.Str 30 sp 14 ∷ i.Bl 17 ∷ i.Bl 60 ∷ i.B 4 ∷ []

-- 56: service 3
abbrev pub string_service : List Instr
string_service =
    i.Str 30 sp 14 ∷ i.Bl 13 ∷ i.Bl 92 ∷ []

-- 59: registers as they were, and back to the stub
abbrev pub back : List Instr
back =
    i.Ldr 0 sp 4 ∷ i.Ldr 1 sp 5 ∷ i.Ldr 2 sp 6 ∷ i.Ldr 3 sp 7 ∷ i.Ldr 4 sp 8 ∷ i.Ldr 5 sp 9 ∷ i.Ldr 6 sp 10 ∷ i.Ldr 7 sp 11 ∷
    i.Ldr 8 sp 12 ∷ i.Ldr 30 sp 14 ∷ i.Ret 30 ∷ []

-- 70: registers that services use
abbrev pub save : List Instr
save =
    i.Str 0 sp 4 ∷ i.Str 1 sp 5 ∷ i.Str 2 sp 6 ∷ i.Str 3 sp 7 ∷ i.Str 4 sp 8 ∷ i.Str 5 sp 9 ∷ i.Str 6 sp 10 ∷ i.Str 7 sp 11 ∷
    i.Str 8 sp 12 ∷ i.Ret 30 ∷ []

-- 80: service 4: X0 is the next byte of the input, or all ones behind the last
abbrev pub read_service : List Instr
read_service =
    i.Ldr 0 sp 3 ∷ i.Cbz 0 9 ∷ i.SubImm 0 0 1 false ∷ i.Str 0 sp 3 ∷ i.Ldr 0 sp 2 ∷ i.AddImm 0 0 1 false ∷ i.Str 0 sp 2 ∷
    i.SubImm 0 0 1 false ∷ i.Ldrb 0 0 0 ∷ i.Ret 30 ∷ i.Movn 0 0 0 ∷ i.Ret 30 ∷ []

-- 92: one byte into the buffer, which is written where it is full
abbrev pub put_char : List Instr
put_char =
    i.Ldr 7 sp 1 ∷ i.AddImm 6 sp 1 true ∷ i.StrbReg 0 6 7 ∷ i.AddImm 7 7 1 false ∷ i.Str 7 sp 1 ∷ i.OrrReg 6 zr 7 Lsr 12 ∷
    i.Cbnz 6 2 ∷ i.Ret 30 ∷ []

-- 100: writes the buffer, which is empty then
abbrev pub flush : List Instr
flush =
    i.Ldr 2 sp 1 ∷ i.Str zr sp 1 ∷ i.AddImm 1 sp 1 true ∷ i.Cbz 2 10 ∷ i.Movz 0 1 0 ∷ i.Movz 8 64 0 ∷ i.Svc 0 ∷
    i.SubImm 7 0 1 false ∷ i.OrrReg 7 zr 7 Lsr 63 ∷ i.Cbnz 7 112 ∷ i.AddReg 1 1 0 Lsl 0 ∷ i.SubReg 2 2 0 Lsl 0 ∷ i.B (2 ^ 26 - 9) ∷
    i.Ret 30 ∷ []

-- 114: the number in X0 in at least X1 columns; its text is made below SP + 512
abbrev pub put_int : List Instr
put_int =
    i.Str 30 sp 13 ∷ i.AddImm 5 sp 512 false ∷ move 4 5 ∷ i.OrrReg 3 zr 0 Lsr 63 ∷ move 2 0 ∷ i.Cbnz 3 2 ∷ i.SubReg 2 zr 0 Lsl 0 ∷
    i.Movz 6 10 0 ∷ i.Movz 8 48 0 ∷ i.Sdiv 7 2 6 ∷ i.Msub 0 7 6 2 ∷ i.SubReg 0 8 0 Lsl 0 ∷ i.SubImm 4 4 1 false ∷ i.Strb 0 4 0 ∷
    move 2 7 ∷ i.Cbnz 2 (2 ^ 19 - 6) ∷ i.Cbz 3 4 ∷ i.Movz 0 45 0 ∷ i.SubImm 4 4 1 false ∷ i.Strb 0 4 0 ∷ i.BicReg 1 1 1 Asr 63 ∷
    i.OrrReg 2 zr 1 Lsr 8 ∷ i.Cbz 2 2 ∷ i.Movz 1 255 0 ∷ i.SubReg 1 5 1 Lsl 0 ∷ i.Movz 0 32 0 ∷ i.SubReg 2 1 4 Lsl 0 ∷
    i.OrrReg 2 zr 2 Lsr 63 ∷ i.Cbz 2 4 ∷ i.SubImm 4 4 1 false ∷ i.Strb 0 4 0 ∷ i.B (2 ^ 26 - 5) ∷ move 3 4 ∷ i.SubReg 4 5 4 Lsl 0 ∷
    i.Movz 5 1 0 ∷ i.B 5 ∷ []

-- 150: at most X1 bytes from X0 on, each X2 bytes behind the other, up to a 0
abbrev pub put_string : List Instr
put_string =
    i.Str 30 sp 13 ∷ move 3 0 ∷ move 4 1 ∷ move 5 2 ∷ i.Cbz 4 7 ∷ i.Ldrb 0 3 0 ∷ i.Cbz 0 5 ∷ i.Bl (2 ^ 26 - 65) ∷
    i.AddReg 3 3 5 Lsl 0 ∷ i.SubImm 4 4 1 false ∷ i.B (2 ^ 26 - 6) ∷ i.Ldr 30 sp 13 ∷ i.Ret 30 ∷ []

-- 163: service 0: writes the buffer; the status is 0
abbrev pub ending : List Instr
ending =
    i.Bl (2 ^ 26 - 63) ∷ i.Movz 9 0 0 ∷ []

-- 165: ends with the status in X9
abbrev pub leave : List Instr
leave =
    move 0 9 ∷ i.Movz 8 94 0 ∷ i.Svc 0 ∷ []

-- 168 + 2k: the trap of kind k, from 0 to 15, whose number goes to X10; what traps has left its place in X30
abbrev pub trap_entry : ℕ → List Instr
trap_entry kind = i.Movz 10 kind 0 ∷ i.B (31 - 2 * kind) ∷ []

abbrev pub trap_entries : List Instr
trap_entries = flat_map trap_entry (0 ∷ 1 ∷ 2 ∷ 3 ∷ 4 ∷ 5 ∷ 6 ∷ 7 ∷ 8 ∷ 9 ∷ 10 ∷ 11 ∷ 12 ∷ 13 ∷ 14 ∷ 15 ∷ [])

-- 200: writes the buffer; the status is 6; X30 is the text's place then
abbrev pub trapped : List Instr
trapped =
    i.Bl (2 ^ 26 - 100) ∷ i.Movz 9 6 0 ∷ i.Bl 4 ∷ []

-- 206: that text and the trap's number
abbrev pub trap_line : List Instr
trap_line =
    move 0 30 ∷ i.Bl 40 ∷ move 0 10 ∷ i.Movz 1 0 0 ∷ i.Bl (2 ^ 26 - 96) ∷ i.B 28 ∷ []

-- 212: the input can't be read: status 4
abbrev pub unread : List Instr
unread =
    i.Movz 9 4 0 ∷ i.Bl 24 ∷ []

-- 221: the output can't be written: status 4
abbrev pub unwritten : List Instr
unwritten =
    i.Movz 9 4 0 ∷ i.Bl 15 ∷ []

-- 230: the input is too long: status 3
abbrev pub too_long : List Instr
too_long =
    i.Movz 9 3 0 ∷ i.Bl 6 ∷ []

-- 237: the text at X30
abbrev pub tell : List Instr
tell =
    move 0 30 ∷ i.Bl 9 ∷ []

-- 239: a line's end; all of it to the errors' stream; and ends
abbrev pub line : List Instr
line =
    i.Movz 0 10 0 ∷ i.Bl (2 ^ 26 - 148) ∷ i.Ldr 2 sp 1 ∷ i.AddImm 1 sp 1 true ∷ i.Movz 0 2 0 ∷ i.Movz 8 64 0 ∷ i.Svc 0 ∷
    i.B (2 ^ 26 - 81) ∷ []

-- 247: the text at X0, up to its 0
abbrev pub put_text : List Instr
put_text =
    i.Movz 1 255 0 ∷ i.Movz 2 1 0 ∷ i.B (2 ^ 26 - 99) ∷ []

-- what stands there: instructions, or a text
pub data Piece : Type 0 where
  Code : List Instr → Piece
  Text : List ℕ → Piece

-- four bytes a word, the lowest first; at least one 0 stands behind the text, and as many as fill its last word
abbrev pub text_words : List ℕ → List ℕ
text_words [] = 0 ∷ []
text_words (a ∷ []) = a ∷ []
text_words (a ∷ b ∷ []) = (a + 2 ^ 8 * b) ∷ []
text_words (a ∷ b ∷ c ∷ []) = (a + 2 ^ 8 * b + 2 ^ 16 * c) ∷ []
text_words (a ∷ b ∷ c ∷ d ∷ bytes) = (a + 2 ^ 8 * b + 2 ^ 16 * c + 2 ^ 24 * d) ∷ text_words bytes

abbrev pub piece_words : Piece → List ℕ
piece_words (Code instructions) = map word_of instructions
piece_words (Text bytes) = text_words bytes

-- THE RUNTIME, piece by piece
abbrev pub pieces : List Piece
pieces =
    Code start ∷ Code char_service ∷ Code int_service ∷ Code string_service ∷ Code back ∷ Code save ∷ Code read_service ∷ Code put_char
    ∷ Code flush ∷ Code put_int ∷ Code put_string ∷ Code ending ∷ Code leave ∷ Code trap_entries
    ∷ Code trapped ∷ Text (codes "trc: trap ") ∷ Code trap_line
    ∷ Code unread ∷ Text (codes "trc: read fault on input") ∷ Code unwritten ∷ Text (codes "trc: write fault on output")
    ∷ Code too_long ∷ Text (codes "trc: input too long") ∷ Code tell ∷ Code line ∷ Code put_text ∷ []

unfoldable pub runtime : List ℕ
runtime = flat_map piece_words pieces

-- how many words these are
abbrev pub runtime_length : ℕ
runtime_length = 250

-- where the words of a service begin: 0 the end, then 1 to 4
abbrev pub service_entry : ℕ → ℕ
service_entry service = get_or (163 ∷ 48 ∷ 52 ∷ 56 ∷ []) service 80

-- where those of a trap's kind begin
abbrev pub trap_place : ℕ → ℕ
trap_place kind = 168 + 2 * kind
