-- The words of a native program: for each code word its native word, then the stubs, the links and the runtime. The word with
-- number i stands at the address 10000 + 4i (hexadecimal), as the code word with that number does in the machine.
use Rattle.std.specs.Prelude.{ℕ, ◌+◌, ◌*◌, ◌≤◌, ◌==◌, ◌&&◌, nat_lt, List, [], ◌∷◌, ◌++◌, map, length, Option, Some, None, if◌then◌else◌}
use Rattle.std.specs.Option.{option_and_then}
use Rattle.image_form.specs.declared.image.Image.{Image}
use Rattle.a64_memory.specs.Areas.{data_base, frames_base, frames_bytes}
use Rattle.a64_instr.specs.declared.instr.Instr.{Instr}
use Rattle.a64_instr.specs.declared.instr.Instr.TheVariants as i
use Rattle.a64_numbers.specs.Branches.{branch_field}
use Rattle.a64_numbers.specs.Moves.{half}
use Rattle.a64_table.specs.Table.{word_of}
use Rattle.a64_table.specs.Decode.{decode_of}
use Rattle.elf_file.specs.declared.native.NativeSize.{NativeSize}
use Rattle.elf_file.specs.Runtime.{runtime, runtime_length, service_entry, trap_place}

---- Services and sizes

-- the service that an instruction calls, where it wants a stub
abbrev pub stub_service : Instr → Option ℕ
stub_service (i.Svc service) = if nat_lt 0 service && nat_lt service 5 then Some service else None
stub_service other = None

abbrev pub service_of : ℕ → Option ℕ
service_of word = option_and_then stub_service (decode_of word)

-- how many stubs a code word wants
abbrev pub count_of : Option ℕ → ℕ
count_of None = 0
count_of (Some service) = 1

abbrev pub stubs_of : ℕ → ℕ
stubs_of word = count_of (service_of word)

abbrev pub stubs_in : List ℕ → ℕ
stubs_in [] = 0
stubs_in (word ∷ code) = stubs_of word + stubs_in code

-- how many code words there are, and how many stubs these want
abbrev pub native_size : List ℕ → NativeSize
native_size code = record { words = length code; stubs = stubs_in code }

-- as the size of an image's code is: of each word's at most one stub
pub record IsSmall (size : NativeSize) : Type 0 where
  pub words : size.words ≤ 262144
  pub stubs : size.stubs ≤ size.words

---- Where the parts stand, by the numbers of their words

-- the stub with a number, of four words
abbrev pub stub_place : NativeSize → ℕ → ℕ
stub_place size number = size.words + 4 * number

-- ten words behind the last stub
abbrev pub links_place : NativeSize → ℕ
links_place size = stub_place size size.stubs

abbrev pub runtime_place : NativeSize → ℕ
runtime_place size = links_place size + 10

-- behind the words
abbrev pub constants_place : NativeSize → ℕ
constants_place size = runtime_place size + runtime_length

---- Branches

abbrev pub address : ℕ → ℕ
address place = 0x10000 + 4 * place

-- the field of a branch from a word to a word
abbrev pub distance : ℕ → ℕ → ℕ
distance from to = branch_field 26 (address from) (address to)

abbrev pub branch : ℕ → ℕ → Instr
branch from to = i.B (distance from to)

-- which leaves the address behind it in X30
abbrev pub call : ℕ → ℕ → Instr
call from to = i.Bl (distance from to)

---- Native words

-- X28 for SP, where 31 is SP
abbrev pub frame_register : ℕ → ℕ
frame_register register = if register == 31 then 28 else register

-- the same load or store with X28 for SP; what is neither stays
abbrev pub access_on_frame : Instr → Instr
access_on_frame (i.Ldr rt rn imm) = i.Ldr rt (frame_register rn) imm
access_on_frame (i.Str rt rn imm) = i.Str rt (frame_register rn) imm
access_on_frame (i.Ldrb rt rn imm) = i.Ldrb rt (frame_register rn) imm
access_on_frame (i.Strb rt rn imm) = i.Strb rt (frame_register rn) imm
access_on_frame (i.LdrReg rt rn rm) = i.LdrReg rt (frame_register rn) rm
access_on_frame (i.LdrRegScaled rt rn rm) = i.LdrRegScaled rt (frame_register rn) rm
access_on_frame (i.StrReg rt rn rm) = i.StrReg rt (frame_register rn) rm
access_on_frame (i.StrRegScaled rt rn rm) = i.StrRegScaled rt (frame_register rn) rm
access_on_frame (i.LdrbReg rt rn rm) = i.LdrbReg rt (frame_register rn) rm
access_on_frame (i.StrbReg rt rn rm) = i.StrbReg rt (frame_register rn) rm
access_on_frame other = other

-- the same instruction with X28 for SP
abbrev pub on_frame : Instr → Instr
on_frame (i.AddImm rd rn imm high) = i.AddImm (frame_register rd) (frame_register rn) imm high
on_frame (i.SubImm rd rn imm high) = i.SubImm (frame_register rd) (frame_register rn) imm high
on_frame (i.SubsImm rd rn imm high) = i.SubsImm rd (frame_register rn) imm high
on_frame other = access_on_frame other

-- a call of a service at a place, with so many stubs before its own: the end needs none; what is no service stays
abbrev pub native_service : NativeSize → ℕ → ℕ → ℕ → Instr
native_service size place before service =
    if service == 0 then branch place (runtime_place size + service_entry 0) else
    if nat_lt service 5 then branch place (stub_place size before) else i.Svc service

-- a trap at a place: it leaves its place in X30; what is no kind stays
abbrev pub native_trap : NativeSize → ℕ → ℕ → Instr
native_trap size place kind = if nat_lt kind 16 then call place (runtime_place size + trap_place kind) else i.Brk kind

abbrev pub native_instr : NativeSize → ℕ → ℕ → Instr → Instr
native_instr size place before (i.Svc service) = native_service size place before service
native_instr size place before (i.Brk kind) = native_trap size place kind
native_instr size place before other = on_frame other

-- a word that isn't in the table stays
abbrev pub native_from : NativeSize → ℕ → ℕ → ℕ → Option Instr → ℕ
native_from size place before word None = word
native_from size place before word (Some instr) = word_of (native_instr size place before instr)

abbrev pub native_word : NativeSize → ℕ → ℕ → ℕ → ℕ
native_word size place before word = native_from size place before word (decode_of word)

---- Stubs and links

-- the stub with a number, of the service that the word at a place calls
abbrev pub stub : NativeSize → ℕ → ℕ → ℕ → List Instr
stub size place number service =
    let at = stub_place size number in
    i.Str 30 31 0 ∷ call (at + 1) (runtime_place size + service_entry service) ∷ i.Ldr 30 31 0 ∷ branch (at + 3) (place + 1) ∷ []

abbrev pub stub_from : NativeSize → ℕ → ℕ → Option ℕ → List ℕ
stub_from size place before None = []
stub_from size place before (Some service) = map word_of (stub size place before service)

abbrev pub stub_words : NativeSize → ℕ → ℕ → ℕ → List ℕ
stub_words size place before word = stub_from size place before (service_of word)

-- a register becomes a number below 2 ^ 32
abbrev pub load_number : ℕ → ℕ → List Instr
load_number register n = i.Movz register (half n 0) 0 ∷ i.Movk register (half n 1) 1 ∷ []

-- the words that say what the runtime has to know: where the constants are and where they go, how many bytes; where the
-- frames end; whether there is an input. The first comes last: it goes to the program's first word.
abbrev pub links : NativeSize → Image → List Instr
links size image =
    branch (links_place size) 0
    ∷ load_number 0 (address (constants_place size))
    ++ load_number 1 (data_base + image.globals)
    ++ load_number 2 (length image.constants)
    ++ load_number 28 (frames_base + frames_bytes image.frame)
    ++ i.Movz 9 image.flags 0 ∷ []

---- All words

-- what code words come to one by one, by their places and how many stubs the words before them want
abbrev pub each : (ℕ → ℕ → ℕ → List ℕ) → ℕ → ℕ → List ℕ → List ℕ
each f place before [] = []
each f place before (word ∷ code) = f place before word ++ each f (place + 1) (before + stubs_of word) code

abbrev pub all_native : NativeSize → List ℕ → List ℕ
all_native size code = each (λ place before word. native_word size place before word ∷ []) 0 0 code

abbrev pub all_stubs : NativeSize → List ℕ → List ℕ
all_stubs size code = each (stub_words size) 0 0 code

unfoldable pub native_words : Image → List ℕ
native_words image =
    let size = native_size image.code in
    all_native size image.code ++ all_stubs size image.code ++ map word_of (links size image) ++ runtime
