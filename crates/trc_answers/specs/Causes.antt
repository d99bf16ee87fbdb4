-- The status of each cause, and the line that tells it.
use Rattle.std.specs.Prelude.{ℕ, zero, suc, ◌+◌, ◌/◌, ◌%◌, List, [], ◌∷◌, ◌++◌, ◌⊎◌, ◌≡◌, length, take, codes, nat_lt, slice_index_or, Option, Some, None, if◌then◌else◌}
use Rattle.out_text.specs.Text.{shortest_text}
use Rattle.outside.specs.Sink.{Account, TookAll, Faulted}
use Rattle.outside.specs.declared.files.PutFault.{PutFault}
use Rattle.outside.specs.declared.files.PutFault.TheVariants as put
use Rattle.ob_judge.specs.Scopes.{line_ends}
use Rattle.trc_answers.specs.Places.{last_line}
use Rattle.trc_answers.specs.Names.{name_of_rule, name_of_limit}
use Rattle.trc_answers.specs.declared.places.Position.{Position}
use Rattle.a64_machine.specs.declared.answers.Step.{Step}
use Rattle.a64_machine.specs.declared.answers.Step.TheVariants as step
use Rattle.trc_answers.specs.declared.causes.Device.{Device}
use Rattle.trc_answers.specs.declared.causes.Device.TheVariants.{Files, Input, Output}
use Rattle.trc_answers.specs.declared.causes.Spot.{Spot}
use Rattle.trc_answers.specs.declared.causes.Cause.{Cause}
use Rattle.trc_answers.specs.declared.causes.Cause.TheVariants.{Usage, NoSuchFile, ReadFault, Source, Limit, BadLine, OtherImage, NotImage, NotNotes, NotObject, OtherChoice, Unsound, InputTooLong, Trapped, MachineFault, Spent, TurnsSpent, WriteFault, Memory, Done}

abbrev pub status_of : Cause → ℕ
status_of Usage = 1
status_of (NoSuchFile word) = 4
status_of (ReadFault device) = 4
status_of (Source number m at) = 2
status_of (Limit number index) = 3
status_of (BadLine number) = 1
status_of (OtherImage at) = 8
status_of (NotImage number at) = 8
status_of (NotNotes number at) = 8
status_of (NotObject word number at) = 8
status_of (OtherChoice object) = 8
status_of (Unsound trace node at) = 10
status_of InputTooLong = 3
status_of (Trapped kind spot) = 6
status_of (MachineFault fault) = 9
status_of Spent = 7
status_of TurnsSpent = 7
status_of (WriteFault device) = 4
status_of Memory = 5
status_of Done = 0

-- the cause of a file that wasn't written
abbrev pub cause_of_put : PutFault → Cause
cause_of_put put.Failed = WriteFault Files
cause_of_put put.Memory = Memory

-- a device's name in a line
abbrev pub device_name : Device → List ℕ
device_name Files = codes "files"
device_name Input = codes "input"
device_name Output = codes "output"

-- a hexadecimal digit, in lower case
abbrev pub hex_digit : ℕ → ℕ
hex_digit n = if nat_lt n 10 then 48 + n else 87 + n

-- so many hexadecimal digits of a number
unfoldable pub hex : ℕ → ℕ → List ℕ
hex zero n = []
hex (suc digits) n = hex digits (n / 16) ++ hex_digit (n % 16) ∷ []

-- a line: a message, what stands behind it, and the line's end
abbrev pub line : List ℕ → List ℕ → List ℕ
line message rest = message ++ (rest ++ 10 ∷ [])

-- the line of what the machine can't do; the other answers of a step are no fault
abbrev pub fault_line : Step → List ℕ
fault_line (step.Undefined word) = line (codes "trc: undefined word ") (hex 8 word)
fault_line (step.BadAddress address) = line (codes "trc: bad address ") (hex 16 address)
fault_line (step.BadCall number) = line (codes "trc: bad call ") (shortest_text number)
fault_line _ = []

-- a name by its number, or no bytes where there is none
abbrev pub name_at : List (List ℕ) → ℕ → List ℕ
name_at names number = slice_index_or names number []

-- where a byte of a text stands: one more than the line ends before it, and one more than the bytes since the last of them
pub record IsAt (text : List ℕ) (at : ℕ) (place : Position) : Type 0 where
  pub line : place.line ≡ suc (line_ends (take at text))
  pub column : place.column ≡ suc (length (last_line (take at text)))

-- the line of a rule that is broken: the module's file, line and column, the rule's number and name
abbrev pub source_line : List ℕ → Position → ℕ → List ℕ
source_line name place number =
    codes "trc: " ++ (name ++ (codes ":" ++ (shortest_text place.line ++ (codes ":" ++ (shortest_text place.column
    ++ (codes ": error " ++ (shortest_text number ++ line (codes " ") (name_of_rule number))))))))

-- the line of a limit that is passed
abbrev pub limit_line : ℕ → ℕ → List ℕ
limit_line number index = codes "trc: limit " ++ (shortest_text number ++ (codes " " ++ (name_of_limit number ++ line (codes " at ") (shortest_text index))))

-- what stands behind a trap's kind: the module and the line of its procedure, where they are known
abbrev pub spot_line : Option Spot → List ℕ
spot_line None = 10 ∷ []
spot_line (Some spot) = codes " in module " ++ (shortest_text spot.«module» ++ line (codes " line ") (shortest_text spot.line))

-- the line of a trap
abbrev pub trap_line : ℕ → Option Spot → List ℕ
trap_line kind spot = codes "trc: trap " ++ (shortest_text kind ++ spot_line spot)

-- the line of results that aren't sound
abbrev pub unsound_line : (trace node at : ℕ) → List ℕ
unsound_line trace node at =
    line (codes "trc: unsound ") (shortest_text trace ++ (codes " " ++ (shortest_text node ++ (codes " " ++ shortest_text at))))

-- the line of a cause, where the command reads the files of these names, the modules' at this number and behind it, and a rule is
-- broken at this place; none where all was done
abbrev pub line_of : List (List ℕ) → ℕ → Position → Cause → List ℕ
line_of names first place Usage = line (codes "trc: usage") []
line_of names first place (NoSuchFile word) = line (codes "trc: no file ") (name_at names word)
line_of names first place (ReadFault device) = line (codes "trc: read fault on ") (device_name device)
line_of names first place (Source number m at) = source_line (name_at names (first + m)) place number
line_of names first place (Limit number index) = limit_line number index
line_of names first place (BadLine number) = line (codes "trc: bad line ") (shortest_text number)
line_of names first place (OtherImage at) = line (codes "trc: other image at ") (shortest_text at)
line_of names first place (NotImage number at) = line (codes "trc: not an image: ") (shortest_text number ++ (codes " at " ++ shortest_text at))
line_of names first place (NotNotes number at) = line (codes "trc: not notes: ") (shortest_text number ++ (codes " at " ++ shortest_text at))
line_of names first place (NotObject word number at) = line (codes "trc: not an object: ") (shortest_text number ++ (codes " at " ++ shortest_text at))
line_of names first place (OtherChoice object) = line (codes "trc: other choice at ") (shortest_text object)
line_of names first place (Unsound trace node at) = unsound_line trace node at
line_of names first place InputTooLong = line (codes "trc: input too long") []
line_of names first place (Trapped kind spot) = trap_line kind spot
line_of names first place (MachineFault fault) = fault_line fault
line_of names first place Spent = line (codes "trc: steps spent") []
line_of names first place TurnsSpent = line (codes "trc: turns spent") []
line_of names first place (WriteFault device) = line (codes "trc: write fault on ") (device_name device)
line_of names first place Memory = line (codes "trc: out of memory") []
line_of names first place Done = []

-- no rule of the language is broken
abbrev pub IsPlain : Cause → Type 0
IsPlain (Source number m at) = ⊥
IsPlain cause = Unit {0}

-- where a rule of the language is broken, this is the place of the byte in its module's text
abbrev pub IsPlaced : (IsText : ℕ → List ℕ → Type 0) → Cause → Position → Type 0
IsPlaced IsText (Source number m at) place = (text : List ℕ) × IsText m text × IsAt text at place
IsPlaced IsText cause place = Unit {0}

-- the error output took this line, or its count of faults rose
abbrev pub TookLine : Account → Account → List ℕ → Type 0
TookLine old new line = TookAll old new line ⊎ Faulted old new
