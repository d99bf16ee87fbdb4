-- The rules that the bytes of an image keep, in the order in which they are tried.
use Rattle.std.specs.Prelude.{◌≡◌, ℕ, zero, suc, ◌+◌, ◌*◌, ◌%◌, ◌==◌, ◌&&◌, ◌||◌, nat_le, nat_lt, Bool, List, [], ◌∷◌, ◌++◌, length, take, drop, Option, Some, None, Result, Ok, Err, if◌then◌else◌}
use Rattle.std.specs.Str.{bytes_eq}
use Rattle.std.specs.Int.{w32, from_le_bytes}
use Rattle.image_form.specs.declared.image.Image.{Image}
use Rattle.image_file.specs.declared.fault.ImageFault.{ImageFault}
use Rattle.image_file.specs.declared.fault.ImageFault.TheVariants.{Fault, Memory}
use Rattle.image_file.specs.declared.rules.Header.{Header}
use Rattle.image_file.specs.Spelling.{mark}

-- a rule that is broken, by its number, and the place
pub record Broken : Type 0 where
  pub number : ℕ
  pub at : ℕ

abbrev pub short : ℕ
short = 60

abbrev pub bad_mark : ℕ
bad_mark = 61

abbrev pub bad_version : ℕ
bad_version = 62

abbrev pub bad_length : ℕ
bad_length = 63

abbrev pub trailing : ℕ
trailing = 64

abbrev pub bad_place : ℕ
bad_place = 66

-- what keeps a rule or breaks it there
abbrev pub rule : Bool → ℕ → ℕ → Option Broken
rule holds number at = if holds then None else Some (record { number = number; at = at })

-- the first that is broken
abbrev pub first_of : List (Option Broken) → Option Broken
first_of [] = None
first_of (Some broken ∷ others) = Some broken
first_of (None ∷ others) = first_of others

-- the number at a place
abbrev pub field : List ℕ → ℕ → ℕ
field bytes at = from_le_bytes w32 (take 4 (drop at bytes))

-- there are two versions; what goes by them: how long the header is, the greatest frame, how many places the header says,
-- and whether there may be so many
abbrev pub is_version : ℕ → Bool
is_version version = version == 1 || version == 2

abbrev pub header_length : ℕ → ℕ
header_length version = if version == 2 then 36 else 32

abbrev pub most_frame : ℕ → ℕ
most_frame version = if version == 2 then 65536 else 32768

abbrev pub places_in : ℕ → List ℕ → ℕ
places_in version bytes = if version == 2 then field bytes 32 else 0

abbrev pub is_count : ℕ → ℕ → Bool
is_count version places = if version == 2 then nat_le 1 places && nat_le places 4096 else places == 0

-- what a header says
abbrev pub said : List ℕ → Header
said bytes = record {
  version = field bytes 8;
  flags = field bytes 12;
  words = field bytes 16;
  globals = field bytes 20;
  constants = field bytes 24;
  frame = field bytes 28;
  places = places_in (field bytes 8) bytes;
}

-- at most so many bytes, in whole cells of eight
abbrev pub is_whole : ℕ → ℕ → Bool
is_whole most bytes = nat_le bytes most && bytes % 8 == 0

-- some code words, and at most 262,144
abbrev pub is_code : ℕ → Bool
is_code words = nat_le 1 words && nat_le words 262144

-- where the constants begin, behind four bytes for each code word, and the places behind them; and where all ends
abbrev pub first_constant : Header → ℕ
first_constant h = header_length h.version + 4 * h.words

abbrev pub first_place : Header → ℕ
first_place h = first_constant h + h.constants

abbrev pub asked : Header → ℕ
asked h = first_place h + 12 * h.places

-- the beginning, up to a whole header
abbrev pub header_rules : List ℕ → List (Option Broken)
header_rules bytes =
    rule (nat_le 32 (length bytes)) short (length bytes)
    ∷ rule (bytes_eq (take 8 bytes) mark) bad_mark 0
    ∷ rule (is_version (field bytes 8)) bad_version 8
    ∷ rule (nat_le (header_length (field bytes 8)) (length bytes)) short (length bytes)
    ∷ []

-- what a header says, in the order in which it stands
abbrev pub said_rules : Header → List (Option Broken)
said_rules h =
    rule (nat_le h.flags 1) bad_length 12
    ∷ rule (is_code h.words) bad_length 16
    ∷ rule (is_whole 8388608 h.globals) bad_length 20
    ∷ rule (is_whole 2097152 h.constants) bad_length 24
    ∷ rule (is_whole (most_frame h.version) h.frame) bad_length 28
    ∷ rule (is_count h.version h.places) bad_length 32
    ∷ []

-- so many bytes end where the header says
abbrev pub end_rules : Header → ℕ → List (Option Broken)
end_rules h length = rule (nat_le (asked h) length) short length ∷ rule (length == asked h) trailing (asked h) ∷ []

-- the number of one of so many code words, and at least that
abbrev pub is_next : ℕ → ℕ → ℕ → Bool
is_next words least word = nat_le least word && nat_lt word words

-- a rule for each of so many places from a byte on: its word is the next, above the word before it
abbrev pub place_rules : List ℕ → ℕ → ℕ → ℕ → ℕ → List (Option Broken)
place_rules bytes words at least zero = []
place_rules bytes words at least (suc count) =
    let word = field bytes at in rule (is_next words least word) bad_place at ∷ place_rules bytes words (at + 12) (suc word) count

abbrev pub first_fault : List ℕ → Option Broken
first_fault bytes =
    let h = said bytes in
    first_of (header_rules bytes ++ said_rules h ++ end_rules h (length bytes) ++ place_rules bytes h.words (first_place h) 0 h.places)

-- a refusal: that rule is the first that is broken, or memory ran out
abbrev pub Refuses : ImageFault → Option Broken → Type 0
Refuses Memory broken = Unit {0}
Refuses (Fault number at) broken = broken ≡ Some (record { number = number; at = at })

-- it is that image that was read, unless memory ran out
abbrev pub Gives : Image → Result Image ImageFault → Type 0
Gives image (Ok found) = found ≡ image
Gives image (Err Memory) = Unit {0}
Gives image (Err (Fault number at)) = ⊥
