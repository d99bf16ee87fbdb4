-- Which words are symbols, each taken whole, and which words are blanks and comments.
use Rattle.std.specs.Prelude.{ℕ, zero, suc, ◌+◌, ◌-◌, ◌*◌, ◌^◌, ◌<◌, ◌≤◌, List, [], ◌∷◌, Bool, true, false, nat_eq, nat_lt, if◌then◌else◌, ◌&&◌, Option, Some, None, ℤ, pos, negsuc, length}
use Rattle.ob_symbol.specs.declared.symbol.Kind.{Kind}
use Rattle.ob_symbol.specs.declared.symbol.Kind.TheVariants.{Ident, Int, Char, Text, Word, Mark}
use Rattle.ob_symbol.specs.declared.symbol.Reserved.{Reserved}
use Rattle.ob_symbol.specs.declared.symbol.Delimiter.{Delimiter}
use Rattle.ob_scan.specs.Tables.{reserved_of, mark_of}

-- bytes

-- from low on and below high
abbrev pub is_between : ℕ → ℕ → ℕ → Bool
is_between low high b = if nat_lt b low then false else nat_lt b high

-- A to Z and a to z
abbrev pub is_letter : ℕ → Bool
is_letter b = if is_between 65 91 b then true else is_between 97 123 b

-- 0 to 9
abbrev pub is_digit : ℕ → Bool
is_digit b = is_between 48 58 b

abbrev pub is_letter_or_digit : ℕ → Bool
is_letter_or_digit b = if is_letter b then true else is_digit b

-- 0 to 9 and A to F
abbrev pub is_hexadecimal : ℕ → Bool
is_hexadecimal b = if is_digit b then true else is_between 65 71 b

-- byte 10 and byte 13
abbrev pub is_line_end : ℕ → Bool
is_line_end b = if nat_eq b 10 then true else nat_eq b 13

-- what may stand between quotes: any byte but the quote and the ends of a line
abbrev pub is_quotable : ℕ → Bool
is_quotable b = if nat_eq b 34 then false else if is_line_end b then false else true

-- each byte of a word is such a byte
abbrev pub is_all : (ℕ → Bool) → List ℕ → Bool
is_all p [] = true
is_all p (b ∷ w) = if p b then is_all p w else false

-- a word is such bytes, then this byte, and no more
abbrev pub is_all_then : (ℕ → Bool) → ℕ → List ℕ → Bool
is_all_then p last [] = false
is_all_then p last (b ∷ []) = nat_eq b last
is_all_then p last (b ∷ c ∷ w) = if p b then is_all_then p last (c ∷ w) else false

-- literals

-- the value of a digit
abbrev pub digit : ℕ → ℕ
digit b = if is_digit b then b - 48 else b - 55

-- the number that the digits of a word make in this base, after those that make n
abbrev pub value_from : ℕ → ℕ → List ℕ → ℕ
value_from base n [] = n
value_from base n (b ∷ w) = if is_hexadecimal b then value_from base (n * base + digit b) w else n

-- a number below 2 ^ 64, modulo 2 ^ 64 as a signed number
abbrev pub signed : ℕ → ℤ
signed n = if nat_lt n (2 ^ 63) then pos n else negsuc (2 ^ 64 - suc n)

-- what a word is, whatever its length and its number; a number is as written
pub data WordForm : Type 0 where
  Name : WordForm
  Keyword : Reserved → WordForm
  Decimal : ℕ → WordForm
  Hexadecimal : ℕ → WordForm
  Character : ℕ → WordForm
  Quoted : WordForm
  Operator : Delimiter → WordForm

-- a word of letters and digits is a reserved word or a name
abbrev pub name_or_keyword : Option Reserved → WordForm
name_or_keyword (Some r) = Keyword r
name_or_keyword None = Name

abbrev pub name_form : List ℕ → Option WordForm
name_form w = if is_all is_letter_or_digit w then Some (name_or_keyword (reserved_of w)) else None

-- decimal digits; digits and an H (72); digits and an X (88)
abbrev pub number_form : List ℕ → Option WordForm
number_form w =
    if is_all is_digit w then Some (Decimal (value_from 10 0 w)) else
    if is_all_then is_hexadecimal 72 w then Some (Hexadecimal (value_from 16 0 w)) else
    if is_all_then is_hexadecimal 88 w then Some (Character (value_from 16 0 w)) else
    None

-- what follows the opening quote
abbrev pub text_form : List ℕ → Option WordForm
text_form w = if is_all_then is_quotable 34 w then Some Quoted else None

abbrev pub operator : Option Delimiter → Option WordForm
operator (Some d) = Some (Operator d)
operator None = None

-- the form that a word has, whole, if it is a symbol; its first byte says which forms it can have
abbrev pub form_of : List ℕ → Option WordForm
form_of [] = None
form_of (b ∷ w) =
    if is_letter b then name_form (b ∷ w) else
    if is_digit b then number_form (b ∷ w) else
    if nat_eq b 34 then text_form w else
    operator (mark_of (b ∷ w))

-- the kind of a symbol of this form
abbrev pub kind_of : WordForm → Kind
kind_of Name = Ident
kind_of (Keyword r) = Word r
kind_of (Decimal n) = Int (pos n)
kind_of (Hexadecimal n) = Int (signed n)
kind_of (Character n) = Char n
kind_of Quoted = Text
kind_of (Operator d) = Mark d

-- the first number that a form can't have
abbrev pub limit : WordForm → ℕ
limit (Decimal n) = 2 ^ 63
limit (Hexadecimal n) = 2 ^ 64
limit (Character n) = 2 ^ 8
limit _ = 1

-- the number of a literal, 0 where there is none
abbrev pub number : WordForm → ℕ
number (Decimal n) = n
number (Hexadecimal n) = n
number (Character n) = n
number _ = 0

-- a literal's number is past its range
abbrev pub IsTooLarge : WordForm → Type 0
IsTooLarge form = limit form ≤ number form

-- an identifier has over 255 bytes
abbrev pub IsTooLong : WordForm → List ℕ → Type 0
IsTooLong Name w = 255 < length w
IsTooLong _ w = ⊥

-- a symbol of this form is within its limit
abbrev pub IsWithin : WordForm → List ℕ → Type 0
IsWithin Name w = length w ≤ 255
IsWithin form w = number form < limit form

-- blanks and comments

abbrev pub is_blank : ℕ → Bool
is_blank b = nat_lt b 33

-- (*
abbrev pub opens : ℕ → ℕ → Bool
opens a b = nat_eq a 40 && nat_eq b 42

-- *)
abbrev pub closes : ℕ → ℕ → Bool
closes a b = nat_eq a 42 && nat_eq b 41

-- a word is blanks and whole comments, where n comments are open before it
abbrev pub is_gap : ℕ → List ℕ → Bool
is_gap zero [] = true
is_gap (suc n) [] = false
is_gap zero (a ∷ []) = is_blank a
is_gap (suc n) (a ∷ []) = false
is_gap zero (a ∷ b ∷ w) = if opens a b then is_gap (suc zero) w else if is_blank a then is_gap zero (b ∷ w) else false
is_gap (suc n) (a ∷ b ∷ w) = if opens a b then is_gap (suc (suc n)) w else if closes a b then is_gap n w else is_gap (suc n) (b ∷ w)

-- a text begins with this byte
abbrev pub begins_with : ℕ → List ℕ → Bool
begins_with a [] = false
begins_with a (x ∷ w) = nat_eq x a

-- a text begins with these two bytes
abbrev pub is_two : ℕ → ℕ → List ℕ → Bool
is_two a b [] = false
is_two a b (x ∷ []) = false
is_two a b (x ∷ y ∷ w) = nat_eq x a && nat_eq y b

abbrev pub begins_comment : List ℕ → Bool
begins_comment w = is_two 40 42 w
