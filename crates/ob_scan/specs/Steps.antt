-- What the steps of a scan find, byte by byte; the proof of `scan` alone speaks of it.
use Rattle.std.specs.Prelude.{◌≡◌, ℕ, zero, suc, ◌≤◌, ◌<◌, List, [], ◌∷◌, ◌++◌, Bool, true, false, if◌then◌else◌, Option, Some, None, length, drop}
use Rattle.std.specs.declared.result.Result.{Result}
use Rattle.std.specs.declared.result.Result.TheVariants.{Ok, Err}
use Rattle.ob_symbol.specs.declared.symbol.Kind.{Kind}
use Rattle.ob_symbol.specs.declared.symbol.Delimiter.{Delimiter}
use Rattle.ob_symbol.specs.declared.symbol.Symbol.{Symbol}
use Rattle.ob_scan.specs.declared.classes.Class.{Class}
use Rattle.ob_scan.specs.declared.classes.Class.TheVariants as TheClass
use Rattle.ob_scan.specs.declared.fault.ScanFault.{ScanFault}
use Rattle.ob_scan.specs.declared.fault.ScanFault.TheVariants.{Fault, Memory}
use Rattle.ob_scan.specs.declared.fault.NoSymbol.{NoSymbol}
use Rattle.ob_scan.specs.declared.fault.NoSymbol.TheVariants.{BadByte, OpenComment, OpenString, NumberTooLarge, NameTooLong}
use Rattle.ob_scan.specs.Tables.{two_mark}
use Rattle.ob_scan.specs.Words.{WordForm, form_of, kind_of, IsTooLarge, IsTooLong, IsWithin, is_gap, is_all, is_letter_or_digit, is_digit, is_hexadecimal, is_quotable, opens, closes}
use Rattle.ob_scan.specs.Scans.{Gap, Longest, Unclosed, symbol, Scans, Broken}

-- the bytes of a class
abbrev pub in_class : Class → ℕ → Bool
in_class TheClass.Name = is_letter_or_digit
in_class TheClass.Decimal = is_digit
in_class TheClass.Hexadecimal = is_hexadecimal
in_class TheClass.Quotable = is_quotable

-- s is the front of v that passes, r the rest
pub record Spanned (p : ℕ → Bool) (v s r : List ℕ) : Type 0 where
  pub split : v ≡ s ++ r
  pub all : is_all p s ≡ true
  pub stop : (x : ℕ) (y : List ℕ) → r ≡ x ∷ y → p x ≡ false

-- bytes from the front of w to r that pass
pub record Passing (p : ℕ → Bool) (w r : List ℕ) : Type 0 where
  pub front : List ℕ
  pub split : w ≡ front ++ r
  pub all : is_all p front ≡ true

-- blanks and comments so far: r is what follows
pub record Skipped (w r : List ℕ) : Type 0 where
  pub front : List ℕ
  pub split : w ≡ front ++ r
  pub same : (x : List ℕ) → is_gap zero (front ++ x) ≡ is_gap zero x

-- the blanks and comments at the front of w are over where r begins
pub record Past (w r : List ℕ) : Type 0 where
  pub gap : List ℕ
  pub split : w ≡ gap ++ r
  pub is : Gap gap r

-- the front of w up to r is the longest symbol, within its limits
pub record Found (w r : List ℕ) (kind : Kind) : Type 0 where
  pub word : List ℕ
  pub form : WordForm
  pub split : w ≡ word ++ r
  pub is : Longest word r form
  pub kind_is : kind ≡ kind_of form
  pub within : IsWithin form word

-- the longest symbol at the front of w, which breaks a limit
pub record Broke (breaks : WordForm → List ℕ → Type 0) (w : List ℕ) : Type 0 where
  pub word : List ℕ
  pub rest : List ℕ
  pub form : WordForm
  pub split : w ≡ word ++ rest
  pub is : Longest word rest form
  pub past : breaks form word

-- no symbol begins with the first byte of w
pub record NoBeginning (w : List ℕ) : Type 0 where
  pub byte : ℕ
  pub rest : List ℕ
  pub split : w ≡ byte ∷ rest
  pub is : (u : List ℕ) → form_of (byte ∷ u) ≡ None

-- why no symbol stands at the front of w
abbrev pub Refused : List ℕ → NoSymbol → Type 0
Refused w BadByte = NoBeginning w
Refused w OpenComment = ⊥
Refused w OpenString = Unclosed w
Refused w NumberTooLarge = Broke (λ form word. IsTooLarge form) w
Refused w NameTooLong = Broke IsTooLong w

-- the numbers of the rules that a text may break
abbrev pub rule : NoSymbol → ℕ
rule BadByte = 10
rule OpenComment = 11
rule OpenString = 12
rule NumberTooLarge = 13
rule NameTooLong = 14

-- the symbols with what was found from a place on behind them, and the place after it
abbrev pub IsAdded : ℕ → List Symbol → List Symbol → Result (Kind × ℕ) NoSymbol → ℕ → Type 0
IsAdded from old new (Ok x) to = (to ≡ x.1) × (new ≡ old ++ (symbol x.0 from x.1 ∷ []))
IsAdded from old new (Err none) to = ⊥

-- the fault where no symbol was found from a place on
abbrev pub IsRefused : ℕ → Result (Kind × ℕ) NoSymbol → ScanFault → Type 0
IsRefused from (Ok x) (Fault number at) = ⊥
IsRefused from (Err none) (Fault number at) = (number ≡ rule none) × (at ≡ from)
IsRefused from found Memory = Unit {0}

-- the symbols with the longest one at place from behind them, which ends before place to
pub record Reads (w : List ℕ) (from : ℕ) (old new : List Symbol) (to : ℕ) : Type 0 where
  pub kind : Kind
  pub found : Found (drop from w) (drop to w) kind
  pub low : from < to
  pub high : to ≤ length w
  pub added : new ≡ old ++ (symbol kind from to ∷ [])

-- no symbol stands at place from
pub record NoneThere (w : List ℕ) (from number at : ℕ) : Type 0 where
  pub none : NoSymbol
  pub number_is : number ≡ rule none
  pub at_is : at ≡ from
  pub refused : Refused (drop from w) none

-- why no symbol was read at place from
abbrev pub Stops : List ℕ → ℕ → ScanFault → Type 0
Stops w from (Fault number at) = NoneThere w from number at
Stops w from Memory = Unit {0}

-- the next that stands from place i on is a fault
abbrev pub BreaksAt : List ℕ → ℕ → ScanFault → Type 0
BreaksAt w i (Fault number at) = Scans i (drop i w) [] (Broken number at)
BreaksAt w i Memory = ⊥

-- the operator of two bytes that a text begins with
abbrev pub two_at : List ℕ → Option Delimiter
two_at [] = None
two_at (a ∷ []) = None
two_at (a ∷ b ∷ w) = two_mark a b

-- what follows a comment, where n others are open in it
abbrev pub close : ℕ → List ℕ → Option (List ℕ)
close n [] = None
close n (a ∷ []) = None
close zero (a ∷ b ∷ w) = if opens a b then close (suc zero) w else if closes a b then Some w else close zero (b ∷ w)
close (suc n) (a ∷ b ∷ w) = if opens a b then close (suc (suc n)) w else if closes a b then close n w else close (suc n) (b ∷ w)
