-- What a module's text comes to: its symbols and its tree, or the first rule that it breaks. (Oberon-07 report, section 3, and
-- its appendix: The Syntax of Oberon.)
use Rattle.std.specs.Prelude.{◌≡◌, ◌<◌, ◌≤◌, ◌^◌, ℕ, zero, List, length, Option, Some, None, slice_get}
use Rattle.wrapping_numbers.specs.Numbers.{unsigned}
use Rattle.ob_symbol.specs.declared.symbol.Symbol.{Symbol}
use Rattle.ob_symbol.specs.declared.symbol.Kind.{Kind}
use Rattle.ob_symbol.specs.declared.symbol.Kind.TheVariants.{Int, Char}
use Rattle.ob_scan.specs.Scans.{Scans, Done, Broken}
use Rattle.ob_grammar.specs.Terminals.{numbers}
use Rattle.ob_grammar.specs.Modules.{IsWrong, OpensTooMany}
use Rattle.ob_syntax.specs.declared.modules.Module.{Module}
use Rattle.ob_parse.specs.Judged.{IsTree}
use Rattle.ob_read.specs.declared.fault.TextFault.{TextFault}
use Rattle.ob_read.specs.declared.fault.TextFault.TheVariants.{TooLong, Fault, Memory}

abbrev pub most_bytes : ℕ
most_bytes = 1048576

-- where a symbol begins, or the end of the text where there is none
abbrev pub beginning : List ℕ → Option Symbol → ℕ
beginning w (Some s) = s.from
beginning w None = length w

abbrev pub place_in : List ℕ → List Symbol → ℕ → ℕ
place_in w symbols i = beginning w (slice_get symbols i)

-- a text with these symbols, which have this tree
pub record IsModuleText (w : List ℕ) (symbols : List Symbol) (tree : Module) : Type 0 where
  pub short : length w ≤ most_bytes
  pub scanned : Scans zero w symbols Done
  pub parsed : IsTree (numbers symbols) tree

-- a rule on the symbols of a text is broken at the one that begins at this byte, or at the end
pub record IsBrokenAt (rule : List ℕ → ℕ → Type 0) (w : List ℕ) (at : ℕ) : Type 0 where
  pub symbols : List Symbol
  pub scanned : Scans zero w symbols Done
  pub index : ℕ
  pub broken : rule (numbers symbols) index
  pub place : at ≡ place_in w symbols index

-- the first rule that a text breaks: one of symbols; 20, no module begins so; 21, too many constructs are open
pub data Breaks (w : List ℕ) (number at : ℕ) : Type 0 where
  OfSymbols : (before : List Symbol) → Scans zero w before (Broken number at) → Breaks w number at
  OfGrammar : number ≡ 20 → IsBrokenAt IsWrong w at → Breaks w number at
  OfDepth : number ≡ 21 → IsBrokenAt OpensTooMany w at → Breaks w number at

abbrev pub IsFault : List ℕ → TextFault → Type 0
IsFault w TooLong = most_bytes < length w
IsFault w (Fault number at) = (length w ≤ most_bytes) × Breaks w number at
IsFault w Memory = Unit {0}

-- a literal's number has 64 bits, a character one byte
abbrev pub fits : Kind → Type 0
fits (Int z) = unsigned z < 2 ^ 64
fits (Char n) = n < 256
fits kind = Unit {0}

pub record HasFittingLiteral (s : Symbol) : Type 0 where
  pub fits : fits s.kind
