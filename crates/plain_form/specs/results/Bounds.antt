-- What is asked of the numbers in results.
use Rattle.std.specs.Prelude.{ℕ, ◌+◌, ◌<◌, ◌^◌, Option, Some, None}
use Rattle.lir_core.specs.declared.places.Place.{Place}
use Rattle.lir_core.specs.declared.places.Place.TheVariants.{Reg, Home, Out}
use Rattle.lir_core.specs.declared.places.Move.{Move}
use Rattle.lir_core.specs.declared.places.Places.{Places}
use Rattle.lir_core.specs.declared.places.Line.{Line}
use Rattle.lir_core.specs.declared.places.Line.TheVariants.{Lir, Store, Load, Moves, Result, Target}
use Rattle.lir_core.specs.declared.places.TraceOut.{TraceOut}
use Rattle.plain_form.specs.Spelling.{IsNumber, IsRegister, Any, KeepsList}

-- by what is asked of a list's count, of a number, of a register's number, and of a value in a row of registers
module _ (Count Number Register Value : ℕ → Type 0) where
  abbrev pub KeepsHeld : Option ℕ → Type 0
  KeepsHeld None = Unit {0}
  KeepsHeld (Some v) = Value v

  abbrev pub KeepsPlaces : Places → Type 0
  KeepsPlaces q = KeepsList Count KeepsHeld q.regs × KeepsList Count Number q.homed

  abbrev pub KeepsPlace : Place → Type 0
  KeepsPlace (Reg r) = Register r
  KeepsPlace (Home v) = Number v
  KeepsPlace (Out s) = Number s

  abbrev pub KeepsMove : Move → Type 0
  KeepsMove m = KeepsPlace m.to × KeepsPlace m.from

  abbrev pub KeepsLine : Line → Type 0
  KeepsLine (Lir i) = Number i
  KeepsLine (Store r v) = Register r × Number v
  KeepsLine (Load r v) = Register r × Number v
  KeepsLine (Moves ms) = KeepsList Count KeepsMove ms
  KeepsLine (Result r) = Register r
  KeepsLine (Target p) = KeepsPlace p

  pub record KeepsResult (o : TraceOut) : Type 0 where
    pub trace : Number o.trace
    pub starts : KeepsList Count KeepsPlaces o.starts
    pub ends : KeepsList Count KeepsPlaces o.ends
    pub lines : KeepsList Count (KeepsList Count KeepsLine) o.lines
    pub regs : KeepsList Count (KeepsList Count Register) o.regs

---- All numbers have 32 bits, as their types say

abbrev pub TypedHeld : Option ℕ → Type 0
TypedHeld = KeepsHeld Any IsNumber Any IsNumber

abbrev pub TypedPlaces : Places → Type 0
TypedPlaces = KeepsPlaces Any IsNumber Any IsNumber

abbrev pub TypedPlace : Place → Type 0
TypedPlace = KeepsPlace Any IsNumber Any IsNumber

abbrev pub TypedMove : Move → Type 0
TypedMove = KeepsMove Any IsNumber Any IsNumber

abbrev pub TypedLine : Line → Type 0
TypedLine = KeepsLine Any IsNumber Any IsNumber

-- what a result ends with: its lines, and the registers of their uses and definitions
abbrev pub TypedLines : TraceOut → Type 0
TypedLines o = KeepsList Any (KeepsList Any TypedLine) o.lines × KeepsList Any (KeepsList Any Any) o.regs

abbrev pub TypedEnds : TraceOut → Type 0
TypedEnds o = KeepsList Any TypedPlaces o.ends × TypedLines o

abbrev pub TypedStarts : TraceOut → Type 0
TypedStarts o = KeepsList Any TypedPlaces o.starts × TypedEnds o

abbrev pub TypedResult : TraceOut → Type 0
TypedResult = KeepsResult Any IsNumber Any IsNumber

---- Registers up to 15, and values in rows of registers below 2^32 - 1

abbrev pub IsHeld : ℕ → Type 0
IsHeld v = v + 1 < 2 ^ 32

abbrev pub IsNotable : TraceOut → Type 0
IsNotable = KeepsResult Any Any IsRegister IsHeld

---- All that is read again

abbrev pub FitsHeld : Option ℕ → Type 0
FitsHeld = KeepsHeld IsNumber IsNumber IsRegister IsHeld

abbrev pub FitsPlaces : Places → Type 0
FitsPlaces = KeepsPlaces IsNumber IsNumber IsRegister IsHeld

abbrev pub FitsPlace : Place → Type 0
FitsPlace = KeepsPlace IsNumber IsNumber IsRegister IsHeld

abbrev pub FitsMove : Move → Type 0
FitsMove = KeepsMove IsNumber IsNumber IsRegister IsHeld

abbrev pub FitsLine : Line → Type 0
FitsLine = KeepsLine IsNumber IsNumber IsRegister IsHeld

abbrev pub FitsResult : TraceOut → Type 0
FitsResult = KeepsResult IsNumber IsNumber IsRegister IsHeld
