-- Results of allocators as bytes.
use Rattle.std.specs.Prelude.{ℕ, ◌+◌, List, ◌++◌, Option, Some, None}
use Rattle.lir_core.specs.declared.places.Place.{Place}
use Rattle.lir_core.specs.declared.places.Place.TheVariants.{Reg, Home, Out}
use Rattle.lir_core.specs.declared.places.Move.{Move}
use Rattle.lir_core.specs.declared.places.Places.{Places}
use Rattle.lir_core.specs.declared.places.Line.{Line}
use Rattle.lir_core.specs.declared.places.Line.TheVariants.{Lir, Store, Load, Moves, Result, Target}
use Rattle.lir_core.specs.declared.places.TraceOut.{TraceOut}
use Rattle.plain_form.specs.Spelling.{number, list}

-- an empty register is 0, one with v is v + 1
abbrev pub held : Option ℕ → List ℕ
held None = number 0
held (Some v) = number (v + 1)

abbrev pub places : Places → List ℕ
places q = list held q.regs ++ list number q.homed

abbrev pub place : Place → List ℕ
place (Reg r) = number 0 ++ number r
place (Home v) = number 1 ++ number v
place (Out s) = number 2 ++ number s

abbrev pub move : Move → List ℕ
move m = place m.to ++ place m.from

abbrev pub line : Line → List ℕ
line (Lir i) = number 0 ++ number i
line (Store r v) = number 1 ++ (number r ++ number v)
line (Load r v) = number 2 ++ (number r ++ number v)
line (Moves ms) = number 3 ++ list move ms
line (Result r) = number 4 ++ number r
line (Target p) = number 5 ++ place p

-- what a result ends with: its lines, and the registers of their uses and definitions
abbrev pub from_lines : TraceOut → List ℕ
from_lines o = list (list line) o.lines ++ list (list number) o.regs

abbrev pub from_ends : TraceOut → List ℕ
from_ends o = list places o.ends ++ from_lines o

abbrev pub from_starts : TraceOut → List ℕ
from_starts o = list places o.starts ++ from_ends o

abbrev pub result : TraceOut → List ℕ
result o = number o.trace ++ from_starts o
