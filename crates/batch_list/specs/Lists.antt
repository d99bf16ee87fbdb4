-- What the answer of `read_list` says.
use Rattle.std.specs.Prelude.{List, ℕ, map, Result, Ok, Err, Vec}
use Rattle.std.specs.Global.{Global}
use Rattle.batch_list.specs.Form.{ListLine, AreLines, IsFirstBad}
use Rattle.batch_list.specs.declared.line.JobLine.{JobLine}
use Rattle.batch_list.specs.declared.lines.ListFault.{ListFault}
use Rattle.batch_list.specs.declared.lines.ListFault.TheVariants.{BadLine, Memory}

-- a line without its places in memory
abbrev pub plain_line : JobLine → ListLine
plain_line line = record { sender = line.sender; names = map (λ name. name.items) line.names.items }

abbrev pub IsReadAs : List ℕ → Result (Vec JobLine Global) ℕ → Type 0
IsReadAs text (Ok lines) = AreLines text (map plain_line lines.items)
IsReadAs text (Err number) = IsFirstBad text number

-- the list's lines, or the number of the first bad one; want of memory tells nothing
abbrev pub IsListOf : List ℕ → Result (Vec JobLine Global) ListFault → Type 0
IsListOf text (Ok lines) = AreLines text (map plain_line lines.items)
IsListOf text (Err (BadLine number)) = IsFirstBad text number
IsListOf text (Err Memory) = Unit {0}
