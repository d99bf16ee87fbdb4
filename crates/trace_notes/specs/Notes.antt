-- The bytes of notes, and what bytes are read as.
use Rattle.std.specs.Prelude.{◌≡◌, ℕ, ◌<◌, List, ◌++◌, codes, Vec, Result, Ok, Err}
use Rattle.std.specs.Global.{Global}
use Rattle.lir_core.specs.declared.places.TraceOut.{TraceOut}
use Rattle.plain_form.specs.declared.fault.FormRule.{FormRule}
use Rattle.plain_form.specs.declared.fault.FormRule.TheVariants.{Missing, Mark, Range, Trailing}
use Rattle.plain_form.specs.declared.fault.FormFault.{FormFault}
use Rattle.plain_form.specs.declared.fault.FormFault.TheVariants as forms
use Rattle.plain_form.specs.Spelling.{list, IsNumber, KeepsList}
use Rattle.plain_form.specs.results.Spelling.{result}
use Rattle.plain_form.specs.results.Bounds.{FitsResult}
use Rattle.plain_form.specs.Reading.{Broken, list_at, whole_of}
use Rattle.plain_form.specs.results.Reading.{result_at}
use Rattle.trace_notes.specs.declared.fault.NoteFault.{NoteFault}
use Rattle.trace_notes.specs.declared.fault.NoteFault.TheVariants.{Fault, Limit, Memory}

abbrev pub mark : List ℕ
mark = codes "TRC64NOT"

abbrev pub most_bytes : ℕ
most_bytes = 67108864

abbrev pub notes : List TraceOut → List ℕ
notes outs = mark ++ list result outs

-- results whose notes are read again as these
abbrev pub AreNotes : List TraceOut → Type 0
AreNotes outs = KeepsList IsNumber FitsResult outs

---- Reading

-- the results in bytes, or the first rule that they break
abbrev pub notes_in : List ℕ → Result (List TraceOut) Broken
notes_in bytes = whole_of mark (λ total. list_at (result_at total) total) bytes

abbrev pub number_of : FormRule → ℕ
number_of Missing = 70
number_of Mark = 71
number_of Range = 72
number_of Trailing = 73

abbrev pub as_note : FormFault → NoteFault
as_note (forms.Broken rule at) = Fault (number_of rule) at
as_note forms.Memory = Memory

-- a rule by its number, and the place
abbrev pub numbered : {A : Type 0} → Result A Broken → Result A (ℕ × ℕ)
numbered (Ok x) = Ok x
numbered (Err b) = Err (number_of b.rule, b.at)

-- what was answered is what reading gives, unless memory ran out
abbrev pub Tells : Result (Vec TraceOut Global) NoteFault → Result (List TraceOut) Broken → Type 0
Tells (Ok outs) read = read ≡ Ok outs.items
Tells (Err Memory) read = Unit {0}
Tells (Err Limit) read = ⊥
Tells (Err (Fault number at)) read = numbered read ≡ Err (number, at)

---- Writing

-- a refusal of so many bytes: they are too many, or memory ran out
abbrev pub IsTooLong : NoteFault → ℕ → Type 0
IsTooLong Limit bytes = most_bytes < bytes
IsTooLong Memory bytes = Unit {0}
IsTooLong (Fault number at) bytes = ⊥
