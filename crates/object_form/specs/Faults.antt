-- What faults tell.
use Rattle.std.specs.Prelude.{◌≡◌, ℕ, ◌<◌, Result, Ok, Err}
use Rattle.plain_form.specs.declared.fault.FormRule.{FormRule}
use Rattle.plain_form.specs.declared.fault.FormRule.TheVariants.{Missing, Mark, Range, Trailing}
use Rattle.plain_form.specs.declared.fault.FormFault.{FormFault}
use Rattle.plain_form.specs.declared.fault.FormFault.TheVariants as forms
use Rattle.plain_form.specs.Reading.{Broken}
use Rattle.object_form.specs.declared.object.Object.{Object}
use Rattle.object_form.specs.declared.fault.ObjectFault.{ObjectFault}
use Rattle.object_form.specs.declared.fault.ObjectFault.TheVariants.{Fault, Limit, Memory}
use Rattle.object_form.specs.Objects.{most_bytes}

abbrev pub number_of : FormRule → ℕ
number_of Missing = 80
number_of Mark = 81
number_of Range = 82
number_of Trailing = 83

abbrev pub as_object : FormFault → ObjectFault
as_object (forms.Broken rule at) = Fault (number_of rule) at
as_object forms.Memory = Memory

-- a rule by its number, and the place
abbrev pub numbered : {A : Type 0} → Result A Broken → Result A (ℕ × ℕ)
numbered (Ok x) = Ok x
numbered (Err b) = Err (number_of b.rule, b.at)

-- what was answered is what reading gives, unless memory ran out
abbrev pub Tells : Result Object ObjectFault → Result Object Broken → Type 0
Tells (Ok object) read = read ≡ Ok object
Tells (Err Memory) read = Unit {0}
Tells (Err Limit) read = ⊥
Tells (Err (Fault number at)) read = numbered read ≡ Err (number, at)

-- a refusal of so many bytes: they are too many, or memory ran out
abbrev pub IsTooLong : ObjectFault → ℕ → Type 0
IsTooLong Limit bytes = most_bytes < bytes
IsTooLong Memory bytes = Unit {0}
IsTooLong (Fault number at) bytes = ⊥
