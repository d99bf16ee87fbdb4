-- The bytes of objects.
use Rattle.std.specs.Prelude.{ℕ, ◌≤◌, List, ◌++◌, All, codes, length}
use Rattle.trace_build.specs.declared.builder.Builder.{Builder}
use Rattle.trace_build.specs.declared.builder.Builder.TheVariants.{Uni, Bi}
use Rattle.alloc_choice.specs.declared.choice.Policy.{Policy}
use Rattle.alloc_choice.specs.declared.choice.Policy.TheVariants.{Plain, Linear, BottomUp, Mixed}
use Rattle.plain_form.specs.Formats.{IsBytes}
use Rattle.plain_form.specs.Spelling.{number, list, IsNumber, KeepsList}
use Rattle.plain_form.specs.results.Spelling.{result}
use Rattle.plain_form.specs.results.Bounds.{FitsResult, IsNotable}
use Rattle.object_form.specs.declared.object.Object.{Object}

abbrev pub mark : List ℕ
mark = codes "TRC64OBJ"

abbrev pub most_bytes : ℕ
most_bytes = 67108864

abbrev pub most_source : ℕ
most_source = 1048576

abbrev pub policy_number : Policy → ℕ
policy_number Plain = 0
policy_number Linear = 1
policy_number BottomUp = 2
policy_number Mixed = 3

abbrev pub builder_number : Builder → ℕ
builder_number Uni = 0
builder_number Bi = 1

-- a text is its length and its bytes
abbrev pub text : List ℕ → List ℕ
text bytes = number (length bytes) ++ bytes

-- by what the results were made, the text, and the results
abbrev pub spelled : Object → List ℕ
spelled o =
    (number (policy_number o.policy) ++ (number (builder_number o.builder) ++ number o.regs))
    ++ (text o.source ++ list result o.outs)

abbrev pub object_bytes : Object → List ℕ
object_bytes o = mark ++ spelled o

---- What is read again

-- 4 to 16
abbrev pub AreRegs : ℕ → Type 0
AreRegs k = (4 ≤ k) × (k ≤ 16)

-- the bytes of a text that isn't too long
abbrev pub IsSource : List ℕ → Type 0
IsSource bytes = (length bytes ≤ most_source) × IsBytes bytes

-- an object whose bytes are read again as it
pub record IsObject (o : Object) : Type 0 where
  pub regs : AreRegs o.regs
  pub source : IsSource o.source
  pub outs : KeepsList IsNumber FitsResult o.outs

-- an object of which bytes can be written
pub record IsWritable (o : Object) : Type 0 where
  pub regs : AreRegs o.regs
  pub source : length o.source ≤ most_source
  pub outs : All IsNotable o.outs
