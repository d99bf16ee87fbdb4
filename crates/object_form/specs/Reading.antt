-- Reading objects, with the first rule that bytes break.
use Rattle.std.specs.Prelude.{ℕ, zero, suc, List, length, take, drop, Result, Ok, nat_lt, if◌then◌else◌}
use Rattle.trace_build.specs.declared.builder.Builder.{Builder}
use Rattle.trace_build.specs.declared.builder.Builder.TheVariants.{Uni, Bi}
use Rattle.alloc_choice.specs.declared.choice.Policy.{Policy}
use Rattle.alloc_choice.specs.declared.choice.Policy.TheVariants.{Plain, Linear, BottomUp, Mixed}
use Rattle.lir_core.specs.declared.places.TraceOut.{TraceOut}
use Rattle.plain_form.specs.Reading.{Broken, Reading, ◌>>=◌, missing, out_of_range, up_to_at, list_at, whole_of}
use Rattle.plain_form.specs.results.Reading.{result_at}
use Rattle.object_form.specs.declared.object.Object.{Object}
use Rattle.object_form.specs.Objects.{mark, most_source}

abbrev pub policy_by : ℕ → Policy
policy_by zero = Plain
policy_by (suc zero) = Linear
policy_by (suc (suc zero)) = BottomUp
policy_by (suc (suc (suc n))) = Mixed

abbrev pub builder_by : ℕ → Builder
builder_by zero = Uni
builder_by (suc n) = Bi

unfoldable pub policy_at : ℕ → Reading Policy
policy_at total bytes = up_to_at 3 total bytes >>= λ n. Ok (policy_by n.0, n.1)

unfoldable pub builder_at : ℕ → Reading Builder
builder_at total bytes = up_to_at 1 total bytes >>= λ n. Ok (builder_by n.0, n.1)

-- 4 to 16
unfoldable pub regs_at : ℕ → Reading ℕ
regs_at total bytes = up_to_at 16 total bytes >>= λ n. if nat_lt n.0 4 then out_of_range total bytes else Ok n

-- so many bytes
unfoldable pub bytes_at : ℕ → ℕ → Reading (List ℕ)
bytes_at total count bytes = if nat_lt (length bytes) count then missing total else Ok (take count bytes, drop count bytes)

unfoldable pub source_at : ℕ → Reading (List ℕ)
source_at total bytes = up_to_at most_source total bytes >>= λ n. bytes_at total n.0 n.1

unfoldable pub built_at : ℕ → Reading (Builder × ℕ)
built_at total bytes = builder_at total bytes >>= λ b. regs_at total b.1 >>= λ k. Ok ((b.0, k.0), k.1)

-- by what the results were made
unfoldable pub chosen_at : ℕ → Reading (Policy × (Builder × ℕ))
chosen_at total bytes = policy_at total bytes >>= λ p. built_at total p.1 >>= λ b. Ok ((p.0, b.0), b.1)

-- the text, and the results
unfoldable pub kept_at : ℕ → Reading (List ℕ × List TraceOut)
kept_at total bytes = source_at total bytes >>= λ s. list_at (result_at total) total s.1 >>= λ o. Ok ((s.0, o.0), o.1)

abbrev pub object_of : Policy × (Builder × ℕ) → List ℕ × List TraceOut → Object
object_of c k = record { policy = c.0; builder = c.1.0; regs = c.1.1; source = k.0; outs = k.1 }

unfoldable pub object_at : ℕ → Reading Object
object_at total bytes = chosen_at total bytes >>= λ c. kept_at total c.1 >>= λ k. Ok (object_of c.0 k.0, k.1)

-- the object in bytes, or the first rule that they break
abbrev pub object_in : List ℕ → Result Object Broken
object_in bytes = whole_of mark object_at bytes
