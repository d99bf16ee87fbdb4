-- The line that tells of a trace.
use Rattle.std.specs.Prelude.{ℕ, max, List, [], ◌∷◌, ◌++◌, Option, Some, None, codes, slice_get}
use Rattle.std.specs.Fmt.{decimal}
use Rattle.lir_core.specs.declared.flow.Node.{Node}
use Rattle.lir_core.specs.declared.flow.Trace.{Trace}
use Rattle.alloc_choice.specs.declared.choice.Used.{Used}
use Rattle.alloc_choice.specs.declared.choice.Used.TheVariants.{Plain, Trivial, Linear, BottomUp}
use Rattle.alloc_choice.specs.Choice.{freq_of}
use Rattle.trace_report.specs.declared.lines.Told.{Told}

-- how a policy that is used is called
abbrev pub name_of : Used → List ℕ
name_of Plain = codes "plain"
name_of Trivial = codes "trivial"
name_of Linear = codes "linear"
name_of BottomUp = codes "bottomup"

-- how often the most frequent of these nodes runs, and no less than so often
abbrev pub greatest : List Node → ℕ → List ℕ → ℕ
greatest nodes most [] = most
greatest nodes most (n ∷ ns) = greatest nodes (max (freq_of (slice_get nodes n)) most) ns

-- the number of the trace above, or a hyphen
abbrev pub parent_text : Option ℕ → List ℕ
parent_text None = 45 ∷ []
parent_text (Some p) = decimal p

-- numbers, with commas between them
abbrev pub more_blocks : List ℕ → List ℕ
more_blocks [] = []
more_blocks (n ∷ ns) = (44 ∷ decimal n) ++ more_blocks ns

abbrev pub blocks_text : List ℕ → List ℕ
blocks_text [] = []
blocks_text (n ∷ ns) = decimal n ++ more_blocks ns

-- a word of a line, with the blank behind it
abbrev pub word : List ℕ → List ℕ
word a = a ++ 32 ∷ []

-- which trace it is, and how often it runs: its procedure, its number, the greatest frequency of its nodes
abbrev pub which : List Node → Trace → Told → List ℕ
which nodes trace told = word (decimal told.procedure) ++ word (decimal told.number) ++ word (decimal (greatest nodes 0 trace.nodes))

-- how its values get their places: the trace above, the policy, the nodes; and the line's end
abbrev pub how : Trace → Told → List ℕ
how trace told = word (parent_text told.parent) ++ word (name_of told.used) ++ blocks_text trace.nodes ++ 10 ∷ []

abbrev pub line_of : List Node → Trace → Told → List ℕ
line_of nodes trace told = which nodes trace told ++ how trace told
