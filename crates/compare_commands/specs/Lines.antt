-- The cells of a table's lines: names at the left, numbers at the right, with a blank between two columns.
use Rattle.std.specs.Prelude.{ℕ, ◌-◌, List, [], ◌∷◌, ◌++◌, codes, length, replicate}
use Rattle.std.specs.Fmt.{decimal}
use Rattle.trace_build.specs.declared.builder.Builder.{Builder}
use Rattle.trace_build.specs.declared.builder.Builder.TheVariants.{Bi, Uni}
use Rattle.program_figures.specs.words.alloc_choice.declared.choice.Choice.{Choice}
use Rattle.program_figures.specs.words.alloc_choice.declared.choice.Policy.{Policy}
use Rattle.program_figures.specs.words.alloc_choice.declared.choice.Policy.TheVariants.{Plain, Linear, BottomUp, Mixed}
use Rattle.a64_machine.specs.declared.answers.Halt.{Halt}
use Rattle.a64_machine.specs.declared.answers.Halt.TheVariants.{Ended, Spent, Trapped}
use Rattle.program_figures.specs.declared.figuring.CodeFigures.{CodeFigures}
use Rattle.program_figures.specs.declared.running.CountedRun.{CountedRun}

---- Columns

-- a text with as many blanks behind it as a width leaves
abbrev pub left_in : (width : ℕ) → List ℕ → List ℕ
left_in width text = text ++ replicate (width - length text) 32

-- a blank, as many more as a width leaves, and a text
abbrev pub cell : (width : ℕ) → List ℕ → List ℕ
cell width text = 32 ∷ replicate (width - length text) 32 ++ text

-- a policy, a builder and a number of registers
abbrev pub name_cells : (policy builder : List ℕ) → List ℕ
name_cells policy builder = left_in 8 policy ++ (32 ∷ left_in 7 builder)

-- the words of the code, the traces, moves, stores and loads, the bytes of the greatest frame
abbrev pub number_cells : (words traces moves stores loads frame : List ℕ) → List ℕ
number_cells words traces moves stores loads frame = cell 6 words ++ (cell 6 traces ++ (cell 6 moves ++ (cell 6 stores ++ (cell 6 loads ++ cell 5 frame))))

-- the steps of a run, and how it ended
abbrev pub step_cells : (steps end : List ℕ) → List ℕ
step_cells steps end = cell 16 steps ++ (32 ∷ end)

-- the names of the columns
abbrev pub header : List ℕ
header =
    name_cells (codes "policy") (codes "builder") ++ (cell 4 (codes "regs")
    ++ (number_cells (codes "words") (codes "traces") (codes "moves") (codes "stores") (codes "loads") (codes "frame")
    ++ (step_cells (codes "steps") (codes "end") ++ 10 ∷ [])))

---- Cells

abbrev pub policy_name : Policy → List ℕ
policy_name Plain = codes "plain"
policy_name Linear = codes "linear"
policy_name BottomUp = codes "bottomup"
policy_name Mixed = codes "mixed"

abbrev pub builder_name : Builder → List ℕ
builder_name Uni = codes "uni"
builder_name Bi = codes "bi"

abbrev pub choice_cells : Choice → List ℕ
choice_cells choice = name_cells (policy_name choice.policy) (builder_name choice.builder) ++ cell 4 (decimal choice.regs)

abbrev pub figure_cells : CodeFigures → List ℕ
figure_cells figures =
    number_cells (decimal figures.words) (decimal figures.traces) (decimal figures.moves) (decimal figures.stores) (decimal figures.loads) (decimal figures.frame)

-- the kind of the trap that a run ended with; the machine that runs a program's image comes to no fault
abbrev pub kind_of : Halt → ℕ
kind_of (Trapped kind word) = kind
kind_of _ = 0

abbrev pub end_words : Halt → List ℕ
end_words Ended = codes "ended"
end_words Spent = codes "spent"
end_words halt = codes "trapped-" ++ decimal (kind_of halt)

abbrev pub run_cells : CountedRun → List ℕ
run_cells ran = step_cells (decimal ran.steps) (end_words ran.halt)

-- a hyphen in each column of a number that comes of a choice
abbrev pub no_figures : List ℕ
no_figures = let none = codes "-" in number_cells none none none none none none ++ cell 16 none

-- those, and the limit that a choice passes
abbrev pub limit_cells : (number : ℕ) → List ℕ
limit_cells number = no_figures ++ (codes " limit-" ++ decimal number)
