-- The texts of operations and ends.
use Rattle.std.specs.Prelude.{ℕ, List, [], ◌∷◌, ◌++◌, codes, flat_map, Option, Some, None}
use Rattle.std.specs.Fmt.{decimal}
use Rattle.block_runs.specs.declared.end.End.{End}
use Rattle.block_runs.specs.declared.end.End.TheVariants.{Jump, Branch, Nonzero, Return, Trap}
use Rattle.lir_core.specs.declared.flow.Lir.{Lir}
use Rattle.trace_rows.specs.Marks.{value_begin}
use Rattle.trace_rows.specs.Names.{numbered, condition_text, code_text}

-- a value, marked so that a page can light it everywhere
unfoldable pub value_text : ℕ → List ℕ
value_text v = value_begin ++ (decimal v ++ (codes "\">v" ++ (decimal v ++ codes "</i>")))

-- values, with a blank before each
unfoldable pub spaced : ℕ → List ℕ
spaced v = codes " " ++ value_text v

abbrev pub values_text : List ℕ → List ℕ
values_text vs = flat_map spaced vs

-- the value that is made
abbrev pub made_text : Option ℕ → List ℕ
made_text None = []
made_text (Some v) = value_text v ++ codes " = "

abbrev pub operation_text : Lir → List ℕ
operation_text op = made_text op.def ++ (code_text op.template ++ values_text op.uses)

-- the operation of a number, where there is one
abbrev pub maybe_operation : Option Lir → List ℕ
maybe_operation None = codes "no operation"
maybe_operation (Some op) = operation_text op

---- Ends

abbrev pub ways : (one other : ℕ) → List ℕ
ways one other = numbered (codes " yes") one ++ numbered (codes " no") other

abbrev pub end_text : End → List ℕ
end_text (Jump to args) = numbered (codes "Jump") to ++ values_text args
end_text (Branch c a b one other) = codes "Branch " ++ (condition_text c ++ (values_text (a ∷ b ∷ []) ++ ways one other))
end_text (Nonzero a one other) = codes "Nonzero" ++ (values_text (a ∷ []) ++ ways one other)
end_text (Return None) = codes "Return"
end_text (Return (Some v)) = codes "Return" ++ spaced v
end_text (Trap kind) = numbered (codes "Trap") kind
