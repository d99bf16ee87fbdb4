-- What stands at a place of a procedure, in the terms in which code in blocks runs.
use Rattle.std.specs.Prelude.{◌≡◌, ℕ, suc, drop, List, [], ◌∷◌}
use Rattle.block_runs.specs.Blocks.{Operation, CodeBlock, block_at}
use Rattle.block_runs.specs.declared.end.End.{End}
use Rattle.ssa_core.specs.declared.procedure.Op.{Op}
use Rattle.ssa_core.specs.Procedures.{operation_of}
use Rattle.ssa_lowered.specs.Pieces.{Piece, Appends, Closes}

-- what is left of a block's operations from a place on
abbrev pub rest_at : List CodeBlock → (block op : ℕ) → List Operation
rest_at blocks b i = drop i (block_at blocks b).ops

-- an operation stands at a place, and others behind it
abbrev pub Does : List CodeBlock → (block op : ℕ) → Op → Type 0
Does blocks b i op = (more : List Operation) × (rest_at blocks b i ≡ operation_of op ∷ more)

-- a block's end stands at a place
abbrev pub Leaves : List CodeBlock → (block op : ℕ) → End → Type 0
Leaves blocks b i end = (rest_at blocks b i ≡ []) × ((block_at blocks b).end ≡ end)

-- a piece stands at its place; what it begins has its parameters
abbrev pub Holds : List CodeBlock → Piece → Type 0
Holds blocks (Appends b i op) = Does blocks b i op
Holds blocks (Closes b i end start) = Leaves blocks b i end × ((block_at blocks (suc b)).params ≡ start.params)

abbrev pub Stand : List CodeBlock → List Piece → Type 0
Stand blocks [] = Unit {0}
Stand blocks (p ∷ ps) = Holds blocks p × Stand blocks ps
