-- What procedures and flows have in common: numbered blocks with parameters, operations, and an end.
use Rattle.std.specs.Prelude.{ℕ, suc, List, [], ◌∷◌, Bool, false, slice_index_or, Option, None, option_to_list, if◌then◌else◌}
use Rattle.block_runs.specs.declared.code.Code.{Code}
use Rattle.block_runs.specs.declared.end.End.{End}
use Rattle.block_runs.specs.declared.end.End.TheVariants.{Jump, Branch, Nonzero, Return, Trap}

-- an operation: what it does, the values that it reads, in order, and the value that it makes
pub record Operation : Type 0 where
  pub code : Code
  pub uses : List ℕ
  pub def : Option ℕ

-- a block: its parameters, its operations and how it ends
pub record CodeBlock : Type 0 where
  pub params : List ℕ
  pub ops : List Operation
  pub end : End

-- a procedure: its blocks, from the first on, whether its calls are counted, and the cells and bytes of its local data
pub record Procedure : Type 0 where
  pub blocks : List CodeBlock
  pub counted : Bool
  pub cells : ℕ
  pub bytes : ℕ

-- the block and the procedure of a number; one that only returns where there is none
abbrev pub no_block : CodeBlock
no_block = record { params = []; ops = []; end = Return None }

abbrev pub block_at : List CodeBlock → ℕ → CodeBlock
block_at bls b = slice_index_or bls b no_block

abbrev pub block_of : Procedure → ℕ → CodeBlock
block_of p b = block_at p.blocks b

abbrev pub no_procedure : Procedure
no_procedure = record { blocks = []; counted = false; cells = 0; bytes = 0 }

abbrev pub procedure_of : List Procedure → ℕ → Procedure
procedure_of ps p = slice_index_or ps p no_procedure

-- the values that an end reads: a jump's arguments are read too
abbrev pub end_uses : End → List ℕ
end_uses (Jump to args) = args
end_uses (Branch cond a b one other) = a ∷ b ∷ []
end_uses (Nonzero a one other) = a ∷ []
end_uses (Return a) = option_to_list a
end_uses (Trap kind) = []

-- the blocks to which an end leads, a test's `yes` before its `no`
abbrev pub successors : End → List ℕ
successors (Jump to args) = to ∷ []
successors (Branch cond a b one other) = one ∷ other ∷ []
successors (Nonzero a one other) = one ∷ other ∷ []
successors (Return a) = []
successors (Trap kind) = []

-- the modules' bodies: the numbers of the procedures whose calls aren't counted, where the first of the list is number p
abbrev pub bodies_from : ℕ → List Procedure → List ℕ
bodies_from p [] = []
bodies_from p (pr ∷ ps) = if pr.counted then bodies_from (suc p) ps else (p ∷ bodies_from (suc p) ps)

abbrev pub bodies : List Procedure → List ℕ
bodies ps = bodies_from 0 ps
