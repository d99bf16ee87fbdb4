-- Procedures whose values have places: their operations, and what moves numbers between spots before them.
use Rattle.std.specs.Prelude.{ℕ, cond, List, [], ◌∷◌, map, get_or, length, Bool, false, slice_index_or, Option, None}
use Rattle.block_runs.specs.declared.end.End.{End}
use Rattle.block_runs.specs.declared.end.End.TheVariants.{Return}
use Rattle.block_runs.specs.Blocks.{Operation, CodeBlock, Procedure}
use Rattle.lir_core.specs.Spots.{Spot, same}

-- the number in a spot goes to another
pub record Copy : Type 0 where
  pub to : Spot
  pub from : Spot

-- what stands in the spots behind a copy, and behind copies one after the other
abbrev pub copied : Copy → (Spot → ℕ) → Spot → ℕ
copied m content p = cond (same p m.to) (content m.from) (content p)

abbrev pub all_copied : List Copy → (Spot → ℕ) → Spot → ℕ
all_copied [] content = content
all_copied (m ∷ ms) content = all_copied ms (copied m content)

-- an operation with the copies before it, and the registers named for its uses and its definition, in order
pub record Cell : Type 0 where
  pub copies : List Copy
  pub op : Operation
  pub named : List ℕ

-- a block: its operations, the copies before its end, how it ends, and the registers in which the end reads
pub record Block : Type 0 where
  pub params : List ℕ
  pub body : List Cell
  pub copies : List Copy
  pub end : End
  pub a : ℕ
  pub b : ℕ

-- a procedure: its blocks by number; how many slots it has for arguments of calls, how many homes, and which rank the home of
-- a value has; the copies at its entry; and the numbers of its blocks in the order of their code
pub record Placed : Type 0 where
  pub counted : Bool
  pub cells : ℕ
  pub bytes : ℕ
  pub outs : ℕ
  pub homes : ℕ
  pub rank : ℕ → Option ℕ
  pub copies : List Copy
  pub blocks : List Block
  pub order : List ℕ

---- What runs

abbrev pub operation : Cell → Operation
operation cell = cell.op

abbrev pub code_block : Block → CodeBlock
code_block bl = record { params = bl.params; ops = map operation bl.body; end = bl.end }

abbrev pub procedure : Placed → Procedure
procedure pr = record { blocks = map code_block pr.blocks; counted = pr.counted; cells = pr.cells; bytes = pr.bytes }

abbrev pub procedures : List Placed → List Procedure
procedures ps = map procedure ps

---- Parts by number

abbrev pub no_block : Block
no_block = record { params = []; body = []; copies = []; end = Return None; a = 0; b = 0 }

abbrev pub no_procedure : Placed
no_procedure = record { counted = false; cells = 0; bytes = 0; outs = 0; homes = 0; rank = λ v. None; copies = []; blocks = []; order = [] }

abbrev pub proc_of : List Placed → ℕ → Placed
proc_of ps p = slice_index_or ps p no_procedure

abbrev pub block_of : Placed → ℕ → Block
block_of pr b = slice_index_or pr.blocks b no_block

-- the register of an operation's i-th use, and that of its definition
abbrev pub use_register : List ℕ → ℕ → ℕ
use_register named i = get_or named i 0

abbrev pub def_register : List ℕ → Operation → ℕ
def_register named op = get_or named (length op.uses) 0
