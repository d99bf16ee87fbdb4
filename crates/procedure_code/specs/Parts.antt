-- Where procedures begin by a list of places, and procedures whose blocks are all there.
use Rattle.std.specs.Prelude.{ℕ, ◌-◌, ◌<◌, min, List, length}
use Rattle.block_runs.specs.declared.code.Code.{Code}
use Rattle.block_runs.specs.declared.code.Code.TheVariants.{Call}
use Rattle.block_runs.specs.declared.code.Code.TheVariants.{Code as CodeOf}
use Rattle.block_runs.specs.declared.end.End.{End}
use Rattle.block_runs.specs.declared.end.End.TheVariants.{Jump, Branch, Nonzero, Return, Trap}
use Rattle.placed_code.specs.Placed.{Placed, block_of}
use Rattle.placed_code.specs.Claims.{Ordered}
use Rattle.link_words.specs.Fields.{entry_in}

-- where a procedure begins: the last of the entries stands behind all procedures, where those begin that aren't there
abbrev pub entry_at : List ℕ → ℕ → ℕ
entry_at entries p = entry_in entries (min p (length entries - 1))

-- a procedure's number, or the last number
abbrev pub clamped : ℕ → Code → Code
clamped last (Call p) = Call (min p last)
clamped last (CodeOf p) = CodeOf (min p last)
clamped last code = code

-- an end leads to blocks of so many
abbrev pub LeadsBelow : ℕ → End → Type 0
LeadsBelow n (Jump to args) = to < n
LeadsBelow n (Branch c x y one other) = (one < n) × (other < n)
LeadsBelow n (Nonzero x one other) = (one < n) × (other < n)
LeadsBelow n (Return x) = Unit {0}
LeadsBelow n (Trap kind) = Unit {0}

-- a procedure has a block, all its blocks stand in its order once, and ends lead to blocks
pub record IsWhole (pr : Placed) : Type 0 where
  pub some : 0 < length pr.blocks
  pub ordered : Ordered pr
  pub leads : (b : ℕ) → LeadsBelow (length pr.blocks) (block_of pr b).end
