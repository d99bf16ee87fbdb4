-- What is claimed of lowered procedures, and of which programs.
use Rattle.std.specs.Prelude.{◌≡◌, ℕ, ◌≤◌, ◌*◌, length, List, All, true, None}
use Rattle.std.specs.List.{list_all}
use Rattle.block_runs.specs.Blocks.{CodeBlock, successors}
use Rattle.block_runs.specs.Valid.{made, all_below, block_reads, enter_below, arguments_fit, condition_fits, operation_fits, size_of}
use Rattle.ob_types.specs.Layout.{cells, field_place}
use Rattle.ob_types.specs.Table.{Table}
use Rattle.ob_types.specs.WellFormed.{well_formed}
use Rattle.ob_types.specs.declared.program.Program.{Program}
use Rattle.ssa_core.specs.declared.procedure.Proc.{Proc}
use Rattle.ssa_core.specs.Procedures.{code_blocks}
use Rattle.ssa_core.specs.Validity.{most}
use Rattle.ssa_lowered.specs.Data.{Layout}
use Rattle.ssa_lowered.specs.Limits.{limit_by}
use Rattle.ssa_lowered.specs.Pieces.{numbers}
use Rattle.ssa_lowered.specs.Lowered.{lowered_by}

---- Of a procedure

-- what of it runs
abbrev pub code_of : Proc → List CodeBlock
code_of x = code_blocks x.blocks

-- the values that its blocks make are 0, 1, 2 and so on, in order, as many as it says
abbrev pub MakesInOrder : Proc → Type 0
MakesInOrder x = made (code_of x) ≡ numbers 0 x.values

-- each value that it reads is one of these
abbrev pub ReadsItsValues : Proc → Type 0
ReadsItsValues x = list_all (λ b. all_below x.values (block_reads b)) (code_of x) ≡ true

-- each end leads to blocks that are there, and what enters a loop is one of them
abbrev pub LeadsToItsBlocks : Proc → Type 0
LeadsToItsBlocks x = list_all (λ b. all_below (length (code_of x)) (successors b.end)) (code_of x) ≡ true

abbrev pub EntersFromItsBlocks : Proc → Type 0
EntersFromItsBlocks x = list_all (λ b. enter_below (length x.blocks) b.enter) x.blocks ≡ true

-- a jump has an argument for each parameter of the block where it leads, and a test leads to blocks without parameters
abbrev pub HasFittingArguments : Proc → Type 0
HasFittingArguments x = list_all (λ b. arguments_fit (code_of x) b.end) (code_of x) ≡ true

-- the condition of each branch is one of the fourteen
abbrev pub HasKnownConditions : Proc → Type 0
HasKnownConditions x = list_all (λ b. condition_fits b.end) (code_of x) ≡ true

-- each operation has as many uses as it must have, and a result or none, and its number is small enough
abbrev pub HasFittingOperations : Proc → Type 0
HasFittingOperations x = list_all (λ b. list_all (operation_fits x.args) b.ops) (code_of x) ≡ true

abbrev pub TakesFewWords : Proc → Type 0
TakesFewWords x = x.args ≤ 24

-- it has at most so many blocks and operations
abbrev pub IsShort : Proc → Type 0
IsShort x = size_of (code_of x) ≤ most

---- Of well-formed programs

-- a layout in which nothing takes more than eight bytes a cell
pub record IsNarrow (t : Table) (l : Layout) : Type 0 where
  pub types : (k : ℕ) → l.bytes k ≤ 8 * cells t k
  pub fields : (r field : ℕ) → l.offset r field ≤ 8 * field_place t r field

-- a well-formed program that passes no limit of lowering
pub record IsWithinLimits (l : Layout) (p : Program) : Type 0 where
  pub narrow : IsNarrow p.types l
  pub fine : well_formed p ≡ true
  pub limits : limit_by l p ≡ None

-- whose procedures are short besides
pub record CanBeLowered (l : Layout) (p : Program) : Type 0 where
  pub within : IsWithinLimits l p
  pub short : All IsShort (lowered_by l p)
