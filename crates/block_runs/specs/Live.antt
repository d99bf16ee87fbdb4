-- Which values are live where: by paths of successors.
use Rattle.std.specs.Prelude.{◌≡◌, ◌⊎◌, ℕ, ◌==◌, Bool, true, false, cond, List, [], ◌∷◌, ◌++◌, Some, slice_get, option_to_list}
use Rattle.block_runs.specs.declared.end.End.{End}
use Rattle.block_runs.specs.Blocks.{Operation, CodeBlock, end_uses, successors}

-- a number is in a list
abbrev pub has : List ℕ → ℕ → Bool
has [] v = false
has (x ∷ xs) v = cond (x == v) true (has xs v)

-- the values that operations make, and that a block makes, its parameters first
abbrev pub defs_of : List Operation → List ℕ
defs_of [] = []
defs_of (op ∷ ops) = option_to_list op.def ++ defs_of ops

abbrev pub block_makes : CodeBlock → List ℕ
block_makes bl = bl.params ++ defs_of bl.ops

-- operations and the end behind them read a value, and none of them makes it before
abbrev pub reads : List Operation → End → ℕ → Bool
reads [] end v = has (end_uses end) v
reads (op ∷ ops) end v = cond (has op.uses v) true (cond (has (option_to_list op.def) v) false (reads ops end v))

-- a value is live into a block: it is read there before it is made, or it isn't made there and is live into a block that follows
pub data Live (bls : List CodeBlock) (v : ℕ) : ℕ → Type 0 where
  Here : (b : ℕ) (bl : CodeBlock) → slice_get bls b ≡ Some bl → has bl.params v ≡ false → reads bl.ops bl.end v ≡ true → Live bls v b
  Later : (b to : ℕ) (bl : CodeBlock) → slice_get bls b ≡ Some bl → has (block_makes bl) v ≡ false → has (successors bl.end) to ≡ true → Live bls v to → Live bls v b

-- a value is live behind a block
abbrev pub LiveBehind : List CodeBlock → CodeBlock → ℕ → Type 0
LiveBehind bls bl v = (to : ℕ) × (has (successors bl.end) to ≡ true) × Live bls v to

-- a value is wanted from some operations of a block on: they or the end read it before they make it, or they don't make it and it is live behind the block
abbrev pub IsWanted : List CodeBlock → CodeBlock → List Operation → ℕ → Type 0
IsWanted bls bl ops v = (reads ops bl.end v ≡ true) ⊎ ((has (defs_of ops) v ≡ false) × LiveBehind bls bl v)
