-- The variables that a join or a header has as parameters.
use Rattle.std.specs.Prelude.{◌≡◌, ℕ, List, length}
use Rattle.ob_types.specs.declared.program.Program.{Program}
use Rattle.ssa_lowered.specs.Lowered.{Here}
use Rattle.ssa_lowered.specs.Pieces.{Mask}
use Rattle.ssa_exprs.specs.Changes.{chosen}
use Rattle.ssa_exprs.specs.Making.{View}
use Rattle.ssa_assigned.specs.Registers.{registers_in}

-- they are the register variables of a mask, in order of declaration
abbrev pub AreJoined : Program → Here → Mask → View → List ℕ → Type 0
AreJoined p here mask v xs = (env : List ℕ) → length env ≡ length v.known.env → xs ≡ chosen (registers_in p here mask) 0 env
