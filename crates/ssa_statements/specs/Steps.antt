-- That statements were lowered, by the definitions of lowering.
use Rattle.std.specs.Prelude.{ℕ, List, [], ◌∷◌, Option}
use Rattle.block_runs.specs.declared.code.Code.TheVariants.{Fits}
use Rattle.ob_types.specs.declared.statements.Stmt.{Stmt}
use Rattle.ob_types.specs.declared.program.Program.{Program}
use Rattle.ssa_lowered.specs.Data.{layout}
use Rattle.ssa_lowered.specs.Pieces.{◌>>=◌, does, Mask}
use Rattle.ssa_lowered.specs.Values.{Named, length_in}
use Rattle.ssa_lowered.specs.Control.{Round, rounds}
use Rattle.ssa_lowered.specs.Lowered.{Here, deed}
use Rattle.ssa_lowered.specs.Statements.{Deed}
use Rattle.ssa_exprs.specs.Changes.{Undoes}
use Rattle.ssa_exprs.specs.Making.{View, Follows, Once}

-- a part of a statement was lowered; what is known of the variables can be taken back
pub record Steps (v w : View) (m : Deed) : Type 0 where
  pub follows : Follows v w (λ _. m) (λ _. tt)
  pub once : Once v w
  pub undoes : Undoes v.known w.known

-- the guards of a loop whose header has a label, with what is done where they hold
pub record Rounds (v w : View) (mask : Mask) (head outside : ℕ) (rs : List Round) : Type 0 where
  pub follows : Follows v w (λ place. rounds mask (place head) outside rs) (λ _. tt)
  pub once : Once v w
  pub undoes : Undoes v.known w.known

-- a statement of a procedure, in the layout in use
abbrev pub deed_in : Program → Here → Stmt → Deed
deed_in p here s = deed p (layout p.types) here s

-- the lengths of arrays are tested
abbrev pub tested : Option ℕ → Named → Option ℕ → Named → Deed
tested n to m from = do
  a ← length_in n to
  b ← length_in m from
  does Fits (b ∷ a ∷ [])
