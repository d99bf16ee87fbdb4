-- What a line's code gives.
use Rattle.std.specs.Prelude.{◌≡◌, ℕ, ◌≤◌, Bool, true, false, List, length, map, Option, Some, None, Result, Ok, Err}
use Rattle.std.specs.List.{list_all}
use Rattle.std.specs.Global.{Vec}
use Rattle.block_runs.specs.Blocks.{Operation}
use Rattle.lir_core.specs.declared.flow.Lir.{Lir}
use Rattle.lir_core.specs.declared.places.Move.{Move}
use Rattle.lir_core.specs.declared.places.Line.{Line}
use Rattle.lir_core.specs.Spots.{Spot, spot}
use Rattle.lir_core.specs.Lines.{Room}
use Rattle.lir_core.specs.Walks.{after}
use Rattle.alloc_audit.specs.declared.walk.Walk.{Walk}
use Rattle.alloc_audit.specs.Tests.{can_move, fits}
use Rattle.alloc_audit.specs.Holdings.{room_in, walker_of}

-- the values that stand where moves take them, if all can be made
abbrev pub HasMoved : Room → (Spot → Option ℕ) → List Move → Option (Vec ℕ) → Type 0
HasMoved room view ms None = list_all (can_move room view) ms ≡ false
HasMoved room view ms (Some vs) = (list_all (can_move room view) ms ≡ true) × (map Some vs.items ≡ map (λ m. view (spot m.from)) ms)

-- behind a line
pub record Stepped (values : ℕ) (ops : List Operation) (named : List ℕ) (l : Line) (old new : Walk) : Type 0 where
  pub walker : walker_of named new ≡ after ops l (walker_of named old)
  pub room : room_in values new ≡ room_in values old
  pub used : new.used ≤ length named

-- whether a line can be taken; and where it can, it was
pub record Tried (values : ℕ) (ops : List Operation) (named : List ℕ) (l : Line) (old new : Walk) (took : Bool) : Type 0 where
  pub test : took ≡ fits (room_in values old) ops l (walker_of named old)
  pub stepped : took ≡ true → Stepped values ops named l old new

abbrev pub Takes : {E : Type 0} → ℕ → List Operation → List ℕ → Line → Walk → Walk → Result Bool E → Type 0
Takes values ops named l old new (Err e) = Unit {0}
Takes values ops named l old new (Ok took) = old.used ≤ length named → Tried values ops named l old new took

-- where nothing can fail for want of memory
abbrev pub loaded : Bool → Result Bool ℕ
loaded took = Ok took

abbrev pub HasDefinition : Lir → Type 0
HasDefinition x = (v : ℕ) × (x.def ≡ Some v)
