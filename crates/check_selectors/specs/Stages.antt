-- Which stage of the judgement a stage is, and what has no parts.
use Rattle.std.specs.Prelude.{◌≡◌, Bool, true, false}
use Rattle.ob_judge.specs.Shapes.{Shape, Array, Open, Record, Pointer}
use Rattle.ob_judge.specs.Operands as J
use Rattle.ob_judge.specs.Names as N
use Rattle.check_types.specs.declared.names.scope.Scope.{Scope}
use Rattle.check_types.specs.names.Worlds.{IsNamed}
use Rattle.check_operands.specs.Operands.{Stands}
use Rattle.check_selectors.specs.parts.Parts.{IsPart}
use Rattle.check_selectors.specs.declared.begun.Begun.{Begun}
use Rattle.check_selectors.specs.declared.begun.Begun.TheVariants as TheBegun
use Rattle.check_selectors.specs.declared.stage.Stage.{Stage}
use Rattle.check_selectors.specs.declared.stage.Stage.TheVariants as TheStage

abbrev pub IsStage : Scope → Stage → N.Stage → Type 0
IsStage s (TheStage.Whole n) (N.Whole o) = IsNamed s n o
IsStage s (TheStage.Partly x) (N.Partly a) = IsPart s x a
IsStage s (TheStage.Ended x) (N.Ended a) = Stands s x a
IsStage s x a = ⊥

-- a type whose values have no parts, and point to nothing
abbrev pub is_simple : Shape → Bool
is_simple (Array n e) = false
is_simple (Open e) = false
is_simple (Record n) = false
is_simple (Pointer n) = false
is_simple t = true

-- a constant or a procedure
pub record IsWhole (a : J.Operand) : Type 0 where
  pub shape : is_simple a.shape ≡ true
  pub usage : J.is_tagged a ≡ false

abbrev pub IsBegun : Scope → Begun → J.Operand → Type 0
IsBegun s (TheBegun.Variable x) a = IsPart s x a
IsBegun s (TheBegun.Value x) a = Stands s x a × IsWhole a
