-- A procedure that waits comes to the same in the scopes of a later state.
use Rattle.std.proofs.Common.{◌≡◌, ℕ, List, [], ◌∷◌, length, false, Option, Some, ap, ap₂, sym, ◌∙◌}
use Rattle.ob_judge.specs.Shapes.{Shape}
use Rattle.ob_judge.specs.Scopes.{Entry, Source, World}
use Rattle.ob_judge.specs.Making.{Making}
use Rattle.ob_judge.specs.Modules.{SoFar}
use Rattle.ob_judge.specs.Parameters.{Listed}
use Rattle.judged_modules.specs.steps.Procedures.{OneProcedure}
use Rattle.judged_modules.specs.steps.Steps.{completed}
use Rattle.later_types.specs.Later.{with_types}
use Rattle.later_types.proofs.Completed.{procedure_alike}
use Rattle.later_bodies.specs.Waiting.{Waiting}
use Rattle.check_types.specs.names.Before.{names_before}
use Rattle.bodies_in_scope.specs.Standing.{StillStands}

-- the world of a state, in the scope of a procedure that waits
abbrev pub world_for : (outermost names own : List ℕ → Option Entry) → Waiting → Making → World
world_for outermost names own w s = record s.world { levels = outermost ∷ names_before (length w.inner.procedures) names ∷ own ∷ []; procedure = Some w.number; constant = false; narrowed = [] }

module _ (c : SoFar) (outermost names : List ℕ → Option Entry) (w : Waiting) (s : Making) (h : StillStands c outermost names w s) where
  -- it is what was made there, but for the types that are known since
  pub same_world : (with_types s.world.known w.inner).world ≡ world_for outermost names h.own w s
  same_world =
      ap {B = World} (λ x. record w.inner.world { known = s.world.known; modules = x }) h.modules
      ∙ ap {B = World} (λ x. record w.inner.world { known = s.world.known; modules = s.world.modules; module_number = x }) h.module_number
      ∙ ap {B = World} (λ x. record w.inner.world { known = s.world.known; modules = s.world.modules; module_number = s.world.module_number; levels = x }) h.inside
      ∙ ap {B = World} (λ x. record s.world { levels = outermost ∷ names_before (length w.inner.procedures) names ∷ h.own ∷ []; procedure = x; constant = w.inner.world.constant; narrowed = w.inner.world.narrowed }) h.procedure
      ∙ ap {B = World} (λ x. record s.world { levels = outermost ∷ names_before (length w.inner.procedures) names ∷ h.own ∷ []; procedure = Some w.number; constant = x; narrowed = w.inner.world.narrowed }) h.constant
      ∙ ap {B = World} (λ x. record s.world { levels = outermost ∷ names_before (length w.inner.procedures) names ∷ h.own ∷ []; procedure = Some w.number; constant = false; narrowed = x }) h.narrowed

  module _ (p : Source) (q : OneProcedure) where
    -- a procedure is completed from the world and its variables alone
    completed_same : (x : Listed × Shape) (t u : Making) → t.world ≡ u.world → t.variables ≡ u.variables → completed p q x t ≡ completed p q x u
    completed_same x t u world variables = ap₂ (λ v vs. completed p q x (record u { world = v; variables = vs })) world variables

    pub completed_later : (t : Making) → t.world ≡ world_for outermost names h.own w s → t.variables ≡ w.inner.variables → completed p q w.heading t ≡ completed p q w.heading w.inner
    completed_later t world variables =
        completed_same w.heading t (with_types s.world.known w.inner) (world ∙ sym same_world) variables
        ∙ procedure_alike c p w.inner s.world.known h.upright h.rooted h.known q w.heading h.heading
