-- Flows that are alike the first ones of others.
use Rattle.std.specs.Prelude.{◌≡◌, List, [], ◌∷◌, ◌++◌}
use Rattle.lir_core.specs.declared.flow.Flow.{Flow}
use Rattle.moved_data.specs.Alike.{AreAlike}

-- one for one
abbrev pub AllAlike : List Flow → List Flow → Type 0
AllAlike [] [] = Unit {0}
AllAlike [] (g ∷ gs) = ⊥
AllAlike (f ∷ fs) [] = ⊥
AllAlike (f ∷ fs) (g ∷ gs) = AreAlike f g × AllAlike fs gs

-- flows are alike the first of others
pub record AreAlikeFirst (fs gs : List Flow) : Type 0 where
  pub first : List Flow
  pub rest : List Flow
  pub is : gs ≡ first ++ rest
  pub alike : AllAlike fs first
