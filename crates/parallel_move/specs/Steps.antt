-- What steps do, one after the other.
use Rattle.std.specs.Prelude.{◌≡◌, false, cond, List, [], ◌∷◌}
use Rattle.lir_core.specs.declared.places.Move.{Move}
use Rattle.lir_core.specs.Spots.{Spot, saved, same, spot, source}
use Rattle.parallel_move.specs.declared.step.Step.{Step}
use Rattle.parallel_move.specs.declared.step.Step.TheVariants.{Copy, Save, Restore}

-- where what stands at p behind a step stood before it
abbrev pub step_source : Step → Spot → Spot
step_source (Copy to from) p = cond (same p (spot to)) (spot from) p
step_source (Save from) p = cond (same p saved) (spot from) p
step_source (Restore to) p = cond (same p (spot to)) saved p

-- where what stands at p behind steps, one after the other, stood before them
abbrev pub steps_source : List Step → Spot → Spot
steps_source [] p = p
steps_source (s ∷ ss) p = step_source s (steps_source ss p)

-- behind the steps there stands in each spot but X16 what moves, all at once, take there: where none goes, what stood there
abbrev pub CarriesOut : List Step → List Move → Type 0
CarriesOut steps moves = (p : Spot) → same p saved ≡ false → steps_source steps p ≡ source moves p
