-- The tests of CASE, as the code lists them.
use Rattle.std.specs.Prelude.{ℕ, suc, List, [], ◌∷◌, ◌++◌, map}
use Rattle.ob_types.specs.declared.statements.Label.{Label}
use Rattle.ob_types.specs.declared.statements.CasePart.{CasePart}
use Rattle.ob_types.specs.declared.statements.TypePart.{TypePart}
use Rattle.ssa_statements.specs.declared.cases.Choice.{Choice}
use Rattle.ssa_statements.specs.declared.cases.Choice.TheVariants as The
use Rattle.ssa_statements.specs.declared.cases.Rung.{Rung}
use Rattle.ssa_statements.specs.declared.walk.rungs.Dynamic.{Dynamic}
use Rattle.ssa_statements.specs.declared.walk.rungs.Dynamic.TheVariants.{Pointer, Parameter}

abbrev pub coded_labels : ℕ → List Label → List Rung
coded_labels i ls = map (λ l. record { choice = The.Value l; part = i }) ls

-- the tests of parts that are counted from one on
abbrev pub coded_cases : ℕ → List CasePart → List Rung
coded_cases i [] = []
coded_cases i (x ∷ xs) = coded_labels i x.labels ++ coded_cases (suc i) xs

abbrev pub kind_of : Dynamic → ℕ → Choice
kind_of Pointer r = The.Pointer r
kind_of Parameter r = The.Parameter r

abbrev pub coded_types : Dynamic → ℕ → List TypePart → List Rung
coded_types kind i [] = []
coded_types kind i (x ∷ xs) = record { choice = kind_of kind x.record; part = i } ∷ coded_types kind (suc i) xs
