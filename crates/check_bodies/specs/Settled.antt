-- Bodies that waited, judged and filled in.
use Rattle.std.specs.Prelude.{List, [], ◌∷◌}
use Rattle.ob_judge.specs.Making.{Making}
use Rattle.judged_modules.specs.steps.Procedures.{OneProcedure, plain_procedure}
use Rattle.later_bodies.specs.Waiting.{Waiting, Came, filled, with_procedures}
use Rattle.later_bodies.specs.Walked.{AllCameTo}
use Rattle.check_making.specs.declared.making.Declaring.{Declaring}
use Rattle.check_making.specs.declared.making.Surroundings.{Surroundings}
use Rattle.check_making.specs.declared.scopes.building.Building.{Building}
use Rattle.check_making.specs.scopes.Building.{Represents}
use Rattle.check_procedures.specs.declared.numbers.renumbering.Numbered.{Numbered}
use Rattle.check_bodies.specs.declared.body.Body.{Body}
use Rattle.check_bodies.specs.Waits.{Fits, IsJudged, Waits}

-- these are the statements and answers of these bodies, one for one
abbrev pub AreJudged : Surroundings → Declaring → List Body → List Numbered → Type 0
AreJudged r s [] [] = Unit {0}
AreJudged r s (b ∷ bs) (n ∷ ns) = IsJudged r s b n × AreJudged r s bs ns
AreJudged r s bs ns = ⊥

-- these wait
abbrev pub AllWait : Declaring → List Body → List Waiting → Type 0
AllWait s [] [] = Unit {0}
AllWait s (b ∷ bs) (w ∷ ws) = Waits s b w × AllWait s bs ws
AllWait s bs ws = ⊥

-- all their procedures can be filled in
abbrev pub AllFit : Building → List Body → Type 0
AllFit s [] = Unit {0}
AllFit s (b ∷ bs) = Fits s b × AllFit s bs

-- what waits, each with its syntax
abbrev pub with_trees : List Body → List Waiting → List (OneProcedure × Waiting)
with_trees [] ws = []
with_trees (b ∷ bs) [] = []
with_trees (b ∷ bs) (w ∷ ws) = (plain_procedure b.tree.now, w) ∷ with_trees bs ws

-- all that waited came to something, and the program stands for what was made, with that filled in
pub record AreFilledIn (r : Surroundings) (s : Building) (bs : List Body) (ws : List Waiting) (m : Making) : Type 0 where
  pub came : List Came
  pub all : AllCameTo r.source.now (with_trees bs ws) came
  pub represents : Represents r s (with_procedures (filled m.procedures came) m)
