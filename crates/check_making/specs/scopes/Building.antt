-- What a program that is being built stands for: what the judgement has made so far.
use Rattle.std.specs.Prelude.{◌≡◌, ◌<◌, ◌≤◌, ℕ, List, [], ◌∷◌, length, Option}
use Rattle.ob_types.specs.declared.program.Procedure.{Procedure}
use Rattle.ob_judge.specs.Image.{Procedure as JudgedProcedure}
use Rattle.ob_judge.specs.Making.{Making}
use Rattle.judged_tree.specs.Plain.{plain_procedure}
use Rattle.judged_tree.specs.Outline.{outlined_procedure}
use Rattle.check_types.specs.declared.table.TypeTable.{TypeTable}
use Rattle.table_builder.specs.Growing.{Grows}
use Rattle.judged_modules.specs.steps.Frames.{Begins}
use Rattle.check_making.specs.declared.making.Surroundings.{Surroundings}
use Rattle.check_making.specs.Making.{Makes}
use Rattle.check_making.specs.declared.scopes.building.Building.{Building}
use Rattle.check_making.specs.scopes.InTurn.{UseInTurn}

-- the table grew to this one, in which all procedure types have a number below the greatest
pub record IsLater (t u : TypeTable) : Type 0 where
  pub grows : Grows t u
  pub few : length u.types.signatures ≤ 4294967295

-- a procedure is the judgement's, as it was outlined with the pointer types that there were, and as it is with all that
-- come later; its result's type is there; it stays so; and it uses its strings in turn
pub record StandsFor (t : TypeTable) (q : Procedure) (j : JudgedProcedure) : Type 0 where
  pub bases : List (Option ℕ)
  pub begins : Begins bases t.bases.items
  pub image : plain_procedure t.types q ≡ outlined_procedure bases j
  pub same : (later : List (Option ℕ)) → Begins bases later → outlined_procedure later j ≡ outlined_procedure bases j
  pub result_there : q.result < length t.entries.items
  pub stays : (u : TypeTable) → IsLater t u → plain_procedure u.types q ≡ plain_procedure t.types q
  pub in_turn : UseInTurn q.texts q.body q.answer

-- one for one
abbrev pub TheyStandFor : TypeTable → List Procedure → List JudgedProcedure → Type 0
TheyStandFor t [] [] = Unit {0}
TheyStandFor t (q ∷ qs) (j ∷ js) = StandsFor t q j × TheyStandFor t qs js
TheyStandFor t qs js = ⊥

pub record Represents (r : Surroundings) (s : Building) (m : Making) : Type 0 where
  pub makes : Makes r s.declaring m
  pub procedures : TheyStandFor s.declaring.types.table s.procedures.items m.procedures
