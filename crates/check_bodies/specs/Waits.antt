-- Procedures whose bodies wait, as code holds them.
use Rattle.std.specs.Prelude.{◌≡◌, ◌<◌, ℕ, List, [], ◌∷◌, ◌++◌, length, map, false, Option, Some, None, Ok, slice_get}
use Rattle.ob_judge.specs.Making.{Making, last_names}
use Rattle.ob_judge.specs.Parameters.{Listed}
use Rattle.ob_judge.specs.Scopes.{World}
use Rattle.ob_judge.specs.Shapes.{Shape}
use Rattle.ob_judge.specs.Standards.{predeclared}
use Rattle.judged_tree.specs.Tables.{are_before}
use Rattle.judged_modules.specs.steps.Procedures.{plain_procedure}
use Rattle.judged_modules.specs.steps.Steps.{completed}
use Rattle.later_bodies.specs.Waiting.{Waiting}
use Rattle.check_types.specs.Known.{known_of}
use Rattle.check_types.specs.TypeMeaning.{type_shape}
use Rattle.check_types.specs.declared.table.TypeTable.{TypeTable}
use Rattle.check_types.specs.names.Before.{names_before}
use Rattle.check_types.specs.names.Meaning.{names_of, module_of}
use Rattle.check_types.specs.steps.Answers.{Answers}
use Rattle.table_builder.specs.Entries.{IsNumbered}
use Rattle.table_builder.specs.Growing.{Grows}
use Rattle.check_making.specs.declared.making.Declaring.{Declaring}
use Rattle.check_making.specs.declared.making.Surroundings.{Surroundings}
use Rattle.check_making.specs.Making.{table_of, strings_of}
use Rattle.check_making.specs.parameters.Headings.{IsHeading}
use Rattle.check_making.specs.declared.scopes.building.Building.{Building}
use Rattle.check_procedures.specs.Completing.{HasLocals, IsBody}
use Rattle.check_procedures.specs.declared.numbers.renumbering.Numbered.{Numbered}
use Rattle.check_bodies.specs.declared.body.Body.{Body}

-- where its body is judged: of the scopes round it, later procedures aren't seen
abbrev pub world_inside : Surroundings → Declaring → Body → World
world_inside r s b = record {
  modules = map (module_of (table_of s) (strings_of s)) r.modules.now;
  known = known_of s.types.table;
  levels = predeclared ∷ map (λ l. names_before b.procedures (names_of (table_of s) (strings_of s) l)) s.levels.items ++ names_of (table_of s) (strings_of s) b.names ∷ [];
  module_number = r.module_number;
  procedure = Some b.number;
  constant = false;
  narrowed = [];
}

-- this is the judgement's procedure that waits, as this state has its types; none of its own names is a constant that is a string,
-- so that they mean the same beside other strings
pub record Waits (s : Declaring) (b : Body) (w : Waiting) : Type 0 where
  pub number : b.number ≡ w.number
  pub count : b.procedures ≡ length w.inner.procedures
  pub heading : IsHeading s b.heading w.heading
  pub locals : HasLocals s.types.table b.locals w.inner
  pub names : last_names w.inner.world.levels ≡ names_of (table_of s) (strings_of s) b.names
  pub names_stay : (u : TypeTable) (strings : List (List ℕ)) → Grows s.types.table u → names_of u.types strings b.names ≡ names_of (table_of s) (strings_of s) b.names

-- its procedure can be filled in: it has its number, and its types are there
pub record Fits (s : Building) (b : Body) : Type 0 where
  pub number : b.number < length s.procedures.items
  pub formals : are_before (length s.declaring.types.table.entries.items) b.heading.listed.formals
  pub outcome : IsNumbered s.declaring.types.table.entries.items b.heading.outcome

-- these are its statements and its answer, whatever state of the judgement its scope stands for
pub record IsJudged (r : Surroundings) (s : Declaring) (b : Body) (n : Numbered) : Type 0 where
  pub each : (m : Making) (h : Listed × Shape) → world_inside r s b ≡ m.world → type_shape (table_of s) b.heading.outcome ≡ h.1
      → Answers (IsBody r.source.now (plain_procedure b.tree.now) h m s.types.table) (completed r.source.now (plain_procedure b.tree.now) h m) (Ok n)

-- no body waits for another
abbrev pub no_parents : List Body → List (Option ℕ)
no_parents bs = map (λ b. None) bs

abbrev pub IsJudgedAt : Surroundings → Declaring → List Body → ℕ → Numbered → Type 0
IsJudgedAt r s bs number n = (b : Body) → slice_get bs number ≡ Some b → IsJudged r s b n
