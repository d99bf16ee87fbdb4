-- Procedures whose scopes are open.
use Rattle.std.specs.Prelude.{◌≡◌, ◌<◌, ℕ, [], length}
use Rattle.ob_judge.specs.Making.{Making}
use Rattle.judged_tree.specs.Tables.{are_before}
use Rattle.table_builder.specs.Entries.{IsNumbered}
use Rattle.judged_modules.specs.steps.Frames.{entered}
use Rattle.check_making.specs.declared.making.Surroundings.{Surroundings}
use Rattle.check_making.specs.Making.{AreNumbered}
use Rattle.check_making.specs.parameters.Headings.{IsHeading}
use Rattle.check_making.specs.declared.scopes.building.Building.{Building}
use Rattle.check_making.specs.scopes.Building.{Represents}
use Rattle.check_making.specs.scopes.Scopes.{deeper, IsOuter}
use Rattle.check_procedures.specs.declared.opening.PutAside.{PutAside}
use Rattle.check_procedures.specs.declared.opening.OpenProcedure.{OpenProcedure}
use Rattle.check_procedures.specs.Parts.{JudgedOpen, waiting}

-- this was put aside, and the scope of the procedure by this number is open
pub record IsEntered (r : Surroundings) (s : Building) (number : ℕ) (a : PutAside) (m : Making) : Type 0 where
  pub outer : IsOuter r s.declaring a.outer a.forward.items m (waiting [] (entered number m))
  pub represents : Represents (deeper r a.outer.depth) s (waiting [] (entered number m))

-- a procedure stands for the judgement's
pub record IsOpened (r : Surroundings) (s : Building) (o : OpenProcedure) (j : JudgedOpen) : Type 0 where
  pub number : o.number ≡ j.number
  pub heading : IsHeading s.declaring o.heading j.heading
  pub outer : IsOuter r s.declaring o.outer o.forward.items j.outer j.inner
  pub represents : Represents (deeper r o.outer.depth) s j.inner

-- what holds of one whose scope can be closed: it has its number, and types that are there
pub record CanBeClosed (r : Surroundings) (s : Building) (o : OpenProcedure) : Type 0 where
  pub deeper : r.depth < o.outer.depth
  pub number : o.number < length s.procedures.items
  pub variables : AreNumbered s.declaring.types.table.entries.items o.outer.variables.items
  pub formals : are_before (length s.declaring.types.table.entries.items) o.heading.listed.formals
  pub outcome : IsNumbered s.declaring.types.table.entries.items o.heading.outcome
