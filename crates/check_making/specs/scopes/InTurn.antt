-- Statements that use strings in turn: by which numbers they name their uses.
use Rattle.std.specs.Prelude.{◌≡◌, ◌≤◌, List, ℕ, length, take, Option, option_map, Some, slice_get}
use Rattle.ob_types.specs.Table.{Table}
use Rattle.ob_types.specs.declared.statements.Checked.{Checked}
use Rattle.ob_types.specs.declared.statements.Stmt.{Stmt}
use Rattle.ob_types.specs.declared.program.Procedure.{Procedure}
use Rattle.ob_judge.specs.Texts.{Strings, texts_of}
use Rattle.judged_tree.specs.Plain.{plain_body, plain_checked}

-- whatever strings stand at the numbers, a body and the expression behind RETURN use the first of them, then the second, and so
-- on to as many as the procedure has
pub record UseInTurn (texts : Strings) (body : List Stmt) (answer : Option Checked) : Type 0 where
  pub each : (v : Table) (all : Strings) → length texts ≤ length all → length all ≤ 4294967295
      → texts_of (plain_body v all body) (option_map (plain_checked v all) answer) ≡ take (length texts) all

-- each of these procedures does
pub record AllUseInTurn (qs : List Procedure) : Type 0 where
  pub each : (f : ℕ) (q : Procedure) → slice_get qs f ≡ Some q → UseInTurn q.texts q.body q.answer
