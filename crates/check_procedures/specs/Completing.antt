-- What a procedure becomes.
use Rattle.std.specs.Prelude.{◌≡◌, ℕ, List, false, map, Option, option_map}
use Rattle.ob_judge.specs.Image.{Statements, Checked, Procedure}
use Rattle.ob_judge.specs.Judged.{Keeps}
use Rattle.ob_judge.specs.Making.{Making}
use Rattle.ob_judge.specs.Modules.{SoFar}
use Rattle.ob_judge.specs.Parameters.{Listed}
use Rattle.ob_judge.specs.Scopes.{Source, line as line_of}
use Rattle.ob_judge.specs.Shapes.{Shape}
use Rattle.ob_judge.specs.Texts.{texts_of}
use Rattle.judged_tree.specs.Plain.{plain_body, plain_checked}
use Rattle.judged_tree.specs.Outline.{outlined_statements, outlined_checked}
use Rattle.judged_modules.specs.steps.Frames.{Begins}
use Rattle.judged_modules.specs.steps.Procedures.{OneProcedure}
use Rattle.judged_modules.specs.steps.Steps.{completed}
use Rattle.judged_outlines.specs.Upright.{Upright}
use Rattle.check_types.specs.TypeMeaning.{type_shape}
use Rattle.check_types.specs.declared.types.TypeRef.{TypeRef}
use Rattle.check_types.specs.declared.table.TypeTable.{TypeTable}
use Rattle.check_making.specs.declared.making.Surroundings.{Surroundings}
use Rattle.check_making.specs.scopes.Building.{IsLater}
use Rattle.check_making.specs.scopes.InTurn.{UseInTurn}
use Rattle.check_making.specs.scopes.Numbers.{AreNumbersOf}
use Rattle.check_procedures.specs.declared.numbers.renumbering.Numbered.{Numbered}

-- the judgement's, from its heading, its variables and its statements
abbrev pub judged_with : Source → OneProcedure → Listed × Shape → Making → Statements → Option Checked → Procedure
judged_with p q h m body answer = record {
  module_number = m.world.module_number;
  line = line_of p q.name.name;
  is_body = false;
  formals = h.0.parameters;
  result = h.1;
  locals = m.variables;
  texts = texts_of body answer;
  body = body;
  answer = answer;
}

-- these statements and this answer are those of the judgement's procedure, as they are outlined with the pointer types that
-- there are; they mean the same in tables that grew; and they use their strings in turn
pub record IsBody (p : Source) (q : OneProcedure) (h : Listed × Shape) (m : Making) (t : TypeTable) (n : Numbered) (j : Procedure) : Type 0 where
  pub statements : Statements
  pub value : Option Checked
  pub same : j ≡ judged_with p q h m statements value
  pub texts : n.texts ≡ texts_of statements value
  pub body : plain_body t.types n.texts n.body ≡ outlined_statements t.bases.items statements
  pub answer : option_map (plain_checked t.types n.texts) n.answer ≡ option_map (outlined_checked t.bases.items) value
  pub body_stays : (u : TypeTable) → IsLater t u → plain_body u.types n.texts n.body ≡ plain_body t.types n.texts n.body
  pub answer_stays : (u : TypeTable) → IsLater t u → option_map (plain_checked u.types n.texts) n.answer ≡ option_map (plain_checked t.types n.texts) n.answer
  pub in_turn : UseInTurn n.texts n.body n.answer

-- these are the numbers of the types of all variables
pub record HasLocals (t : TypeTable) (locals : List ℕ) (m : Making) : Type 0 where
  pub types : List TypeRef
  pub numbers : AreNumbersOf t.entries.items locals types
  pub variables : m.variables ≡ map (type_shape t.types) types

-- the procedure stands on this line
pub record HasLine (r : Surroundings) (line : ℕ) (q : OneProcedure) : Type 0 where
  pub is : line ≡ line_of r.source.now q.name.name

-- the procedure's body was judged in an upright state, whose pointer types are among those of the table
pub record IsCompleted (r : Surroundings) (t : TypeTable) (q : OneProcedure) (h : Listed × Shape) (m : Making) (j : Procedure) : Type 0 where
  pub so_far : SoFar
  pub upright : Upright so_far m
  pub begins : Begins m.world.known.bases t.bases.items
  pub keeps : completed r.source.now q h m ≡ Keeps j
  pub number : m.world.module_number ≡ r.module_number
