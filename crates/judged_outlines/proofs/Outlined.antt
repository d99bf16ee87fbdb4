-- In an upright state bodies, answers and procedures are outlined alike by all later pointer types.
use Rattle.std.proofs.Common.{◌≡◌, ℕ, List, length, false, Option, ap₂}
use Rattle.std.specs.Prelude.{option_map}
use Rattle.std.specs.Str.{bytes_eq}
use Rattle.ob_syntax.specs.Syntax as S
use Rattle.ob_judge.specs.Judged.{Keeps}
use Rattle.ob_judge.specs.Shapes.{Shape}
use Rattle.ob_judge.specs.Image.{Checked, Procedure, Statements}
use Rattle.ob_judge.specs.Scopes.{Source, place, spelled, line}
use Rattle.ob_judge.specs.Texts.{texts_of}
use Rattle.ob_judge.specs.Statements.{body_of}
use Rattle.ob_judge.specs.Declarations.{answer}
use Rattle.ob_judge.specs.Making.{Making}
use Rattle.ob_judge.specs.Modules.{SoFar}
use Rattle.ob_judge.specs.Parameters.{Listed}
use Rattle.judged_tree.specs.Outline.{outlined_checked, outlined_procedure, outlined_statements}
use Rattle.judged_well.specs.Gives.{Gives}
use Rattle.judged_well.proofs.Judging.{keeps, and_then, by_rule}
use Rattle.judged_modules.specs.Agrees.{bases_of}
use Rattle.judged_modules.proofs.Keeping.{given}
use Rattle.judged_modules.specs.steps.Frames.{Begins}
use Rattle.judged_modules.specs.steps.Procedures.{OneProcedure}
use Rattle.judged_modules.specs.steps.Steps.{completed}
use Rattle.judged_outlines.specs.Upright.{Upright}
use Rattle.judged_outlines.proofs.Stated.{a_body, a_answer}

module _ (c : SoFar) (p : Source) (s : Making) (upright : Upright c s) (later : List (Option ℕ)) (begins : Begins (bases_of s) later) where
  pub body_outlined : (b : Option S.Body) (xs : Statements) → body_of p s.world b ≡ Keeps xs → outlined_statements later xs ≡ outlined_statements (bases_of s) xs
  body_outlined b xs is = given xs (a_body (length (bases_of s)) p (bases_of s) later begins.same s.world upright.among b) is

  pub answer_outlined : (result : Shape) (end_word : ℕ) (r : Option S.Returned) (a : Option Checked) → answer p result end_word r s.world ≡ Keeps a → option_map (outlined_checked later) a ≡ option_map (outlined_checked (bases_of s)) a
  answer_outlined result end_word r a is = given a (a_answer (length (bases_of s)) p (bases_of s) later begins.same s.world upright.among result end_word r) is

  abbrev SameProcedure : Procedure → Type 0
  SameProcedure j = outlined_procedure later j ≡ outlined_procedure (bases_of s) j

  -- what it becomes
  abbrev became : OneProcedure → Listed × Shape → Statements → Option Checked → Procedure
  became q h b a = record {
    module_number = s.world.module_number;
    line = line p (q.name).name;
    is_body = false;
    formals = (h.0).parameters;
    result = h.1;
    locals = s.variables;
    texts = texts_of b a;
    body = b;
    answer = a;
  }

  completes_outlined : (q : OneProcedure) (h : Listed × Shape) → Gives SameProcedure (completed p q h s)
  completes_outlined q h =
      and_then (a_body (length (bases_of s)) p (bases_of s) later begins.same s.world upright.among q.body) (λ b i.
      and_then (a_answer (length (bases_of s)) p (bases_of s) later begins.same s.world upright.among h.1 q.end_word q.returned) (λ a j.
      by_rule 37 (place p q.end_name) (bytes_eq (spelled p q.end_name) (spelled p (q.name).name)) (λ it.
      keeps SameProcedure (became q h b a) (ap₂ (λ x y. record (became q h b a) { body = x; answer = y }) i j))))

  pub procedure_outlined : (q : OneProcedure) (h : Listed × Shape) (j : Procedure) → completed p q h s ≡ Keeps j → outlined_procedure later j ≡ outlined_procedure (bases_of s) j
  procedure_outlined q h j is = given j (completes_outlined q h) is
