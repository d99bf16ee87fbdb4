-- In an upright state bodies, answers and procedures are judged alike where more types are known.
use Rattle.std.proofs.Common.{◌≡◌, ℕ, length, Option}
use Rattle.ob_syntax.specs.Syntax as S
use Rattle.ob_judge.specs.Shapes.{Shape, Known}
use Rattle.ob_judge.specs.Image.{Procedure}
use Rattle.ob_judge.specs.Scopes.{Source}
use Rattle.ob_judge.specs.Statements.{body_of}
use Rattle.ob_judge.specs.Declarations.{answer}
use Rattle.ob_judge.specs.Making.{Making}
use Rattle.ob_judge.specs.Modules.{SoFar}
use Rattle.ob_judge.specs.Parameters.{Listed}
use Rattle.judged_modules.specs.Agrees.{records_of, bases_of}
use Rattle.judged_modules.specs.steps.Procedures.{OneProcedure}
use Rattle.judged_modules.specs.steps.Steps.{completed}
use Rattle.judged_outlines.specs.Upright.{Upright}
use Rattle.later_types.specs.Later.{Below, IsRooted, Rooted, StaysKnown, with_types}
use Rattle.later_types.proofs.Alike.{Alike, whatever, behind}
use Rattle.later_types.proofs.Within.{Ready}
use Rattle.later_types.proofs.Stated.{a_body, a_answer}

module _ (c : SoFar) (p : Source) (s : Making) (later : Known) (upright : Upright c s) (rooted : Rooted s) (stays : StaysKnown s.world.known later) where
  abbrev Named : ℕ → Type 0
  Named = Below (length (records_of s))

  ready : Ready Named (length (bases_of s)) s.world later
  ready = record { among = upright.among; scope = rooted.scope; targets = upright.tidy.targets; records = stays.records; bases = stays.bases.same }

  pub body_alike : (b : Option S.Body) → body_of p (with_types later s).world b ≡ body_of p s.world b
  body_alike b = (a_body Named (length (bases_of s)) p later s.world ready b).same

  pub answer_alike : (result : Shape) → IsRooted s result → (end_word : ℕ) (r : Option S.Returned) → answer p result end_word r (with_types later s).world ≡ answer p result end_word r s.world
  answer_alike result h end_word r = (a_answer Named (length (bases_of s)) p later s.world ready result (h.points, h.records) end_word r).same

  completes_alike : (q : OneProcedure) (h : Listed × Shape) → IsRooted s h.1 → Alike (λ (a : Procedure). Unit {0}) (completed p q h s) (completed p q h (with_types later s))
  completes_alike q h g =
      behind (a_body Named (length (bases_of s)) p later s.world ready q.body) (λ b i.
      behind (a_answer Named (length (bases_of s)) p later s.world ready h.1 (g.points, g.records) q.end_word q.returned) (λ a j. whatever _))

  pub procedure_alike : (q : OneProcedure) (h : Listed × Shape) → IsRooted s h.1 → completed p q h (with_types later s) ≡ completed p q h s
  procedure_alike q h g = (completes_alike q h g).same
