-- What a body that waits comes to.
use Rattle.std.proofs.Common.{◌≡◌, ℕ, List, [], ◌∷◌, ◌++◌, map, length, false, Option, Some, refl, sym, ap, ◌∙◌, subst}
use Rattle.ob_judge.specs.Image.{Procedure as JudgedProcedure}
use Rattle.ob_judge.specs.Image.{Statements, Checked}
use Rattle.ob_judge.specs.Making.{Making, last_names}
use Rattle.ob_judge.specs.Modules.{SoFar}
use Rattle.ob_judge.specs.Scopes.{Entry, World}
use Rattle.ob_judge.specs.Standards.{predeclared}
use Rattle.judged_modules.specs.steps.Frames.{Begins}
use Rattle.judged_modules.specs.steps.Procedures.{OneProcedure, plain_procedure}
use Rattle.judged_modules.specs.steps.Steps.{completed}
use Rattle.later_bodies.specs.Waiting.{Waiting}
use Rattle.bodies_in_scope.specs.Standing.{StillStands}
use Rattle.bodies_in_scope.proofs.Bodies.{world_for, completed_later}
use Rattle.check_types.specs.declared.names.levels.Level.{Level}
use Rattle.check_types.specs.names.Before.{names_before}
use Rattle.check_types.specs.names.Meaning.{names_of}
use Rattle.check_making.specs.declared.making.Declaring.{Declaring}
use Rattle.check_making.specs.declared.making.Surroundings.{Surroundings}
use Rattle.check_making.specs.Making.{table_of, strings_of, world_in, Makes}
use Rattle.check_making.proofs.headings.Heads.{by_given as came}
use Rattle.check_procedures.specs.Completing.{judged_with, IsBody, IsCompleted}
use Rattle.check_procedures.specs.declared.numbers.renumbering.Numbered.{Numbered}
use Rattle.check_bodies.specs.declared.body.Body.{Body}
use Rattle.check_bodies.specs.Waits.{Waits, IsJudged, world_inside}

abbrev Names : Type 0
Names = List ℕ → Option Entry

abbrev behind_first : List Names → List Names
behind_first [] = []
behind_first (l ∷ ls) = ls

-- of all names but those of later procedures
before_each : (n : ℕ) (f : Level → Names) (ls : List Level) → map (λ l. names_before n (f l)) ls ≡ map (names_before n) (map f ls)
before_each n f [] = refl
before_each n f (l ∷ ls) = ap (λ ks. names_before n (f l) ∷ ks) (before_each n f ls)

-- it comes to this procedure
pub record BodyCame (r : Surroundings) (s : Declaring) (b : Body) (w : Waiting) (n : Numbered) : Type 0 where
  pub procedure : JudgedProcedure
  pub completed : IsCompleted r s.types.table (plain_procedure b.tree.now) w.heading w.inner procedure
  pub body : IsBody r.source.now (plain_procedure b.tree.now) w.heading w.inner s.types.table n procedure

module _ (r : Surroundings) (s : Declaring) (c : SoFar) (names : Names) (m : Making) (makes : Makes r s m) (b : Body) (w : Waiting) (waits : Waits s b w) (stands : StillStands c predeclared names w m) where
  abbrev named : Level → Names
  named = names_of (table_of s) (strings_of s)

  abbrev in_scope : World → List Names → Option ℕ → World
  in_scope v ls f = record v { levels = ls; procedure = f; constant = false; narrowed = [] }

  levels_are : map named s.levels.items ≡ names ∷ []
  levels_are = ap behind_first (sym (ap (λ (v : World). v.levels) makes.world) ∙ stands.levels)

  own_is : named b.names ≡ stands.own
  own_is = sym waits.names ∙ ap last_names stands.inside

  inside_is : map (λ l. names_before b.procedures (named l)) s.levels.items ++ named b.names ∷ [] ≡ names_before (length w.inner.procedures) names ∷ stands.own ∷ []
  inside_is =
      ap (λ n. map (λ l. names_before n (named l)) s.levels.items ++ named b.names ∷ []) waits.count
      ∙ ap (λ ls. ls ++ named b.names ∷ []) (before_each (length w.inner.procedures) named s.levels.items ∙ ap (map (names_before (length w.inner.procedures))) levels_are)
      ∙ ap (λ k. names_before (length w.inner.procedures) names ∷ k ∷ []) own_is

  world_is : world_inside r s b ≡ world_for predeclared names stands.own w m
  world_is =
      ap (λ ls. in_scope (world_in r s) (predeclared ∷ ls) (Some b.number)) inside_is
      ∙ ap (λ f. in_scope (world_in r s) (predeclared ∷ names_before (length w.inner.procedures) names ∷ stands.own ∷ []) (Some f)) waits.number
      ∙ ap (λ v. in_scope v (predeclared ∷ names_before (length w.inner.procedures) names ∷ stands.own ∷ []) (Some w.number)) (sym makes.world)

  module_is : r.module_number ≡ w.inner.world.module_number
  module_is = sym (stands.module_number ∙ ap (λ (v : World). v.module_number) makes.world)

  abbrev q : OneProcedure
  q = plain_procedure b.tree.now

  abbrev there : Making
  there = record w.inner { world = world_inside r s b }

  with_module : (st : Statements) (v : Option Checked) → judged_with r.source.now q w.heading there st v ≡ judged_with r.source.now q w.heading w.inner st v
  with_module st v = ap (λ k. record (judged_with r.source.now q w.heading w.inner st v) { module_number = k }) module_is

  pub body_came : (n : Numbered) → IsJudged r s b n → BodyCame r s b w n
  body_came n judged =
      came (completed r.source.now q w.heading there) (judged.each there w.heading refl waits.heading.result_is) (λ j keeps body. record {
        procedure = j;
        completed = record {
          so_far = c;
          upright = stands.upright;
          begins = subst (Begins w.inner.world.known.bases) (ap (λ (v : World). v.known.bases) makes.world) stands.known.bases;
          keeps = sym (completed_later c predeclared names w m stands r.source.now q there world_is refl) ∙ keeps;
          number = sym module_is;
        };
        body = record {
          statements = body.statements;
          value = body.value;
          same = body.same ∙ with_module body.statements body.value;
          texts = body.texts;
          body = body.body;
          answer = body.answer;
          body_stays = body.body_stays;
          answer_stays = body.answer_stays;
          in_turn = body.in_turn;
        };
      })
