-- Destinations, and results.
use Rattle.std.proofs.Common.{◌≡◌, ℕ, List, [], ◌∷◌, length, nat_eq, Bool, true, false, not, Option, Some, None, Result, Err, refl, sym, subst, ◌∙◌}
use Rattle.ob_types.proofs.Tests.{no}
use Rattle.ob_syntax.specs.Plain.{plain_expression, plain_each_selector, plain_returned}
use Rattle.ob_syntax.specs.declared.expressions.Selector.{Selector}
use Rattle.ob_syntax.specs.declared.declarations.Returned.{Returned}
use Rattle.ob_judge.specs.Judged.{Judged, Keeps, Breaks, ◌>>=◌, ◌>>◌, rule, some}
use Rattle.ob_judge.specs.Shapes.{Shape, Integer}
use Rattle.ob_judge.specs.Image.{Designator, of_type}
use Rattle.ob_judge.specs.Image as I
use Rattle.ob_judge.specs.Scopes.{Object, AConstant, AType, AVariable, AProcedure, AStandard, AModule, Variable, Source, World, place}
use Rattle.ob_judge.specs.Operands.{Operand, designator_of, whole_variable}
use Rattle.ob_judge.specs.Calls.{stored, may_assign}
use Rattle.ob_judge.specs.Symbols.{expression_first}
use Rattle.ob_judge.specs.Parts.{is_nothing}
use Rattle.ob_judge.specs.Expressions.{expression}
use Rattle.ob_judge.specs.Assignments.{whole_object, integer_variable}
use Rattle.check_types.specs.steps.Answers.{Answers}
use Rattle.check_types.specs.declared.steps.fault.CheckFault.{CheckFault}
use Rattle.check_types.specs.declared.steps.fault.CheckFault.TheVariants.{Fault}
use Rattle.check_types.proofs.steps.Answering.{missing}
use Rattle.ob_judge.specs.Declarations.{answer}
use Rattle.check_statements.specs.assignments.Assigned.{returned}

module _ (w : World) where
  -- a part of a variable is the destination
  pub other_part : (o : Object) (ss : List Selector) (other : Judged Operand) (b : Bool) → b ≡ nat_eq (length ss) 0 → b ≡ false → whole_object w o (plain_each_selector ss) other ≡ other
  other_part o [] other b h i = no (sym i ∙ h)
  other_part (AVariable v) (s ∷ ss) other b h i = refl
  other_part (AConstant c) (s ∷ ss) other b h i = refl
  other_part (AType t) (s ∷ ss) other b h i = refl
  other_part (AProcedure n t l) (s ∷ ss) other b h i = refl
  other_part (AStandard s') (s ∷ ss) other b h i = refl
  other_part (AModule m) (s ∷ ss) other b h i = refl

-- ---- results

answered_by : (at bt : ℕ) (b d : Bool) (c : I.Checked) → (rule 41 at b >> (rule 31 bt d >> Keeps (Some c))) ≡ ((rule 41 at b >> (rule 31 bt d >> Keeps c)) >>= λ z. Keeps (Some z))
answered_by at bt true true c = refl
answered_by at bt true false c = refl
answered_by at bt false d c = refl

answered : (at bt : ℕ) (b : Bool) (m : Judged Operand) (f : Operand → Bool) (g : Operand → I.Checked) →
    (m >>= λ x. rule 41 at b >> (rule 31 bt (f x) >> Keeps (Some (g x)))) ≡ ((m >>= λ x. rule 41 at b >> (rule 31 bt (f x) >> Keeps (g x))) >>= λ z. Keeps (Some z))
answered at bt b (Keeps x) f g = answered_by at bt b (f x) (g x)
answered at bt b (Breaks n k) f g = refl

pub answer_is : (p : Source) (w : World) (t : Shape) (end_word : ℕ) (r : Returned) → answer p t end_word (Some (plain_returned r)) w ≡ (returned p w t r >>= λ c. Keeps (Some c))
answer_is p w t end_word r = answered (place p r.return_word) (place p (expression_first (plain_expression r.value))) (not (is_nothing t)) (expression p w (plain_expression r.value)) (λ x. may_assign w.known t x) (λ x. stored t x)

-- ---- FOR

pub integer_is : (p : Source) (w : World) (v : Variable) → v.shape ≡ Integer → integer_variable w (AVariable v) ≡ Some (designator_of (whole_variable w v))
integer_is p w v h = subst (λ s. (elim s as (λ _. Option Designator) [ Integer ↦ Some (of_type v.place Integer) | other ↦ None ]) ≡ Some (of_type v.place s)) (sym h) refl

pub missing_so : {A A' B : Type 0} {S : B → A' → Type 0} {o : Option A} {e : CheckFault} (n at : ℕ) (f : A → Judged A') → o ≡ None → e ≡ Fault n at → Answers S (some n at o >>= f) (Err e)
missing_so {S} {o} n at f i j = subst (λ (z : CheckFault). Answers S (some n at o >>= f) (Err z)) (sym j) (missing n at f i)
