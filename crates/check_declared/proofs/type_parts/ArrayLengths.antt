-- Lengths of arrays judged one after another.
use Rattle.std.proofs.Common.{◌≡◌, ℕ, List, [], ◌∷◌, ◌++◌, Bool, false, Option, None, Err, append_assoc, refl, sym, ap, ◌∙◌, subst}
use Rattle.ob_syntax.specs.Syntax as S
use Rattle.ob_syntax.specs.Plain.{plain_expression, plain_each_expression}
use Rattle.ob_syntax.specs.declared.expressions.NextExpression.{NextExpression, out-NextExpression}
use Rattle.check_operands.proofs.symbols.Parts.{next_expression_parts}
use Rattle.ob_judge.specs.Judged.{Judged, Keeps, Breaks, ◌>>=◌, ◌>>◌, rule, some}
use Rattle.ob_judge.specs.Scopes.{Source, World}
use Rattle.ob_judge.specs.Types.{array_length, array_lengths}
use Rattle.check_types.specs.steps.Answers.{Answers}
use Rattle.check_types.specs.declared.steps.fault.CheckFault.{CheckFault}
use Rattle.check_types.specs.declared.steps.fault.CheckFault.TheVariants.{Fault}
use Rattle.check_types.proofs.steps.Answering.{missing, broken}
use Rattle.check_declared.specs.type_parts.Lengths.{lengths_part, lengths_behind}

append_none : {A : Type 0} (xs : List A) → xs ++ [] ≡ xs
append_none [] = refl
append_none (x ∷ xs) = ap (λ ys. x ∷ ys) (append_none xs)

module _ (p : Source) (w : World) where
  abbrev pub lengths_from : List ℕ → List NextExpression → Judged (List ℕ)
  lengths_from before xs = lengths_behind p before (plain_each_expression xs) w

  abbrev pub length_item : List ℕ → NextExpression → Judged (List ℕ)
  length_item before x = array_length p (plain_expression (out-NextExpression x).expression) w >>= λ n. Keeps (before ++ n ∷ [])

  one_more : (before : List ℕ) (n : ℕ) (m : Judged (List ℕ)) → ((m >>= λ ns. Keeps (n ∷ ns)) >>= λ ns. Keeps (before ++ ns)) ≡ (m >>= λ ns. Keeps ((before ++ n ∷ []) ++ ns))
  one_more before n (Keeps ns) = ap Keeps (sym (append_assoc before (n ∷ []) ns))
  one_more before n (Breaks i at) = refl

  then_more : (before : List ℕ) (m : Judged ℕ) (k : Judged (List ℕ)) → ((m >>= λ n. k >>= λ ns. Keeps (n ∷ ns)) >>= λ ns. Keeps (before ++ ns)) ≡ ((m >>= λ n. Keeps (before ++ n ∷ [])) >>= λ z. k >>= λ ns. Keeps (z ++ ns))
  then_more before (Keeps n) k = one_more before n k
  then_more before (Breaks i at) k = refl

  pub lengths_law : (before : List ℕ) (x : NextExpression) (xs : List NextExpression) → lengths_from before (x ∷ xs) ≡ (length_item before x >>= λ z. lengths_from z xs)
  lengths_law before x xs =
      ap (λ e. lengths_behind p before e w) (next_expression_parts x xs)
      ∙ then_more before (array_length p (plain_expression (out-NextExpression x).expression) w) (array_lengths p (plain_each_expression xs) w)

  pub lengths_end : (before : List ℕ) → lengths_from before [] ≡ Keeps before
  lengths_end before = ap Keeps (append_none before)

  first_more : (m : Judged ℕ) (k : Judged (List ℕ)) → (m >>= λ n. k >>= λ ns. Keeps (n ∷ ns)) ≡ (m >>= λ n. k >>= λ ns. Keeps ((n ∷ []) ++ ns))
  first_more (Keeps n) k = refl
  first_more (Breaks i at) k = refl

  pub lengths_first : (e : S.Expression) (es : S.NextExpressions) → lengths_part p e es w ≡ (array_length p e w >>= λ n. lengths_behind p (n ∷ []) es w)
  lengths_first e es = first_more (array_length p e w) (array_lengths p es w)

-- ---- what isn't a length

pub no_number : {A A' B : Type 0} {S : B → A' → Type 0} {o : Option A} {e : CheckFault} (n at : ℕ) (f : A → Judged A') → o ≡ None → e ≡ Fault n at → Answers S (some n at o >>= f) (Err e)
no_number {S} {o} n at f i j = subst (λ (z : CheckFault). Answers S (some n at o >>= f) (Err z)) (sym j) (missing n at f i)

pub no_length : {A B : Type 0} {S : B → A → Type 0} {b : Bool} {e : CheckFault} (n at : ℕ) (m : Judged A) → b ≡ false → e ≡ Fault n at → Answers S (rule n at b >> m) (Err e)
no_length {S} {b} n at m i j = subst (λ (z : CheckFault). Answers S (rule n at b >> m) (Err z)) (sym j) (broken n at m i)
