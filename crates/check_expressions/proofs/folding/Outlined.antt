-- The value of an expression is that of its outline.
use Rattle.std.proofs.Common.{◌≡◌, ℕ, List, Option, Some, refl, ap, ap₂, ◌∙◌}
use Rattle.std.specs.Prelude.{bit_or}
use Rattle.ob_types.specs.Operators.{elements}
use Rattle.ob_judge.specs.Image.{Expr, Literal, Routine, Load, Guard, Apply, Linked, Compare, CompareTexts, In, IsPointer, IsParameter, AsByte, Length, Result, Link, Operate, And, Or, Element, Elements}
use Rattle.ob_judge.specs.Operands.{of_one, of_two, element_only, both_of, either_of, fold, fold_link}
use Rattle.judged_tree.specs.Outline.{outlined_expr, outlined_link}

module _ (bases : List (Option ℕ)) where
  mutual
    pub outline_folds : (x : Expr) → fold (outlined_expr bases x) ≡ fold x
    outline_folds (Literal n) = refl
    outline_folds (Apply operator x) = ap (of_one _) (outline_folds x)
    outline_folds (Linked x l) = link_folds l (fold (outlined_expr bases x)) ∙ ap (fold_link l) (outline_folds x)
    outline_folds (Compare r x y) = ap₂ (of_two _) (outline_folds x) (outline_folds y)
    outline_folds (In x s) = ap₂ (of_two _) (outline_folds x) (outline_folds s)
    outline_folds (AsByte x) = ap (of_one _) (outline_folds x)
    outline_folds (Routine f) = refl
    outline_folds (Load d) = refl
    outline_folds (Guard x tag) = refl
    outline_folds (CompareTexts r d e) = refl
    outline_folds (IsPointer x tag) = refl
    outline_folds (IsParameter d tag) = refl
    outline_folds (Length d) = refl
    outline_folds (Result c) = refl

    link_folds : (l : Link) (o : Option ℕ) → fold_link (outlined_link bases l) o ≡ fold_link l o
    link_folds (Operate operator y) o = ap (of_two _ o) (outline_folds y)
    link_folds (And y) o = ap (both_of o) (outline_folds y)
    link_folds (Or y) o = ap (either_of o) (outline_folds y)
    link_folds (Element y) o = ap (of_two _ o) (outline_folds y)
    link_folds (Elements y z) o = ap₂ (λ a b. of_two (λ u v. of_one (λ d. element_only d (λ e. element_only v (λ g. Some (bit_or u (elements e g))))) a) o b) (outline_folds y) (outline_folds z)
