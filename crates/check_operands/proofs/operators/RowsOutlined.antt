-- Links as far as a checked tree tells of them, and which comparison it is.
use Rattle.std.proofs.Common.{◌≡◌, ℕ, List, Option, true, false, if◌then◌else◌, refl, ap, ◌∙◌}
use Rattle.ob_types.specs.declared.tree.Relation.{Relation}
use Rattle.ob_types.specs.declared.tree.Relation.TheVariants as TheRelation
use Rattle.ob_judge.specs.Image.{Expr, Linked, Compare, CompareTexts}
use Rattle.ob_judge.specs.Scopes.{Source, World}
use Rattle.ob_judge.specs.Operators.{are_texts, are_included}
use Rattle.ob_judge.specs.Operands.{Operand, form, designator_of}
use Rattle.ob_judge.specs.Parts.{comparison, inclusion}
use Rattle.judged_tree.specs.Outline.{outlined_expr, outlined_link}
use Rattle.check_operands.specs.declared.operators.rows.Row.{Row}
use Rattle.check_operands.specs.declared.operators.rows.Row.TheVariants as TheRow
use Rattle.check_operands.specs.operators.Rows.{row_link}
use Rattle.check_operands.specs.operators.Judged.{inclusion_link_of}

pub link_outlined : (bases : List (Option ℕ)) (row : Row) (y : Expr) → row_link row (outlined_expr bases y) ≡ outlined_link bases (row_link row y)
link_outlined bases (TheRow.Numbers b) y = refl
link_outlined bases (TheRow.Sets b) y = refl
link_outlined bases TheRow.Both y = refl
link_outlined bases TheRow.Either y = refl

pub inclusion_outlined : (bases : List (Option ℕ)) (r : Relation) (y : Expr) → inclusion_link_of r (outlined_expr bases y) ≡ outlined_link bases (inclusion_link_of r y)
inclusion_outlined bases TheRelation.Equal y = refl
inclusion_outlined bases TheRelation.Unequal y = refl
inclusion_outlined bases TheRelation.Less y = refl
inclusion_outlined bases TheRelation.LessEqual y = refl
inclusion_outlined bases TheRelation.Greater y = refl
inclusion_outlined bases TheRelation.GreaterEqual y = refl

inclusion_is : (p : Source) (w : World) (r : Relation) (x y : Expr) → inclusion r x y ≡ Linked x (inclusion_link_of r y)
inclusion_is p w TheRelation.Equal x y = refl
inclusion_is p w TheRelation.Unequal x y = refl
inclusion_is p w TheRelation.Less x y = refl
inclusion_is p w TheRelation.LessEqual x y = refl
inclusion_is p w TheRelation.Greater x y = refl
inclusion_is p w TheRelation.GreaterEqual x y = refl

-- of two sets
pub comparison_included : (p : Source) (w : World) (r : Relation) (a b : Operand) → are_texts a.shape b.shape ≡ false → are_included r a.shape b.shape ≡ true →
    comparison r a b ≡ Linked (form a) (inclusion_link_of r (form b))
comparison_included p w r a b e f =
    ap (λ c. if c then CompareTexts r (designator_of a) (designator_of b) else if are_included r a.shape b.shape then inclusion r (form a) (form b) else Compare r (form a) (form b)) e
    ∙ ap (λ c. if c then inclusion r (form a) (form b) else Compare r (form a) (form b)) f
    ∙ inclusion_is p w r (form a) (form b)
