-- The value of an expression with links behind it.
use Rattle.std.proofs.Common.{◌≡◌, ℕ, List, [], ◌∷◌, Vec, Box, Global, None, refl, ap, ◌∙◌}
use Rattle.ob_types.specs.Table.{Table}
use Rattle.ob_types.specs.declared.tree.Expr.{Expr}
use Rattle.ob_types.specs.declared.tree.Expr.TheVariants as TheExpr
use Rattle.ob_types.specs.declared.tree.Link.{Link}
use Rattle.ob_judge.specs.Image as I
use Rattle.ob_judge.specs.Operands.{fold, fold_link}
use Rattle.judged_tree.specs.Plain.{plain_expr, plain_link, guarded}
use Rattle.check_operands.specs.trees.Lists.{each_link}
use Rattle.check_operands.proofs.trees.Rows.{chain_is}
use Rattle.check_expressions.specs.folding.Links.{value_behind_each}

-- nothing gives a value to what has none
pub none_behind : (l : I.Link) → fold_link l None ≡ None
none_behind (I.Operate operator y) = refl
none_behind (I.And y) = refl
none_behind (I.Or y) = refl
none_behind (I.Element y) = refl
none_behind (I.Elements y z) = refl

-- nor has a variable, however it is guarded
pub guarded_folds : (tags : List ℕ) (x : I.Expr) → fold x ≡ None → fold (guarded tags x) ≡ None
guarded_folds [] x h = h
guarded_folds (r ∷ rs) x h = guarded_folds rs (I.Guard x r) refl

module _ (t : Table) (texts : List (List ℕ)) where
  pub none_behind_each : (ls : List Link) → value_behind_each t texts ls None ≡ None
  none_behind_each [] = refl
  none_behind_each (l ∷ ls) = ap (value_behind_each t texts ls) (none_behind (plain_link t texts l)) ∙ none_behind_each ls

  links_fold : (ls : List Link) (x : I.Expr) → fold (each_link t texts ls x) ≡ value_behind_each t texts ls (fold x)
  links_fold [] x = refl
  links_fold (l ∷ ls) x = links_fold ls (I.Linked x (plain_link t texts l))

  pub chain_folds : (x : Box Expr Global) (v : Vec Link Global) → fold (plain_expr t texts (TheExpr.Chain x v)) ≡ value_behind_each t texts v.items (fold (plain_expr t texts x.value))
  chain_folds x v = ap fold (chain_is t texts x v) ∙ links_fold v.items (plain_expr t texts x.value)
