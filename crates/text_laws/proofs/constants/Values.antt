-- What an expression folds to is what it means, construct by construct.
use Rattle.std.proofs.Common.{◌≡◌, ℕ, Bool, true, false, List, [], ◌∷◌, Option, Some, None, refl, sym, subst}
use Rattle.ob_types.specs.Store.{Act, Cell, Here}
use Rattle.ob_types.specs.Expressions.{Calls}
use Rattle.ob_types.specs.Meaning.{value, linked, link}
use Rattle.ob_types.specs.Table.{Table}
use Rattle.ob_types.specs.declared.program.Program.{Program}
use Rattle.ob_types.specs.declared.tree.Expr.{Expr, Literal, Routine, Load, Guard', Unary', Chain', Compare', CompareTexts', In', IsPointer', IsParameter, Byte', Length, Call', Row_of-Link, end_of-Link, more_of-Link}
use Rattle.ob_types.specs.declared.tree.Link.{Link, Operate, And, Or, Element, Elements'}
use Rattle.ob_judge.specs.Image as I
use Rattle.ob_judge.specs.Operands.{fold}
use Rattle.judged_tree.specs.Plain.{guarded, plain_expr, plain_links, plain_designator}
use Rattle.text_laws.specs.constants.Folding.{IsMeant, is_fixed}
use Rattle.text_laws.proofs.constants.Acts.{meant_unary, meant_byte, meant_binary, meant_relation, meant_member, meant_element, meant_range, meant_and, meant_or}

module _ (p : Program) (calls : Calls) (here : Here) (t : Table) (texts : List (List ℕ)) where
  abbrev Meant : I.Expr → Act Cell → Type 0
  Meant x a = IsMeant here.procedure (is_fixed x) (fold x) a

  -- of what has no value by the judgement, and isn't fixed, nothing is said; so it is with guards
  nothing : (x : I.Expr) (a : Act Cell) → is_fixed x ≡ false → fold x ≡ None → Meant x a
  nothing x a e f =
      subst (λ b. IsMeant here.procedure b (fold x) a) (sym e) (subst (λ o. IsMeant here.procedure false o a) (sym f) tt)

  guards : (rs : List ℕ) (x : I.Expr) (a : Act Cell) → is_fixed x ≡ false → fold x ≡ None → Meant (guarded rs x) a
  guards [] x a e f = nothing x a e f
  guards (r ∷ rs) x a e f = guards rs (I.Guard x r) a refl refl

  mutual
    pub meant : (x : Expr) → Meant (plain_expr t texts x) (value p calls here x)
    meant (Literal n) = refl
    meant (Routine g) = tt
    meant (Load d) = tt
    meant (Guard' n d rs) = guards rs (I.Load (plain_designator t texts d)) (value p calls here (Guard' n d rs)) refl refl
    meant (Unary' op _ x) = meant_unary here.procedure (is_fixed (plain_expr t texts x)) (fold (plain_expr t texts x)) op (value p calls here x) (meant x)
    meant (Chain' _ x _ links) = meant_links links (plain_expr t texts x) (value p calls here x) (meant x)
    meant (Compare' r _ x _ y) = meant_relation here.procedure (is_fixed (plain_expr t texts x)) (is_fixed (plain_expr t texts y)) (fold (plain_expr t texts x)) (fold (plain_expr t texts y)) r (value p calls here x) (value p calls here y) (meant x) (meant y)
    meant (CompareTexts' r _ d _ e) = tt
    meant (In' _ x _ s) = meant_member here.procedure (is_fixed (plain_expr t texts x)) (is_fixed (plain_expr t texts s)) (fold (plain_expr t texts x)) (fold (plain_expr t texts s)) (value p calls here x) (value p calls here s) (meant x) (meant s)
    meant (IsPointer' _ x r) = tt
    meant (IsParameter d r) = tt
    meant (Byte' _ x) = meant_byte here.procedure (is_fixed (plain_expr t texts x)) (fold (plain_expr t texts x)) (value p calls here x) (meant x)
    meant (Length d) = tt
    meant (Call' _ c) = tt

    meant_links : {m : _} (ls : Row_of-Link m) (x : I.Expr) (a : Act Cell) → Meant x a → Meant (plain_links t texts ls x) (linked p calls here ls a)
    meant_links end_of-Link x a h = h
    meant_links (more_of-Link (Operate op y) rest) x a h = meant_links rest _ _ (meant_binary here.procedure (is_fixed x) (is_fixed (plain_expr t texts y)) (fold x) (fold (plain_expr t texts y)) op a (value p calls here y) h (meant y))
    meant_links (more_of-Link (And y) rest) x a h = meant_links rest _ _ (meant_and here.procedure (is_fixed x) (is_fixed (plain_expr t texts y)) (fold x) (fold (plain_expr t texts y)) a (value p calls here y) h (meant y))
    meant_links (more_of-Link (Or y) rest) x a h = meant_links rest _ _ (meant_or here.procedure (is_fixed x) (is_fixed (plain_expr t texts y)) (fold x) (fold (plain_expr t texts y)) a (value p calls here y) h (meant y))
    meant_links (more_of-Link (Element y) rest) x a h = meant_links rest _ _ (meant_element here.procedure (is_fixed x) (is_fixed (plain_expr t texts y)) (fold x) (fold (plain_expr t texts y)) a (value p calls here y) h (meant y))
    meant_links (more_of-Link (Elements' _ y _ z) rest) x a h = meant_links rest _ _ (meant_range here.procedure (is_fixed x) (is_fixed (plain_expr t texts y)) (is_fixed (plain_expr t texts z)) (fold x) (fold (plain_expr t texts y)) (fold (plain_expr t texts z)) a (value p calls here y) (value p calls here z) h (meant y) (meant z))
