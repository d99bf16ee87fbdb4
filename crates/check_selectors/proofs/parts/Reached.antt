-- Pointers that are reached, and guards of them.
use Rattle.std.proofs.Common.{◌≡◌, ℕ, List, [], ◌∷◌, ◌++◌, Option, Some, None, Err, refl, sym, ap, ap₂, ◌∙◌, subst}
use Rattle.ob_judge.specs.Judged.{Judged, ◌>>=◌, some}
use Rattle.ob_judge.specs.Image as I
use Rattle.ob_judge.specs.Operands as J
use Rattle.ob_judge.specs.Shapes.{Shape}
use Rattle.judged_tree.specs.Plain.{guarded, pointer_at}
use Rattle.judged_tree.specs.Outline.{outlined_expr, outlined_pointer, outlined_place}
use Rattle.check_types.specs.steps.Answers.{Answers}
use Rattle.check_types.specs.declared.steps.fault.CheckFault.{CheckFault}
use Rattle.check_types.specs.declared.steps.fault.CheckFault.TheVariants.{Fault}
use Rattle.check_types.proofs.steps.Answering.{missing}
use Rattle.check_operands.specs.declared.trees.places.Place.{Place}
use Rattle.check_types.specs.declared.types.TypeRef.{TypeRef}
use Rattle.check_types.specs.TypeMeaning.{type_shape, kind_of_type}
use Rattle.check_types.specs.declared.names.scope.Scope.{Scope}
use Rattle.check_types.specs.declared.names.scope.VariablePlace.{VariablePlace}
use Rattle.check_types.specs.declared.names.scope.VariablePlace.TheVariants as ThePlace
use Rattle.check_types.specs.names.Meaning.{place_of}
use Rattle.check_types.specs.names.Worlds.{table_of}
use Rattle.check_operands.specs.Operands.{bases_of}
use Rattle.check_operands.proofs.Forms.{kind_is}
use Rattle.check_selectors.specs.parts.Parts.{IsNamedAt, IsGuarded, IsGuardedForm, image_in, load_of}

pub placed_outlined : (bases : List (Option ℕ)) (p : VariablePlace) → place_of p ≡ outlined_place bases (place_of p)
placed_outlined bases ThePlace.Done = refl
placed_outlined bases (ThePlace.Global m v) = refl
placed_outlined bases (ThePlace.Local v) = refl
placed_outlined bases (ThePlace.Parameter n) = refl

-- there is none, and the fault says so
pub refused : {A A' B : Type 0} {S : B → A' → Type 0} {o : Option A} {e : CheckFault} (number at : ℕ) (f : A → Judged A') →
    e ≡ Fault number at → o ≡ None → Answers S (some number at o >>= f) (Err e)
refused {S} {o} number at f h n = subst (λ (z : CheckFault). Answers S (some number at o >>= f) (Err z)) (sym h) (missing number at f n)

guarded_more : (tags : List ℕ) (r : ℕ) (x : I.Expr) → guarded (tags ++ r ∷ []) x ≡ I.Guard (guarded tags x) r
guarded_more [] r x = refl
guarded_more (t ∷ tags) r x = guarded_more tags r (I.Guard x t)

pub load_is : (s : Scope) (place : Place) (own : TypeRef) (at : I.Place) (shape : Shape) → image_in s place ≡ outlined_place (bases_of s) at → type_shape (table_of s) own ≡ shape →
    load_of s place own ≡ outlined_expr (bases_of s) (I.Load (I.of_type at shape))
load_is s place own at shape e h = ap₂ (λ d k. I.Load (I.of_type d k)) e (kind_is (table_of s) (bases_of s) own shape (kind_of_type (bases_of s) own) refl h)

pub named_form : (s : Scope) (place : Place) (own : TypeRef) (a : J.Operand) → type_shape (table_of s) own ≡ a.shape → IsNamedAt s place a.what → IsGuardedForm s place own [] a
named_form s place own a h n = record {
  form = load_is s place own n.at a.shape n.placed h ∙ ap (λ w. outlined_expr (bases_of s) (J.form_in a.shape w)) (sym n.is);
  pointer = ap pointer_at n.placed ∙ ap (λ w. outlined_pointer (bases_of s) (J.form_in a.shape w)) (sym n.is);
}

pub guarded_form : (s : Scope) (place : Place) (own : TypeRef) (tags : List ℕ) (a : J.Operand) → IsGuarded s place own tags a.what → IsGuardedForm s place own tags a
guarded_form s place own tags a g = record {
  form = g.form ∙ ap (λ w. outlined_expr (bases_of s) (J.form_in a.shape w)) (sym g.is);
  pointer = g.pointer ∙ ap (λ w. outlined_pointer (bases_of s) (J.form_in a.shape w)) (sym g.is);
}

-- one guard more
pub guard_more : (s : Scope) (place : Place) (own : TypeRef) (tags more : List ℕ) (r : ℕ) (x : I.Expr) → more ≡ tags ++ r ∷ [] →
    guarded tags (load_of s place own) ≡ outlined_expr (bases_of s) x → guarded tags (pointer_at (image_in s place)) ≡ outlined_pointer (bases_of s) x → IsGuarded s place own more (J.Valued (I.Guard x r))
guard_more s place own tags more r x e f g = record {
  value = I.Guard x r;
  is = refl;
  form = ap (λ ts. guarded ts (load_of s place own)) e ∙ guarded_more tags r (load_of s place own) ∙ ap (λ z. I.Guard z r) f;
  pointer = ap (λ ts. guarded ts (pointer_at (image_in s place))) e ∙ guarded_more tags r (pointer_at (image_in s place)) ∙ ap (λ z. I.Guard z r) g;
}
