-- Operands as values and designators, by what they are.
use Rattle.std.proofs.Common.{◌≡◌, ℕ, List, [], ◌∷◌, Option, Some, None, refl, sym, ap, ◌∙◌}
use Rattle.ob_types.specs.Table.{Table}
use Rattle.ob_types.specs.declared.types.TypeKind.{TypeKind}
use Rattle.ob_judge.specs.Shapes.{Shape}
use Rattle.ob_judge.specs.Image as I
use Rattle.ob_judge.specs.Operands as J
use Rattle.judged_tree.specs.TypeShapes.{shape_of_kind}
use Rattle.judged_tree.specs.Outline.{outlined_shape, outlined_expr, outlined_place, outlined_designator}
use Rattle.check_types.specs.declared.types.TypeRef.{TypeRef}
use Rattle.check_types.specs.declared.types.TypeRef.TheVariants as TheType
use Rattle.check_types.specs.TypeMeaning.{type_shape, kind_of_type}
use Rattle.check_operands.specs.Operands.{outlined_what, first_or_none}

-- a type beside a tree is the outline of what it means
pub kind_outlined : (t : Table) (bases : List (Option ℕ)) (k : TypeRef) → shape_of_kind t (kind_of_type bases k) ≡ outlined_shape bases (type_shape t k)
kind_outlined t bases TheType.Int = refl
kind_outlined t bases TheType.Bool = refl
kind_outlined t bases TheType.Char = refl
kind_outlined t bases TheType.Byte = refl
kind_outlined t bases TheType.Set = refl
kind_outlined t bases TheType.Nil = refl
kind_outlined t bases TheType.Nothing = refl
kind_outlined t bases (TheType.Text n) = refl
kind_outlined t bases (TheType.Array n e) = refl
kind_outlined t bases (TheType.Open e) = refl
kind_outlined t bases (TheType.Record r) = refl
kind_outlined t bases (TheType.Pointer p) = refl
kind_outlined t bases (TheType.Procedure g) = refl

pub kind_is : (t : Table) (bases : List (Option ℕ)) (k : TypeRef) (s : Shape) (kind : TypeKind) → kind ≡ kind_of_type bases k → type_shape t k ≡ s → shape_of_kind t kind ≡ outlined_shape bases s
kind_is t bases k s kind e h = ap (λ z. shape_of_kind t z) e ∙ kind_outlined t bases k ∙ ap (outlined_shape bases) h

module _ (bases : List (Option ℕ)) (s : Shape) where
  pub form_named : (d : I.Place) (w : J.What) → J.Named d ≡ outlined_what bases w → I.Load (I.of_type d (outlined_shape bases s)) ≡ outlined_expr bases (J.form_in s w)
  form_named d (J.Named e) h = let k : d ≡ outlined_place bases e = cc in ap (λ z. I.Load (I.of_type z (outlined_shape bases s))) k
  form_named d w h = cc

  pub form_valued : (x : I.Expr) (w : J.What) → J.Valued x ≡ outlined_what bases w → x ≡ outlined_expr bases (J.form_in s w)
  form_valued x (J.Valued y) h = cc
  form_valued x w h = cc

  pub form_chars : (cs : List ℕ) (w : J.What) → J.Chars cs ≡ outlined_what bases w → I.Literal (first_or_none cs) ≡ outlined_expr bases (J.form_in s w)
  form_chars cs (J.Chars []) h = let e : cs ≡ [] = cc in ap (λ z. I.Literal (first_or_none z)) e
  form_chars cs (J.Chars (d ∷ ds)) h = let e : cs ≡ d ∷ ds = cc in ap (λ z. I.Literal (first_or_none z)) e
  form_chars cs w h = cc

  pub form_code : (f : ℕ) (l : _) (w : J.What) → J.Code f l ≡ outlined_what bases w → I.Routine f ≡ outlined_expr bases (J.form_in s w)
  form_code f l (J.Code g m) h = cc
  form_code f l w h = cc

  pub form_proper : (d : I.Statement) (w : J.What) → J.Proper d ≡ outlined_what bases w → I.Literal 0 ≡ outlined_expr bases (J.form_in s w)
  form_proper d (J.Proper e) h = refl
  form_proper d w h = cc

-- where it stands
module _ (bases : List (Option ℕ)) where
  pub place_named : (d : I.Place) (w : J.What) → J.Named d ≡ outlined_what bases w → d ≡ outlined_place bases (J.place_in w)
  place_named d (J.Named e) h = cc
  place_named d w h = cc

  pub place_chars : (cs : List ℕ) (w : J.What) → J.Chars cs ≡ outlined_what bases w → I.Text cs ≡ outlined_place bases (J.place_in w)
  place_chars cs (J.Chars ds) h = cc
  place_chars cs w h = cc

  pub place_valued : (x : I.Expr) (w : J.What) → J.Valued x ≡ outlined_what bases w → I.Done ≡ outlined_place bases (J.place_in w)
  place_valued x (J.Valued y) h = refl
  place_valued x w h = cc

  pub place_code : (f : ℕ) (l : _) (w : J.What) → J.Code f l ≡ outlined_what bases w → I.Done ≡ outlined_place bases (J.place_in w)
  place_code f l (J.Code g m) h = refl
  place_code f l w h = cc

  pub place_proper : (d : I.Statement) (w : J.What) → J.Proper d ≡ outlined_what bases w → I.Done ≡ outlined_place bases (J.place_in w)
  place_proper d (J.Proper e) h = refl
  place_proper d w h = cc
