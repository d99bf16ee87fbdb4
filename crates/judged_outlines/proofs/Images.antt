-- Images whose pointer types there are: they are outlined alike by all later ones. First of operands.
use Rattle.std.proofs.Common.{◌≡◌, ℕ, ◌<◌, List, [], ◌∷◌, Option, refl, ap, ap₂}
use Rattle.std.specs.Prelude.{slice_get}
use Rattle.ob_judge.specs.Shapes.{Shape, Integer, Byte, Nothing, Pointer}
use Rattle.ob_judge.specs.Shapes.{Text as TextShape}
use Rattle.ob_judge.specs.Image.{Expr, Literal, Load, Guard, AsByte, Designator, of_type, Place, Done, Global, Local, Parameter, Text, Statement, Checked}
use Rattle.ob_judge.specs.Operands.{What, Named, Valued, Chars, Code, Proper, Operand, form_in, form, value_shape, checked, place_in, place_of, designator_of}
use Rattle.ob_judge.specs.Calls.{stored}
use Rattle.judged_tree.specs.Outline.{record_or_zero, outlined_shape, outlined_expr, outlined_designator, outlined_place, outlined_pointer, outlined_statement, outlined_checked}
use Rattle.judged_outlines.specs.Among.{PointsAmong, IsDeclaredPlace}

load_place : (a b : Place) (s u : Shape) → Load (of_type a s) ≡ Load (of_type b u) → a ≡ b
load_place a b s u h = cc

guard_inner : (x y : Expr) (r : ℕ) → Guard x r ≡ Guard y r → x ≡ y
guard_inner x y r h = cc

module _ (n : ℕ) (before later : List (Option ℕ)) (same : (k : ℕ) → k < n → slice_get later k ≡ slice_get before k) where
  pub shape_stays : (s : Shape) → PointsAmong n s → outlined_shape later s ≡ outlined_shape before s
  shape_stays (Pointer k) h = ap (λ o. Pointer (record_or_zero o)) (same k h)
  shape_stays Integer h = refl
  shape_stays _ h = refl

  abbrev pub ExprStays : Expr → Type 0
  ExprStays x = outlined_expr later x ≡ outlined_expr before x

  abbrev pub PlaceStays : Place → Type 0
  PlaceStays d = outlined_place later d ≡ outlined_place before d

  abbrev pub DesignatorStays : Designator → Type 0
  DesignatorStays d = outlined_designator later d ≡ outlined_designator before d

  abbrev pub CheckedStays : Checked → Type 0
  CheckedStays x = outlined_checked later x ≡ outlined_checked before x

  abbrev pub StatementStays : Statement → Type 0
  StatementStays x = outlined_statement later x ≡ outlined_statement before x

  abbrev pub WhatStays : What → Type 0
  WhatStays (Named d) = PlaceStays d
  WhatStays (Valued x) = ExprStays x
  WhatStays (Proper x) = StatementStays x
  WhatStays k = Unit {0}

  -- an operand whose type and image name pointer types that there are
  pub record OperandStays (x : Operand) : Type 0 where
    pub shape : PointsAmong n x.shape
    pub what : WhatStays x.what

  form_of : (s : Shape) (k : What) → PointsAmong n s → WhatStays k → ExprStays (form_in s k)
  form_of s (Named d) g h = ap₂ (λ a b. Load (of_type a b)) h (shape_stays s g)
  form_of s (Valued x) g h = h
  form_of s (Chars []) g h = refl
  form_of s (Chars (c ∷ cs)) g h = refl
  form_of s (Code f l) g h = refl
  form_of s (Proper x) g h = refl

  pub form_stays : (x : Operand) → OperandStays x → ExprStays (form x)
  form_stays x h = form_of x.shape x.what h.shape h.what

  place_at : (k : What) → WhatStays k → PlaceStays (place_in k)
  place_at (Named d) h = h
  place_at (Chars cs) h = refl
  place_at (Valued x) h = refl
  place_at (Code f l) h = refl
  place_at (Proper x) h = refl

  pub place_stays : (x : Operand) → OperandStays x → PlaceStays (place_of x)
  place_stays x h = place_at x.what h.what

  pub designator_stays : (x : Operand) → OperandStays x → DesignatorStays (designator_of x)
  designator_stays x h = ap₂ (λ a b. of_type a b) (place_stays x h) (shape_stays x.shape h.shape)

  value_among : (s : Shape) → PointsAmong n s → PointsAmong n (value_shape s)
  value_among (TextShape k) h = tt
  value_among Integer h = h
  value_among _ h = h

  pub checked_stays : (x : Operand) → OperandStays x → CheckedStays (checked x)
  checked_stays x h = ap₂ (λ a b. record { form = a; shape = b }) (form_stays x h) (shape_stays (value_shape x.shape) (value_among x.shape h.shape))

  pub stored_stays : (t : Shape) (x : Operand) → OperandStays x → CheckedStays (stored t x)
  stored_stays Byte x h = ap (λ a. record { form = AsByte a; shape = Byte }) (form_stays x h)
  stored_stays Integer x h = checked_stays x h
  stored_stays _ x h = checked_stays x h

  pub stored_form : (t : Shape) (x : Operand) → OperandStays x → ExprStays (stored t x).form
  stored_form Byte x h = ap AsByte (form_stays x h)
  stored_form Integer x h = form_stays x h
  stored_form _ x h = form_stays x h

  -- a pointer that is followed
  pub pointer_stays : (x : Expr) → ExprStays x → outlined_pointer later x ≡ outlined_pointer before x
  pointer_stays (Load (of_type d s)) h = ap (λ a. Load (of_type a Nothing)) (load_place (outlined_place later d) (outlined_place before d) (outlined_shape later s) (outlined_shape before s) h)
  pointer_stays (Guard x r) h = ap (λ a. Guard a r) (pointer_stays x (guard_inner (outlined_expr later x) (outlined_expr before x) r h))
  pointer_stays (Literal bits) h = refl
  pointer_stays _ h = refl

  pub declared_stays : (d : Place) → IsDeclaredPlace d → PlaceStays d
  declared_stays Done h = refl
  declared_stays (Global m v) h = refl
  declared_stays (Local v) h = refl
  declared_stays (Parameter k) h = refl
  declared_stays (Text cs) h = refl
  declared_stays _ h = absurd h
