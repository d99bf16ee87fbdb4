-- An image is well-formed where its outline is.
use Rattle.std.proofs.Common.{◌≡◌, ℕ, List, Bool, true, ◌&&◌, Option, Some, None, refl, ap, ap₂, ◌∙◌}
use Rattle.std.specs.Prelude.{slice_get, option_map}
use Rattle.ob_types.specs.WellFormed.{provided, holds_of, with_some, is_step, lengths_fit}
use Rattle.ob_judge.specs.Shapes.{Shape, Pointer, Integer, Formals, none, one, base_of}
use Rattle.ob_judge.specs.Image.{Expr, Literal, Routine, Load, Guard, Apply, Linked, Compare, CompareTexts, In, IsPointer, IsParameter, AsByte, Length, Result, Link, Operate, And, Or, Element, Elements, Designator, of_type, Place, Done, Global, Local, Parameter, Text, Index, Field, Dereference, Narrow, Call, Direct, Indirect, Arguments, no_argument, next_argument, Argument, ByValue, ByPlace, ByRecord, ByOpen, Checked}
use Rattle.ob_judge.specs.Image.{Statement, Assign, CopyArray, CopyRecord, Increase, Decrease, Include, Exclude, New, Assert, OutChar, OutInt, OutString, InChar, OutLn, Invoke, If, While, Repeat, For, Case, CasePointer, CaseParameter, Statements, no_statement, next_statement, Branches, no_branch, next_branch, Parts, no_part, next_part}
use Rattle.judged_tree.specs.Outline.{record_or_zero, outlined_shape, outlined_expr, outlined_link, outlined_designator, outlined_place, outlined_pointer, untyped, outlined_call, outlined_arguments, outlined_argument, outlined_checked, outlined_statement, outlined_statements, outlined_branches, outlined_parts}
use Rattle.judged_well.specs.Forms.{Form, Zero, Routines, Truth, Small, Number, ToRecord, Of, Dynamic, gives_number, gives_truth, gives_pointer, comparable, unary_form, binary_form, is_writable, is_dynamic, is_small, is_full, changes, pointed}
use Rattle.judged_well.specs.Setting.{Setting}
use Rattle.judged_well.specs.Typing.{or_zero, outline, form, link_form, designated, named, pointer, length_in, record_written, shape_in, call_suits, call_form, all_suit, argument_suits, checked_form, scalar, scalar_in, of_shape, array_of, has_record, is_text, any_array, value_suits, place_argument, record_argument, open_argument, record_by, open_element, suits_through, result_through, shape_suits, length_of_shape, record_in, element_in, is_byte, may_copy, takes, points_to, given_for, fine, fine_all, fine_branches, fine_parts, has_branch, when_fine, is_base, begins_there}
use Rattle.judged_well.specs.Typing.{untyped as untyped_form}
use Rattle.ob_judge.specs.Parameters.{mode_of}

base_or_zero : (o : Option (Option ℕ)) → or_zero (base_of o) ≡ record_or_zero o
base_or_zero None = refl
base_or_zero (Some None) = refl
base_or_zero (Some (Some r)) = refl

module _ (e : Setting) (bases : List (Option ℕ)) (targets : (n : ℕ) → e.target n ≡ base_of (slice_get bases n)) where
  abbrev as_written : Shape → Shape
  as_written s = s

  shape_same : (s : Shape) → outline e s ≡ outlined_shape bases s
  shape_same (Pointer n) = ap (λ r. Pointer r) (ap or_zero (targets n) ∙ base_or_zero (slice_get bases n))
  shape_same Integer = refl
  shape_same _ = refl

  direct_same : (o : Option (Formals × Shape)) (f g : Formals → Bool) → ((ps : Formals) → f ps ≡ g ps) → holds_of {A = Formals × Shape} (λ h. f h.0) o ≡ holds_of {A = Formals × Shape} (λ h. g h.0) o
  direct_same None f g h = refl
  direct_same (Some k) f g h = h k.0

  through_same : (o : Option Form) (f g : Formals → Bool) → ((ps : Formals) → f ps ≡ g ps) → holds_of (suits_through e f) o ≡ holds_of (suits_through e g) o
  through_same None f g h = refl
  through_same (Some (Routines ps s)) f g h = h ps
  through_same (Some Zero) f g h = refl
  through_same (Some _) f g h = refl

  indirect_same : (o q : Option Form) → o ≡ q → (f g : Formals → Bool) → ((ps : Formals) → f ps ≡ g ps) → holds_of (suits_through e f) o ≡ holds_of (suits_through e g) q
  indirect_same o q i f g h = through_same o f g h ∙ ap (λ x. holds_of (suits_through e g) x) i

  mutual
    pub o_expr : (x : Expr) → form e (outline e) x ≡ form e as_written (outlined_expr bases x)
    o_expr (Literal n) = refl
    o_expr (Routine f) = refl
    o_expr (Load d) = ap (λ o. with_some o (scalar_in e)) (o_designator d)
    o_expr (Guard x r) = ap (λ o. provided (e.is_record r) (provided (gives_pointer o) (Some (ToRecord r)))) (o_expr x)
    o_expr (Apply op x) = ap (λ o. provided (gives_number o) (Some (unary_form op))) (o_expr x)
    o_expr (Linked x l) = o_link l (form e (outline e) x) (form e as_written (outlined_expr bases x)) (o_expr x)
    o_expr (Compare r x y) = ap₂ (λ o q. with_some o (λ a. with_some q (λ b. provided (comparable r a b) (Some Truth)))) (o_expr x) (o_expr y)
    o_expr (CompareTexts r d f) = ap₂ (λ a b. provided a (provided b (Some Truth))) (ap₂ (λ n o. holds_of (is_text n) o) (o_length d) (o_designator d)) (ap₂ (λ n o. holds_of (is_text n) o) (o_length f) (o_designator f))
    o_expr (In x y) = ap₂ (λ o q. provided (gives_number o) (provided (gives_number q) (Some Truth))) (o_expr x) (o_expr y)
    o_expr (IsPointer x r) = ap (λ o. provided (e.is_record r) (provided (gives_pointer o) (Some Truth))) (o_expr x)
    o_expr (IsParameter d r) = ap (λ o. provided (e.is_record r) (provided (holds_of is_dynamic o) (Some Truth))) (o_designator d)
    o_expr (AsByte x) = ap (λ o. provided (gives_number o) (Some Small)) (o_expr x)
    o_expr (Length d) = ap (λ b. provided b (Some Number)) (ap₂ (λ n o. holds_of (any_array n) o) (o_length d) (o_designator d))
    o_expr (Result c) = ap₂ (λ b o. provided b o) (o_call c) (o_result c)

    o_link : (l : Link) (o q : Option Form) → o ≡ q → link_form e (outline e) l o ≡ link_form e as_written (outlined_link bases l) q
    o_link (Operate op y) o q h = ap₂ (λ a b. provided (gives_number a) (provided (gives_number b) (Some (binary_form op)))) h (o_expr y)
    o_link (And y) o q h = ap₂ (λ a b. provided (gives_truth a) (provided (gives_truth b) (Some Truth))) h (o_expr y)
    o_link (Or y) o q h = ap₂ (λ a b. provided (gives_truth a) (provided (gives_truth b) (Some Truth))) h (o_expr y)
    o_link (Element y) o q h = ap₂ (λ a b. provided (gives_number a) (provided (gives_number b) (Some Number))) h (o_expr y)
    o_link (Elements y z) o q h = ap₂ (λ a b. provided (gives_number a) b) h (ap₂ (λ a b. provided (gives_number a) (provided (gives_number b) (Some Number))) (o_expr y) (o_expr z))

    pub o_designator : (d : Designator) → designated e (outline e) d ≡ designated e as_written (outlined_designator bases d)
    o_designator (of_type place s) = ap₂ (λ o u. with_some o (of_shape e u)) (o_place place) (shape_same s)

    o_length : (d : Designator) → length_in e (outline e) d ≡ length_in e as_written (outlined_designator bases d)
    o_length (of_type place s) = ap length_of_shape (shape_same s)

    o_record : (d : Designator) → record_written e (outline e) d ≡ record_written e as_written (outlined_designator bases d)
    o_record (of_type place s) = ap record_in (shape_same s)

    o_place : (d : Place) → named e (outline e) d ≡ named e as_written (outlined_place bases d)
    o_place Done = refl
    o_place (Global m v) = refl
    o_place (Local v) = refl
    o_place (Parameter k) = refl
    o_place (Text cs) = refl
    o_place (Index array n element x) = ap₂ (λ o c. with_some o (λ t. provided (array_of element n t) (provided (gives_number c) (Some (Of element (is_writable t)))))) (o_place array) (o_expr x)
    o_place (Field whole r number) = ap (λ o. with_some o (λ t. provided (has_record e r t) (option_map (λ s. Of s (is_writable t)) (e.field r number)))) (o_place whole)
    o_place (Dereference x) = ap (λ o. with_some o pointed) (o_pointer x)
    o_place (Narrow place r) = ap (λ o. provided (e.is_record r) (provided (holds_of is_dynamic o) (Some (Dynamic r)))) (o_place place)

    o_pointer : (x : Expr) → pointer e (outline e) x ≡ pointer e as_written (outlined_pointer bases x)
    o_pointer (Load d) = o_untyped d
    o_pointer (Guard x r) = ap (λ o. provided (e.is_record r) (provided (gives_pointer o) (Some (ToRecord r)))) (o_pointer x)
    o_pointer (Literal n) = refl
    o_pointer _ = refl

    o_untyped : (d : Designator) → untyped_form e (outline e) d ≡ untyped_form e as_written (untyped bases d)
    o_untyped (of_type place s) = ap (λ o. with_some o (scalar_in e)) (o_place place)

    o_call : (c : Call) → call_suits e (outline e) c ≡ call_suits e as_written (outlined_call bases c)
    o_call (Direct f xs) = direct_same (e.heading f) (all_suit e (outline e) xs) (all_suit e as_written (outlined_arguments bases xs)) (o_arguments xs)
    o_call (Indirect d xs) = indirect_same (with_some (designated e (outline e) d) (scalar_in e)) (with_some (designated e as_written (outlined_designator bases d)) (scalar_in e)) (ap (λ o. with_some o (scalar_in e)) (o_designator d)) (all_suit e (outline e) xs) (all_suit e as_written (outlined_arguments bases xs)) (o_arguments xs)

    o_result : (c : Call) → call_form e (outline e) c ≡ call_form e as_written (outlined_call bases c)
    o_result (Direct f xs) = refl
    o_result (Indirect d xs) = ap (λ o. with_some (with_some o (scalar_in e)) (result_through e)) (o_designator d)

    o_arguments : (xs : Arguments) (ps : Formals) → all_suit e (outline e) xs ps ≡ all_suit e as_written (outlined_arguments bases xs) ps
    o_arguments no_argument ps = refl
    o_arguments (next_argument x xs) none = refl
    o_arguments (next_argument x xs) (one v s ps) = ap₂ (λ a b. a && b) (o_argument x v s) (o_arguments xs ps)

    o_argument : (x : Argument) (v : Bool) (s : Shape) → argument_suits e (outline e) x v s ≡ argument_suits e as_written (outlined_argument bases x) v s
    o_argument (ByValue x) v s = ap (λ o. value_suits e (mode_of v s) o (scalar e s)) (o_expr x)
    o_argument (ByPlace d) v s = ap (λ o. place_argument e (mode_of v s) s v o) (o_designator d)
    o_argument (ByRecord d) v s = ap₂ (λ r o. record_argument e (mode_of v s) (record_by s) r o) (o_record d) (o_designator d)
    o_argument (ByOpen d) v s = ap₂ (λ n o. open_argument e (mode_of v s) (open_element s) v n o) (o_length d) (o_designator d)

  pub o_checked : (x : Checked) → checked_form e (outline e) x ≡ checked_form e as_written (outlined_checked bases x)
  o_checked x = ap₂ (λ s o. provided (shape_suits e s o) o) (shape_same x.shape) (o_expr x.form)

  o_shape : (d : Designator) → shape_in e (outline e) d ≡ shape_in e as_written (outlined_designator bases d)
  o_shape (of_type place s) = shape_same s

  o_changed : (d : Designator) (x : Checked) → (gives_number (checked_form e (outline e) x) && holds_of (takes e (changes (is_byte (shape_in e (outline e) d)))) (designated e (outline e) d)) ≡ (gives_number (checked_form e as_written (outlined_checked bases x)) && holds_of (takes e (changes (is_byte (shape_in e as_written (outlined_designator bases d))))) (designated e as_written (outlined_designator bases d)))
  o_changed d x = ap₂ (λ a b. a && b) (ap gives_number (o_checked x)) (ap₂ (λ s o. holds_of (takes e (changes (is_byte s))) o) (o_shape d) (o_designator d))

  o_set_changed : (d : Designator) (x : Checked) → (gives_number (checked_form e (outline e) x) && holds_of (takes e is_full) (designated e (outline e) d)) ≡ (gives_number (checked_form e as_written (outlined_checked bases x)) && holds_of (takes e is_full) (designated e as_written (outlined_designator bases d)))
  o_set_changed d x = ap₂ (λ a b. gives_number a && holds_of (takes e is_full) b) (o_checked x) (o_designator d)

  o_base : (d : Place) → is_base d ≡ is_base (outlined_place bases d)
  o_base Done = refl
  o_base (Global m v) = refl
  o_base (Local v) = refl
  o_base (Parameter k) = refl
  o_base (Text cs) = refl
  o_base (Index d n a x) = refl
  o_base (Field d r n) = refl
  o_base (Dereference x) = refl
  o_base (Narrow d r) = refl

  o_begins : (d : Designator) → begins_there d ≡ begins_there (outlined_designator bases d)
  o_begins (of_type place s) = o_base place

  mutual
    pub o_statement : (s : Statement) → fine e (outline e) s ≡ fine e as_written (outlined_statement bases s)
    o_statement (Assign d x) = ap₂ (λ c o. holds_of (λ t. is_writable t && given_for e c (scalar_in e t)) o) (o_checked x) (o_designator d)
    o_statement (CopyArray d f) = ap₂ (λ a b. a && b) (ap₂ lengths_fit (o_length d) (o_length f)) (ap₂ (λ a b. a && b)
        (ap₂ (λ g o. holds_of g o) (ap₂ (λ s n. may_copy (element_in s) n) (o_shape d) (o_length d)) (o_designator d))
        (ap₂ (λ g o. holds_of g o) (ap₂ (λ s n. array_of (element_in s) n) (o_shape d) (o_length f)) (o_designator f)))
    o_statement (CopyRecord d f) = ap₂ (λ a b. a && b)
        (ap₂ (λ r o. holds_of (λ t. is_writable t && has_record e r t) o) (o_record d) (o_designator d))
        (ap₂ (λ r o. holds_of (has_record e r) o) (o_record d) (o_designator f))
    o_statement (Increase d x) = o_changed d x
    o_statement (Decrease d x) = o_changed d x
    o_statement (Include d x) = o_set_changed d x
    o_statement (Exclude d x) = o_set_changed d x
    o_statement (New d) = ap₂ (λ r o. holds_of (takes e (points_to e r)) o) (o_record d) (o_designator d)
    o_statement (Assert x) = ap gives_number (o_checked x)
    o_statement (OutChar x) = ap (λ o. holds_of is_small o) (o_checked x)
    o_statement (OutInt x n) = ap₂ (λ a b. gives_number a && gives_number b) (o_checked x) (o_checked n)
    o_statement (OutString d) = ap₂ (λ n o. holds_of (is_text n) o) (o_length d) (o_designator d)
    o_statement OutLn = refl
    o_statement (InChar d) = ap (λ o. holds_of (takes e (changes true)) o) (o_designator d)
    o_statement (Invoke c) = o_call c
    o_statement (If branches other) = ap₂ (λ a b. a && b) (o_branches branches) (o_statements other)
    o_statement (While branches) = ap₂ (λ a b. a && b) (o_has branches) (o_branches branches)
    o_statement (Repeat body x) = ap₂ (λ a b. a && gives_number b) (o_statements body) (o_checked x)
    o_statement (For d x y step body) = ap (λ c. is_step step && c) (ap₂ (λ a b. a && b) (o_begins d) (ap₂ (λ a b. holds_of (takes e is_full) a && b) (o_designator d) (ap₂ (λ a b. gives_number a && b) (o_checked x) (ap₂ (λ a b. gives_number a && b) (o_checked y) (o_statements body)))))
    o_statement (Case x parts) = ap₂ (λ a b. gives_number a && b) (o_checked x) (o_parts parts)
    o_statement (CasePointer x parts) = ap₂ (λ a b. gives_pointer a && b) (o_checked x) (o_parts parts)
    o_statement (CaseParameter d parts) = ap₂ (λ a b. holds_of is_dynamic a && b) (o_designator d) (o_parts parts)

    o_has : (bs : Branches) → has_branch bs ≡ has_branch (outlined_branches bases bs)
    o_has no_branch = refl
    o_has (next_branch x body rest) = refl

    pub o_statements : (xs : Statements) → fine_all e (outline e) xs ≡ fine_all e as_written (outlined_statements bases xs)
    o_statements no_statement = refl
    o_statements (next_statement s rest) = ap₂ (λ a b. a && b) (o_statement s) (o_statements rest)

    o_branches : (bs : Branches) → fine_branches e (outline e) bs ≡ fine_branches e as_written (outlined_branches bases bs)
    o_branches no_branch = refl
    o_branches (next_branch x body rest) = ap₂ (λ a b. gives_number a && b) (o_checked x) (ap₂ (λ a b. a && b) (o_statements body) (o_branches rest))

    o_parts : (ps : Parts) → fine_parts e (outline e) ps ≡ fine_parts e as_written (outlined_parts bases ps)
    o_parts no_part = refl
    o_parts (next_part when body rest) = ap (λ c. when_fine e when && c) (ap₂ (λ a b. a && b) (o_statements body) (o_parts rest))
