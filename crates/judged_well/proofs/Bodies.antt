-- Statements are well-formed where their images are: by recursion on the tree.
use Rattle.ob_types.specs.declared.tree.Selector.{Selector, Index, Field, Dereference, Narrow}
use Rattle.std.proofs.Common.{◌≡◌, ℕ, List, [], ◌∷◌, Bool, true, ◌&&◌, Option, refl, sym, ap, ◌∙◌, subst, ap₂, false}
use Rattle.ob_types.specs.declared.tree.Designator.{Designator, Whole, Part', Row_of-Selector, end_of-Selector, more_of-Selector}
use Rattle.ob_types.specs.declared.statements.Checked.{Checked}
use Rattle.ob_types.specs.declared.statements.Stmt.{Stmt, Assign, CopyArray, CopyRecord, Increase, Decrease, Include, Exclude, New, Assert, OutChar, OutInt, OutString, OutLn, InChar, If', While', Repeat', For', Case', CasePointer', CaseParameter', Row_of-Stmt, end_of-Stmt, more_of-Stmt, Row_of-Branch, end_of-Branch, more_of-Branch, Row_of-CasePart, end_of-CasePart, more_of-CasePart, Row_of-TypePart, end_of-TypePart, more_of-TypePart}
use Rattle.ob_types.specs.declared.statements.Stmt.{Call as Invoke}
use Rattle.ob_types.specs.declared.program.Program.{Program}
use Rattle.ob_types.specs.Meaning.{procedure_of, kind_in, length_of_kind, element_kind, record_of_kind, is_byte}
use Rattle.ob_types.specs.WellFormed as W
use Rattle.ob_types.specs.WellFormed.{holds_of}
use Rattle.ob_types.specs.Forms as F
use Rattle.ob_types.specs.Forms.{all}
use Rattle.ob_types.proofs.Tests.{no}
use Rattle.ob_judge.specs.Shapes.{Shape}
use Rattle.ob_judge.specs.Image as I
use Rattle.judged_tree.specs.TypeShapes.{shape_of_kind}
use Rattle.judged_tree.specs.Plain.{plain_designator, plain_checked, plain_statement, plain_statements, plain_branches, plain_case_parts, plain_type_parts, plain_body, plain_selector, plain_selectors, plain_base}
use Rattle.judged_well.specs.Forms.{Form, Named, gives_number, gives_pointer, is_number, is_small, is_pointer, is_full, is_writable, is_dynamic, changes}
use Rattle.judged_well.specs.Typing.{designated, checked_form, given_for, scalar_in, takes, points_to, has_record, array_of, may_copy, is_text, length_in, record_written, shape_in, element_in, fine, fine_all, fine_branches, fine_parts, has_branch, begins_there, is_base}
use Rattle.judged_well.specs.Typing.{is_byte as is_byte_shape}
use Rattle.judged_well.specs.OfProgram.{IsFaithful, IsInside}
use Rattle.judged_well.proofs.Forming.{below_holds, and_both, zero_form, small_form, number_form, record_form, number_is, small_is, pointer_is, set, Relates, given_is}
use Rattle.judged_well.proofs.Designating.{IsNamed, writable_is, dynamic_is, scalar_named, text_is, has_record_is, byte_is, written_array_is}
use Rattle.judged_well.proofs.Images.{s_designator, s_checked, s_call, written_length, written_record}
use Rattle.ob_types.specs.LegalTypes.{is_record_type}

module _ (p : Program) (ok : IsFaithful p.types) (inside : IsInside p) (at : ℕ) where
  abbrev texts : List (List ℕ)
  texts = (procedure_of p at).texts

  abbrev as_written : Shape → Shape
  as_written s = s

  abbrev IsOf : F.Form → Form → Type 0
  IsOf = Relates p ok inside at

  abbrev Names : W.Named → Named → Type 0
  Names = IsNamed p ok inside at

  abbrev d_image : Designator → Option Named
  d_image d = designated (set p ok inside at) as_written (plain_designator p.types texts d)

  abbrev x_image : Checked → Option Form
  x_image x = checked_form (set p ok inside at) as_written (plain_checked p.types texts x)

  -- what a test of what is named says
  names : (d : Designator) (f : W.Named → Bool) (g : Named → Bool) → ((a : W.Named) (b : Named) → Names a b → g b ≡ true → f a ≡ true) → holds_of g (d_image d) ≡ true → holds_of f (W.named p at d) ≡ true
  names d f g k h = below_holds Names (W.named p at d) (d_image d) f g (s_designator p ok inside at d) k h

  gives : (x : Checked) (f : F.Form → Bool) (g : Form → Bool) → ((a : F.Form) (b : Form) → IsOf a b → g b ≡ true → f a ≡ true) → holds_of g (x_image x) ≡ true → holds_of f (W.checked_form p at x) ≡ true
  gives x f g k h = below_holds IsOf (W.checked_form p at x) (x_image x) f g (s_checked p ok inside at x) k h

  numbers : (x : Checked) → gives_number (x_image x) ≡ true → W.gives_number (W.checked_form p at x) ≡ true
  numbers x = gives x W.is_number is_number (number_is p.types)

  writable : (a : W.Named) (b : Named) → Names a b → is_writable b ≡ true → W.is_writable a ≡ true
  writable a b r h = sym (writable_is p ok inside at a b r) ∙ h

  taken : (f : F.Form → Bool) (g : Form → Bool) → ((x : F.Form) (y : Form) → IsOf x y → g y ≡ true → f x ≡ true) → (a : W.Named) (b : Named) → Names a b → takes (set p ok inside at) g b ≡ true → W.takes p f a ≡ true
  taken f g k a b r h = and_both (W.is_writable a) (is_writable b) (holds_of f (W.scalar_in p a)) (holds_of g (scalar_in (set p ok inside at) b)) (writable a b r)
      (below_holds IsOf (W.scalar_in p a) (scalar_in (set p ok inside at) b) f g (scalar_named p ok inside at a b r) k) h

  full_is : (f : F.Form) (g : Form) → IsOf f g → is_full g ≡ true → W.is_full f ≡ true
  full_is f g number_form h = refl
  full_is f g zero_form h = no h
  full_is f g _ h = no h

  changes_is : (c : Bool) (f : F.Form) (g : Form) → IsOf f g → changes c g ≡ true → W.changes c f ≡ true
  changes_is c f g small_form h = h
  changes_is c f g number_form h = h
  changes_is c f g zero_form h = no h
  changes_is c f g _ h = no h

  points_is : (r : ℕ) (f : F.Form) (g : Form) → IsOf f g → points_to (set p ok inside at) r g ≡ true → W.points_to p r f ≡ true
  points_is r f g (record_form b) h = h
  points_is r f g zero_form h = no h
  points_is r f g _ h = no h

  -- what is written beside a designator

  shape_at : (d : Designator) → shape_in (set p ok inside at) as_written (plain_designator p.types texts d) ≡ shape_of_kind p.types (kind_in d)
  shape_at (Whole b kind) = refl
  shape_at (Part' _ b kind v row) = refl

  byte_at : (d : Designator) → is_byte (kind_in d) ≡ is_byte_shape (shape_in (set p ok inside at) as_written (plain_designator p.types texts d))
  byte_at d = byte_is p ok inside at (kind_in d) ∙ sym (ap is_byte_shape (shape_at d))

  array_at : (d : Designator) (n m : Option ℕ) → n ≡ m → (a : W.Named) (b : Named) → Names a b → array_of (element_in (shape_in (set p ok inside at) as_written (plain_designator p.types texts d))) m b ≡ true → W.array_of p (element_kind (kind_in d)) n a ≡ true
  array_at d n m e a b r h = subst (λ k. W.array_of p (element_kind (kind_in d)) k a ≡ true) (sym e) (written_array_is p ok inside at (kind_in d) m a b r (subst (λ s. array_of (element_in s) m b ≡ true) (shape_at d) h))

  record_at : (d : Designator) (a : W.Named) (b : Named) → Names a b → has_record (set p ok inside at) (record_written (set p ok inside at) as_written (plain_designator p.types texts d)) b ≡ true → W.has_record p (record_of_kind (kind_in d)) a ≡ true
  record_at d a b r h = subst (λ k. W.has_record p k a ≡ true) (sym (written_record p ok inside at d)) (has_record_is p ok inside at (record_written (set p ok inside at) as_written (plain_designator p.types texts d)) a b r h)

  -- a variable as a whole in the image is one in the tree

  selected_no : (s : Selector) (q : I.Place) → is_base (plain_selector p.types texts s q) ≡ false
  selected_no (Index n k x) q = refl
  selected_no (Field r k) q = refl
  selected_no (Dereference rs) q = refl
  selected_no (Narrow r) q = refl

  behind_no : {m : _} (row : Row_of-Selector m) (q : I.Place) → is_base q ≡ false → is_base (plain_selectors p.types texts row q) ≡ false
  behind_no end_of-Selector q h = h
  behind_no (more_of-Selector s rest) q h = behind_no rest (plain_selector p.types texts s q) (selected_no s q)

  none_behind : {m : _} (row : Row_of-Selector m) (q : I.Place) → is_base (plain_selectors p.types texts row q) ≡ true → W.no_selector row ≡ true
  none_behind end_of-Selector q h = refl
  none_behind (more_of-Selector s rest) q h = no (sym (behind_no rest (plain_selector p.types texts s q) (selected_no s q)) ∙ h)

  whole_at : (d : Designator) → begins_there (plain_designator p.types texts d) ≡ true → W.is_whole d ≡ true
  whole_at (Whole b kind) h = refl
  whole_at (Part' _ b kind v row) h = none_behind row (plain_base p.types texts b) h

  -- ---- simple statements

  s_assign : (d : Designator) (x : Checked) → holds_of (λ t. is_writable t && given_for (set p ok inside at) (x_image x) (scalar_in (set p ok inside at) t)) (d_image d) ≡ true
      → holds_of (λ t. W.is_writable t && W.given_for p (W.checked_form p at x) (W.scalar_in p t)) (W.named p at d) ≡ true
  s_assign d x = names d (λ t. W.is_writable t && W.given_for p (W.checked_form p at x) (W.scalar_in p t)) (λ t. is_writable t && given_for (set p ok inside at) (x_image x) (scalar_in (set p ok inside at) t))
      (λ a b r. and_both (W.is_writable a) (is_writable b) (W.given_for p (W.checked_form p at x) (W.scalar_in p a)) (given_for (set p ok inside at) (x_image x) (scalar_in (set p ok inside at) b)) (writable a b r)
      (given_is p ok inside at (W.checked_form p at x) (x_image x) (W.scalar_in p a) (scalar_in (set p ok inside at) b) (s_checked p ok inside at x) (scalar_named p ok inside at a b r)))

  s_changed : (d : Designator) (x : Checked) → (gives_number (x_image x) && holds_of (takes (set p ok inside at) (changes (is_byte_shape (shape_in (set p ok inside at) as_written (plain_designator p.types texts d))))) (d_image d)) ≡ true
      → (W.gives_number (W.checked_form p at x) && holds_of (W.takes p (W.changes (is_byte (kind_in d)))) (W.named p at d)) ≡ true
  s_changed d x = and_both (W.gives_number (W.checked_form p at x)) (gives_number (x_image x)) (holds_of (W.takes p (W.changes (is_byte (kind_in d)))) (W.named p at d)) (holds_of (takes (set p ok inside at) (changes (is_byte_shape (shape_in (set p ok inside at) as_written (plain_designator p.types texts d))))) (d_image d)) (numbers x)
      (λ h. subst (λ c. holds_of (W.takes p (W.changes c)) (W.named p at d) ≡ true) (sym (byte_at d))
      (names d (W.takes p (W.changes (is_byte_shape (shape_in (set p ok inside at) as_written (plain_designator p.types texts d))))) (takes (set p ok inside at) (changes (is_byte_shape (shape_in (set p ok inside at) as_written (plain_designator p.types texts d)))))
      (taken (W.changes (is_byte_shape (shape_in (set p ok inside at) as_written (plain_designator p.types texts d)))) (changes (is_byte_shape (shape_in (set p ok inside at) as_written (plain_designator p.types texts d)))) (changes_is (is_byte_shape (shape_in (set p ok inside at) as_written (plain_designator p.types texts d))))) h))

  s_set_changed : (d : Designator) (x : Checked) → (gives_number (x_image x) && holds_of (takes (set p ok inside at) is_full) (d_image d)) ≡ true → (W.gives_number (W.checked_form p at x) && holds_of (W.takes p W.is_full) (W.named p at d)) ≡ true
  s_set_changed d x = and_both (W.gives_number (W.checked_form p at x)) (gives_number (x_image x)) (holds_of (W.takes p W.is_full) (W.named p at d)) (holds_of (takes (set p ok inside at) is_full) (d_image d)) (numbers x)
      (names d (W.takes p W.is_full) (takes (set p ok inside at) is_full) (taken W.is_full is_full full_is))

  s_copy_array : (d f : Designator) → fine (set p ok inside at) as_written (I.CopyArray (plain_designator p.types texts d) (plain_designator p.types texts f)) ≡ true → W.fine p at (CopyArray d f) ≡ true
  s_copy_array d f = and_both
      (W.lengths_fit (length_of_kind (kind_in d)) (length_of_kind (kind_in f))) (W.lengths_fit (length_in (set p ok inside at) as_written (plain_designator p.types texts d)) (length_in (set p ok inside at) as_written (plain_designator p.types texts f)))
      ((holds_of (W.may_copy p at (element_kind (kind_in d)) (length_of_kind (kind_in d))) (W.named p at d)) && (holds_of (W.array_of p (element_kind (kind_in d)) (length_of_kind (kind_in f))) (W.named p at f)))
      ((holds_of (may_copy (element_in (shape_in (set p ok inside at) as_written (plain_designator p.types texts d))) (length_in (set p ok inside at) as_written (plain_designator p.types texts d))) (d_image d)) && (holds_of (array_of (element_in (shape_in (set p ok inside at) as_written (plain_designator p.types texts d))) (length_in (set p ok inside at) as_written (plain_designator p.types texts f))) (d_image f)))
      (λ h. ap₂ W.lengths_fit (written_length p ok inside at d) (written_length p ok inside at f) ∙ h)
      (and_both
      (holds_of (W.may_copy p at (element_kind (kind_in d)) (length_of_kind (kind_in d))) (W.named p at d))
      (holds_of (may_copy (element_in (shape_in (set p ok inside at) as_written (plain_designator p.types texts d))) (length_in (set p ok inside at) as_written (plain_designator p.types texts d))) (d_image d))
      (holds_of (W.array_of p (element_kind (kind_in d)) (length_of_kind (kind_in f))) (W.named p at f))
      (holds_of (array_of (element_in (shape_in (set p ok inside at) as_written (plain_designator p.types texts d))) (length_in (set p ok inside at) as_written (plain_designator p.types texts f))) (d_image f))
      (names d (W.may_copy p at (element_kind (kind_in d)) (length_of_kind (kind_in d))) (may_copy (element_in (shape_in (set p ok inside at) as_written (plain_designator p.types texts d))) (length_in (set p ok inside at) as_written (plain_designator p.types texts d)))
      (λ a b r. and_both (W.is_writable a) (is_writable b) (W.array_of p (element_kind (kind_in d)) (length_of_kind (kind_in d)) a) (array_of (element_in (shape_in (set p ok inside at) as_written (plain_designator p.types texts d))) (length_in (set p ok inside at) as_written (plain_designator p.types texts d)) b) (writable a b r)
      (array_at d (length_of_kind (kind_in d)) (length_in (set p ok inside at) as_written (plain_designator p.types texts d)) (written_length p ok inside at d) a b r)))
      (names f (W.array_of p (element_kind (kind_in d)) (length_of_kind (kind_in f))) (array_of (element_in (shape_in (set p ok inside at) as_written (plain_designator p.types texts d))) (length_in (set p ok inside at) as_written (plain_designator p.types texts f)))
      (array_at d (length_of_kind (kind_in f)) (length_in (set p ok inside at) as_written (plain_designator p.types texts f)) (written_length p ok inside at f))))

  s_copy_record : (d f : Designator) → fine (set p ok inside at) as_written (I.CopyRecord (plain_designator p.types texts d) (plain_designator p.types texts f)) ≡ true → W.fine p at (CopyRecord d f) ≡ true
  s_copy_record d f = and_both
      (holds_of (λ t. W.is_writable t && W.has_record p (record_of_kind (kind_in d)) t) (W.named p at d))
      (holds_of (λ t. is_writable t && has_record (set p ok inside at) (record_written (set p ok inside at) as_written (plain_designator p.types texts d)) t) (d_image d))
      (holds_of (W.has_record p (record_of_kind (kind_in d))) (W.named p at f))
      (holds_of (has_record (set p ok inside at) (record_written (set p ok inside at) as_written (plain_designator p.types texts d))) (d_image f))
      (names d (λ t. W.is_writable t && W.has_record p (record_of_kind (kind_in d)) t) (λ t. is_writable t && has_record (set p ok inside at) (record_written (set p ok inside at) as_written (plain_designator p.types texts d)) t)
      (λ a b r. and_both (W.is_writable a) (is_writable b) (W.has_record p (record_of_kind (kind_in d)) a) (has_record (set p ok inside at) (record_written (set p ok inside at) as_written (plain_designator p.types texts d)) b) (writable a b r) (record_at d a b r)))
      (names f (W.has_record p (record_of_kind (kind_in d))) (has_record (set p ok inside at) (record_written (set p ok inside at) as_written (plain_designator p.types texts d))) (record_at d))

  s_new : (d : Designator) → fine (set p ok inside at) as_written (I.New (plain_designator p.types texts d)) ≡ true → W.fine p at (New d) ≡ true
  s_new d h = subst (λ r. holds_of (W.takes p (W.points_to p r)) (W.named p at d) ≡ true) (sym (written_record p ok inside at d))
      (names d (W.takes p (W.points_to p (record_written (set p ok inside at) as_written (plain_designator p.types texts d)))) (takes (set p ok inside at) (points_to (set p ok inside at) (record_written (set p ok inside at) as_written (plain_designator p.types texts d))))
      (taken (W.points_to p (record_written (set p ok inside at) as_written (plain_designator p.types texts d))) (points_to (set p ok inside at) (record_written (set p ok inside at) as_written (plain_designator p.types texts d))) (points_is (record_written (set p ok inside at) as_written (plain_designator p.types texts d)))) h)

  s_out_string : (d : Designator) → fine (set p ok inside at) as_written (I.OutString (plain_designator p.types texts d)) ≡ true → W.fine p at (OutString d) ≡ true
  s_out_string d = names d (W.is_text p (length_of_kind (kind_in d))) (is_text (length_in (set p ok inside at) as_written (plain_designator p.types texts d)))
      (λ a b r t. subst (λ n. W.is_text p n a ≡ true) (sym (written_length p ok inside at d)) (text_is p ok inside at (length_in (set p ok inside at) as_written (plain_designator p.types texts d)) a b r t))

  -- ---- the tree

  mutual
    pub s_statement : (s : Stmt) → fine (set p ok inside at) as_written (plain_statement p.types texts s) ≡ true → W.fine p at s ≡ true
    s_statement (Assign d x) h = s_assign d x h
    s_statement (CopyArray d f) h = s_copy_array d f h
    s_statement (CopyRecord d f) h = s_copy_record d f h
    s_statement (Increase d x) h = s_changed d x h
    s_statement (Decrease d x) h = s_changed d x h
    s_statement (Include d x) h = s_set_changed d x h
    s_statement (Exclude d x) h = s_set_changed d x h
    s_statement (New d) h = s_new d h
    s_statement (Assert x) h = numbers x h
    s_statement (OutChar x) h = gives x W.is_small is_small (small_is p.types) h
    s_statement (OutInt x n) h = and_both (W.gives_number (W.checked_form p at x)) (gives_number (x_image x)) (W.gives_number (W.checked_form p at n)) (gives_number (x_image n)) (numbers x) (numbers n) h
    s_statement (OutString d) h = s_out_string d h
    s_statement OutLn h = refl
    s_statement (InChar d) h = names d (W.takes p (W.changes true)) (takes (set p ok inside at) (changes true)) (taken (W.changes true) (changes true) (changes_is true)) h
    s_statement (Invoke c) h = s_call p ok inside at c h
    s_statement (If' v branches u other) h = and_both (W.fine_branches p at branches) (fine_branches (set p ok inside at) as_written (plain_branches p.types texts branches)) (W.fine_row p at other) (fine_all (set p ok inside at) as_written (plain_statements p.types texts other)) (s_branches branches) (s_row other) h
    s_statement (While' v branches) h = and_both (W.has_branch branches) (has_branch (plain_branches p.types texts branches)) (W.fine_branches p at branches) (fine_branches (set p ok inside at) as_written (plain_branches p.types texts branches)) (s_has branches) (s_branches branches) h
    s_statement (Repeat' v body x) h = and_both (W.fine_row p at body) (fine_all (set p ok inside at) as_written (plain_statements p.types texts body)) (W.gives_number (W.checked_form p at x)) (gives_number (x_image x)) (s_row body) (numbers x) h
    s_statement (For' _ d x y step v body) h =
        and_both (W.is_step step) (W.is_step step) (W.is_whole d && (holds_of (W.takes p W.is_full) (W.named p at d) && (W.gives_number (W.checked_form p at x) && (W.gives_number (W.checked_form p at y) && W.fine_row p at body)))) (begins_there (plain_designator p.types texts d) && (holds_of (takes (set p ok inside at) is_full) (d_image d) && (gives_number (x_image x) && (gives_number (x_image y) && fine_all (set p ok inside at) as_written (plain_statements p.types texts body))))) (λ i. i)
        (and_both (W.is_whole d) (begins_there (plain_designator p.types texts d)) (holds_of (W.takes p W.is_full) (W.named p at d) && (W.gives_number (W.checked_form p at x) && (W.gives_number (W.checked_form p at y) && W.fine_row p at body))) (holds_of (takes (set p ok inside at) is_full) (d_image d) && (gives_number (x_image x) && (gives_number (x_image y) && fine_all (set p ok inside at) as_written (plain_statements p.types texts body)))) (whole_at d)
        (and_both (holds_of (W.takes p W.is_full) (W.named p at d)) (holds_of (takes (set p ok inside at) is_full) (d_image d)) (W.gives_number (W.checked_form p at x) && (W.gives_number (W.checked_form p at y) && W.fine_row p at body)) (gives_number (x_image x) && (gives_number (x_image y) && fine_all (set p ok inside at) as_written (plain_statements p.types texts body)))
        (names d (W.takes p W.is_full) (takes (set p ok inside at) is_full) (taken W.is_full is_full full_is))
        (and_both (W.gives_number (W.checked_form p at x)) (gives_number (x_image x)) (W.gives_number (W.checked_form p at y) && W.fine_row p at body) (gives_number (x_image y) && fine_all (set p ok inside at) as_written (plain_statements p.types texts body)) (numbers x)
        (and_both (W.gives_number (W.checked_form p at y)) (gives_number (x_image y)) (W.fine_row p at body) (fine_all (set p ok inside at) as_written (plain_statements p.types texts body)) (numbers y) (s_row body))))) h
    s_statement (Case' x v parts) h = and_both (W.gives_number (W.checked_form p at x)) (gives_number (x_image x)) (W.fine_case_parts p at parts) (fine_parts (set p ok inside at) as_written (plain_case_parts p.types texts parts)) (numbers x) (s_case_parts parts) h
    s_statement (CasePointer' x v parts) h = and_both (W.gives_pointer (W.checked_form p at x)) (gives_pointer (x_image x)) (W.fine_type_parts p at parts) (fine_parts (set p ok inside at) as_written (plain_type_parts p.types texts parts)) (gives x W.is_pointer is_pointer (pointer_is p.types)) (s_type_parts parts) h
    s_statement (CaseParameter' d v parts) h = and_both (holds_of (W.is_dynamic p) (W.named p at d)) (holds_of is_dynamic (d_image d)) (W.fine_type_parts p at parts) (fine_parts (set p ok inside at) as_written (plain_type_parts p.types texts parts)) (names d (W.is_dynamic p) is_dynamic (dynamic_is p ok inside at)) (s_type_parts parts) h

    s_has : {m : _} → (row : Row_of-Branch m) → has_branch (plain_branches p.types texts row) ≡ true → W.has_branch row ≡ true
    s_has end_of-Branch h = h
    s_has (more_of-Branch x v body rest) h = refl

    s_row : {m : _} → (row : Row_of-Stmt m) → fine_all (set p ok inside at) as_written (plain_statements p.types texts row) ≡ true → W.fine_row p at row ≡ true
    s_row end_of-Stmt h = refl
    s_row (more_of-Stmt s rest) h = and_both (W.fine p at s) (fine (set p ok inside at) as_written (plain_statement p.types texts s)) (W.fine_row p at rest) (fine_all (set p ok inside at) as_written (plain_statements p.types texts rest)) (s_statement s) (s_row rest) h

    s_branches : {m : _} → (row : Row_of-Branch m) → fine_branches (set p ok inside at) as_written (plain_branches p.types texts row) ≡ true → W.fine_branches p at row ≡ true
    s_branches end_of-Branch h = refl
    s_branches (more_of-Branch x v body rest) h = and_both (W.gives_number (W.checked_form p at x)) (gives_number (x_image x)) (W.fine_row p at body && W.fine_branches p at rest) (fine_all (set p ok inside at) as_written (plain_statements p.types texts body) && fine_branches (set p ok inside at) as_written (plain_branches p.types texts rest)) (numbers x)
        (and_both (W.fine_row p at body) (fine_all (set p ok inside at) as_written (plain_statements p.types texts body)) (W.fine_branches p at rest) (fine_branches (set p ok inside at) as_written (plain_branches p.types texts rest)) (s_row body) (s_branches rest)) h

    s_case_parts : {m : _} → (row : Row_of-CasePart m) → fine_parts (set p ok inside at) as_written (plain_case_parts p.types texts row) ≡ true → W.fine_case_parts p at row ≡ true
    s_case_parts end_of-CasePart h = refl
    s_case_parts (more_of-CasePart labels v body rest) h = and_both (all W.label_fine labels) (all W.label_fine labels) (W.fine_row p at body && W.fine_case_parts p at rest) (fine_all (set p ok inside at) as_written (plain_statements p.types texts body) && fine_parts (set p ok inside at) as_written (plain_case_parts p.types texts rest)) (λ i. i) (and_both (W.fine_row p at body) (fine_all (set p ok inside at) as_written (plain_statements p.types texts body)) (W.fine_case_parts p at rest) (fine_parts (set p ok inside at) as_written (plain_case_parts p.types texts rest)) (s_row body) (s_case_parts rest)) h

    s_type_parts : {m : _} → (row : Row_of-TypePart m) → fine_parts (set p ok inside at) as_written (plain_type_parts p.types texts row) ≡ true → W.fine_type_parts p at row ≡ true
    s_type_parts end_of-TypePart h = refl
    s_type_parts (more_of-TypePart r v body rest) h = and_both (is_record_type p.types r) (is_record_type p.types r) (W.fine_row p at body && W.fine_type_parts p at rest) (fine_all (set p ok inside at) as_written (plain_statements p.types texts body) && fine_parts (set p ok inside at) as_written (plain_type_parts p.types texts rest)) (λ i. i) (and_both (W.fine_row p at body) (fine_all (set p ok inside at) as_written (plain_statements p.types texts body)) (W.fine_type_parts p at rest) (fine_parts (set p ok inside at) as_written (plain_type_parts p.types texts rest)) (s_row body) (s_type_parts rest)) h

  pub s_body : (body : List Stmt) → fine_all (set p ok inside at) as_written (plain_body p.types texts body) ≡ true → all (W.fine p at) body ≡ true
  s_body [] h = refl
  s_body (s ∷ rest) h = and_both (W.fine p at s) (fine (set p ok inside at) as_written (plain_statement p.types texts s)) (all (W.fine p at) rest) (fine_all (set p ok inside at) as_written (plain_body p.types texts rest)) (s_statement s) (s_body rest) h
