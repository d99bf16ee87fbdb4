-- The strings of a well-formed image are bytes.
use Rattle.std.proofs.Common.{◌≡◌, ℕ, List, ◌++◌, Bool, true, false, ◌&&◌, Option, Some, None, refl}
use Rattle.std.specs.Prelude.{nat_lt, is_some}
use Rattle.ob_types.specs.Forms.{all}
use Rattle.ob_types.specs.WellFormed.{provided, holds_of, with_some, is_step, lengths_fit}
use Rattle.ob_types.proofs.Tests.{no, and_of, and_from}
use Rattle.ob_sound.proofs.Tables.{all_append}
use Rattle.ob_judge.specs.Shapes.{Shape, Nothing, Formals, none, one}
use Rattle.ob_judge.specs.Parameters.{mode_of}
use Rattle.ob_types.specs.declared.types.Mode.{Mode}
use Rattle.ob_types.specs.declared.types.Mode.TheVariants as TheMode
use Rattle.ob_judge.specs.Image.{Expr, Literal, Routine, Load, Guard, Apply, Linked, Compare, CompareTexts, In, IsPointer, IsParameter, AsByte, Length, Result, Link, Operate, And, Or, Element, Elements, Designator, of_type, Place, Done, Global, Local, Parameter, Text, Index, Field, Dereference, Narrow, Call, Direct, Indirect, Arguments, no_argument, next_argument, Argument, ByValue, ByPlace, ByRecord, ByOpen, Checked}
use Rattle.ob_judge.specs.Image.{Statement, Assign, CopyArray, CopyRecord, Increase, Decrease, Include, Exclude, New, Assert, OutChar, OutInt, OutString, InChar, OutLn, Invoke, If, While, Repeat, For, Case, CasePointer, CaseParameter, Statements, no_statement, next_statement, Branches, no_branch, next_branch, Parts, no_part, next_part}
use Rattle.ob_judge.specs.Texts.{in_expr, in_link, in_designator, in_place, in_call, in_arguments, in_argument, in_statement, in_statements, in_branches, in_parts, in_answer}
use Rattle.judged_well.specs.Forms.{Form, Zero, Routines, Named, is_number, is_truth, is_pointer, gives_number, gives_truth, gives_pointer}
use Rattle.judged_well.specs.Setting.{Setting}
use Rattle.judged_well.specs.Answers.{answer_suits}
use Rattle.judged_well.specs.Typing.{are_bytes, form, link_form, designated, named, pointer, untyped, call_suits, call_form, suits_through, all_suit, argument_suits, value_suits, place_argument, record_argument, open_argument, given_for, scalar, scalar_in, of_shape, record_by, open_element, record_written, length_in, checked_form, fine, fine_all, fine_branches, fine_parts, outline, has_branch, when_fine, begins_there}

is_there : {A : Type 0} (test : A → Bool) (o : Option A) → holds_of test o ≡ true → is_some o ≡ true
is_there test None h = no h
is_there test (Some a) h = refl

of_provided : {A : Type 0} (b : Bool) (o : Option A) → is_some (provided b o) ≡ true → (b ≡ true) × (is_some o ≡ true)
of_provided true o h = (refl, h)
of_provided false o h = no h

of_with : {A B : Type 0} (o : Option A) (f : A → Option B) → is_some (with_some o f) ≡ true → is_some o ≡ true
of_with None f h = no h
of_with (Some a) f h = refl

of_both : {A B C : Type 0} (o : Option A) (q : Option B) (f : A → B → Option C) → is_some (with_some o (λ a. with_some q (λ b. f a b))) ≡ true → (is_some o ≡ true) × (is_some q ≡ true)
of_both None q f h = no h
of_both (Some a) None f h = no h
of_both (Some a) (Some b) f h = (refl, refl)

abbrev Bytes : List (List ℕ) → Type 0
Bytes xs = all (all (λ c. nat_lt c 256)) xs ≡ true

both : (xs ys : List (List ℕ)) → Bytes xs → Bytes ys → Bytes (xs ++ ys)
both xs ys h k = all_append (all (λ c. nat_lt c 256)) xs ys h k

module _ (e : Setting) (written : Shape → Shape) where
  abbrev formed : Expr → Option Form
  formed x = form e written x

  value_there : (m : Mode) (o q : Option Form) → value_suits e m o q ≡ true → is_some o ≡ true
  value_there TheMode.Value None q h = no h
  value_there TheMode.Value (Some f) q h = refl
  value_there TheMode.Place o q h = no h
  value_there _ o q h = no h

  place_there : (m : Mode) (s : Shape) (v : Bool) (o : Option Named) → place_argument e m s v o ≡ true → is_some o ≡ true
  place_there TheMode.Place s v o h = is_there _ o h
  place_there TheMode.Value s v o h = no h
  place_there _ s v o h = no h

  record_there : (m : Mode) (b : Option ℕ) (r : ℕ) (o : Option Named) → record_argument e m b r o ≡ true → is_some o ≡ true
  record_there TheMode.Record (Some b) r o h = is_there _ o h
  record_there TheMode.Record None r o h = no h
  record_there TheMode.Value b r o h = no h
  record_there _ b r o h = no h

  open_there : (m : Mode) (a : Option Shape) (v : Bool) (n : Option ℕ) (o : Option Named) → open_argument e m a v n o ≡ true → is_some o ≡ true
  open_there TheMode.Open (Some a) v n o h = is_there _ o h
  open_there TheMode.Open None v n o h = no h
  open_there TheMode.Value a v n o h = no h
  open_there _ a v n o h = no h

  numbered : (x : Expr) → gives_number (formed x) ≡ true → is_some (formed x) ≡ true
  numbered x = is_there is_number (formed x)

  heading_there : (o : Option (Formals × Shape)) (f : Formals → Bool) → holds_of {A = Formals × Shape} (λ h. f h.0) o ≡ true → (ps : Formals) × (f ps ≡ true)
  heading_there None f h = no h
  heading_there (Some k) f h = (k.0, h)

  code_there : (o : Option Form) (f : Formals → Bool) → holds_of (suits_through e f) o ≡ true → (ps : Formals) × (f ps ≡ true) × (is_some o ≡ true)
  code_there None f h = no h
  code_there (Some (Routines ps s)) f h = (ps, h, refl)
  code_there (Some Zero) f h = no h
  code_there (Some _) f h = no h

  b_index : (o : Option Named) (f : Named → Bool) (b : Bool) (g : Named → Option Named) → is_some (with_some o (λ t. provided (f t) (provided b (g t)))) ≡ true → (is_some o ≡ true) × (b ≡ true)
  b_index None f b g h = no h
  b_index (Some a) f b g h = (refl, (of_provided b (g a) (of_provided (f a) (provided b (g a)) h).1).0)

  mutual
    pub b_expr : (x : Expr) → is_some (formed x) ≡ true → Bytes (in_expr x)
    b_expr (Literal n) h = refl
    b_expr (Routine f) h = refl
    b_expr (Load d) h = b_designator d (of_with (designated e written d) (scalar_in e) h)
    b_expr (Guard x r) h = b_expr x (is_there is_pointer (formed x) (of_provided (gives_pointer (formed x)) _ (of_provided (e.is_record r) _ h).1).0)
    b_expr (Apply op x) h = b_expr x (numbered x (of_provided (gives_number (formed x)) _ h).0)
    b_expr (Linked x l) h = let k = b_link l (formed x) h in both (in_expr x) (in_link l) (b_expr x k.0) k.1
    b_expr (Compare r x y) h = let k = of_both (formed x) (formed y) _ h in both (in_expr x) (in_expr y) (b_expr x k.0) (b_expr y k.1)
    b_expr (CompareTexts r d f) h =
        let k = of_provided (holds_of _ (designated e written d)) _ h in
        let l = of_provided (holds_of _ (designated e written f)) _ k.1 in
        both (in_designator d) (in_designator f) (b_designator d (is_there _ (designated e written d) k.0)) (b_designator f (is_there _ (designated e written f) l.0))
    b_expr (In x y) h =
        let k = of_provided (gives_number (formed x)) _ h in
        let l = of_provided (gives_number (formed y)) _ k.1 in
        both (in_expr x) (in_expr y) (b_expr x (numbered x k.0)) (b_expr y (numbered y l.0))
    b_expr (IsPointer x r) h = b_expr x (is_there is_pointer (formed x) (of_provided (gives_pointer (formed x)) _ (of_provided (e.is_record r) _ h).1).0)
    b_expr (IsParameter d r) h = b_designator d (is_there _ (designated e written d) (of_provided (holds_of _ (designated e written d)) _ (of_provided (e.is_record r) _ h).1).0)
    b_expr (AsByte x) h = b_expr x (numbered x (of_provided (gives_number (formed x)) _ h).0)
    b_expr (Length d) h = b_designator d (is_there _ (designated e written d) (of_provided (holds_of _ (designated e written d)) _ h).0)
    b_expr (Result c) h = b_call c (of_provided (call_suits e written c) (call_form e written c) h).0

    b_link : (l : Link) (o : Option Form) → is_some (link_form e written l o) ≡ true → (is_some o ≡ true) × Bytes (in_link l)
    b_link (Operate op y) o h = let k = of_provided (gives_number o) _ h in (is_there is_number o k.0, b_expr y (numbered y (of_provided (gives_number (formed y)) _ k.1).0))
    b_link (And y) o h = let k = of_provided (gives_truth o) _ h in (is_there is_truth o k.0, b_expr y (is_there is_truth (formed y) (of_provided (gives_truth (formed y)) _ k.1).0))
    b_link (Or y) o h = let k = of_provided (gives_truth o) _ h in (is_there is_truth o k.0, b_expr y (is_there is_truth (formed y) (of_provided (gives_truth (formed y)) _ k.1).0))
    b_link (Element y) o h = let k = of_provided (gives_number o) _ h in (is_there is_number o k.0, b_expr y (numbered y (of_provided (gives_number (formed y)) _ k.1).0))
    b_link (Elements y z) o h =
        let k = of_provided (gives_number o) _ h in
        let l = of_provided (gives_number (formed y)) _ k.1 in
        let m = of_provided (gives_number (formed z)) _ l.1 in
        (is_there is_number o k.0, both (in_expr y) (in_expr z) (b_expr y (numbered y l.0)) (b_expr z (numbered z m.0)))

    pub b_designator : (d : Designator) → is_some (designated e written d) ≡ true → Bytes (in_designator d)
    b_designator (of_type place s) h = b_place place (of_with (named e written place) (of_shape e (written s)) h)

    b_place : (d : Place) → is_some (named e written d) ≡ true → Bytes (in_place d)
    b_place Done h = refl
    b_place (Global m v) h = refl
    b_place (Local v) h = refl
    b_place (Parameter k) h = refl
    b_place (Text cs) h = and_from (are_bytes cs) true (of_provided (are_bytes cs) _ h).0 refl
    b_place (Index array n element x) h = let k = b_index (named e written array) _ (gives_number (formed x)) _ h in both (in_place array) (in_expr x) (b_place array k.0) (b_expr x (numbered x k.1))
    b_place (Field whole r number) h = b_place whole (of_with (named e written whole) _ h)
    b_place (Dereference x) h = b_pointer x (of_with (pointer e written x) _ h)
    b_place (Narrow place r) h = b_place place (is_there _ (named e written place) (of_provided (holds_of _ (named e written place)) _ (of_provided (e.is_record r) _ h).1).0)

    b_pointer : (x : Expr) → is_some (pointer e written x) ≡ true → Bytes (in_expr x)
    b_pointer (Load d) h = b_untyped d h
    b_pointer (Guard x r) h = b_pointer x (is_there is_pointer (pointer e written x) (of_provided (gives_pointer (pointer e written x)) _ (of_provided (e.is_record r) _ h).1).0)
    b_pointer (Literal n) h = no h
    b_pointer _ h = no h

    b_untyped : (d : Designator) → is_some (untyped e written d) ≡ true → Bytes (in_designator d)
    b_untyped (of_type place s) h = b_place place (of_with (named e written place) (scalar_in e) h)

    b_call : (c : Call) → call_suits e written c ≡ true → Bytes (in_call c)
    b_call (Direct f xs) h = let k = heading_there (e.heading f) (all_suit e written xs) h in b_arguments xs k.0 k.1
    b_call (Indirect d xs) h = let k = code_there (with_some (designated e written d) (scalar_in e)) (all_suit e written xs) h in
        both (in_designator d) (in_arguments xs) (b_designator d (of_with (designated e written d) (scalar_in e) k.2)) (b_arguments xs k.0 k.1)

    b_arguments : (xs : Arguments) (ps : Formals) → all_suit e written xs ps ≡ true → Bytes (in_arguments xs)
    b_arguments no_argument ps h = refl
    b_arguments (next_argument x xs) none h = no h
    b_arguments (next_argument x xs) (one v s ps) h = let k = and_of (argument_suits e written x v s) (all_suit e written xs ps) h in both (in_argument x) (in_arguments xs) (b_argument x v s k.0) (b_arguments xs ps k.1)

    b_argument : (x : Argument) (v : Bool) (s : Shape) → argument_suits e written x v s ≡ true → Bytes (in_argument x)
    b_argument (ByValue x) v s h = b_expr x (value_there (mode_of v s) (formed x) (scalar e s) h)
    b_argument (ByPlace d) v s h = b_designator d (place_there (mode_of v s) s v (designated e written d) h)
    b_argument (ByRecord d) v s h = b_designator d (record_there (mode_of v s) (record_by s) (record_written e written d) (designated e written d) h)
    b_argument (ByOpen d) v s h = b_designator d (open_there (mode_of v s) (open_element s) v (length_in e written d) (designated e written d) h)

  checked_there : (x : Checked) → is_some (checked_form e written x) ≡ true → Bytes (in_expr x.form)
  checked_there x h = b_expr x.form (of_provided _ (formed x.form) h).1

  number_bytes : (x : Checked) → gives_number (checked_form e written x) ≡ true → Bytes (in_expr x.form)
  number_bytes x h = checked_there x (is_there is_number (checked_form e written x) h)

  designated_bytes : (d : Designator) (test : Named → Bool) → holds_of test (designated e written d) ≡ true → Bytes (in_designator d)
  designated_bytes d test h = b_designator d (is_there test (designated e written d) h)

  given_some : (t : Named → Bool) (o : Option Form) (q : Named → Option Form) (d : Option Named) → holds_of (λ n. t n && given_for e o (q n)) d ≡ true → (is_some d ≡ true) × (is_some o ≡ true)
  given_some t o q None h = no h
  given_some t o q (Some n) h = (refl, by o (q n) (and_of (t n) (given_for e o (q n)) h).1)
    where
      by : (o r : Option Form) → given_for e o r ≡ true → is_some o ≡ true
      by None r h = no h
      by (Some f) r h = refl

  changed_bytes : (d : Designator) (x : Checked) (test : Named → Bool) → (gives_number (checked_form e written x) && holds_of test (designated e written d)) ≡ true → Bytes (in_designator d ++ in_expr x.form)
  changed_bytes d x test h = let k = and_of (gives_number (checked_form e written x)) (holds_of test (designated e written d)) h in both (in_designator d) (in_expr x.form) (designated_bytes d test k.1) (number_bytes x k.0)

  mutual
    pub b_statement : (s : Statement) → fine e written s ≡ true → Bytes (in_statement s)
    b_statement (Assign d x) h = let k = given_some _ (checked_form e written x) _ (designated e written d) h in both (in_designator d) (in_expr x.form) (b_designator d k.0) (checked_there x k.1)
    b_statement (CopyArray d f) h = let k = and_of (holds_of _ (designated e written d)) (holds_of _ (designated e written f)) (and_of (lengths_fit (length_in e written d) (length_in e written f)) _ h).1 in both (in_designator d) (in_designator f) (designated_bytes d _ k.0) (designated_bytes f _ k.1)
    b_statement (CopyRecord d f) h = let k = and_of (holds_of _ (designated e written d)) (holds_of _ (designated e written f)) h in both (in_designator d) (in_designator f) (designated_bytes d _ k.0) (designated_bytes f _ k.1)
    b_statement (Increase d x) h = changed_bytes d x _ h
    b_statement (Decrease d x) h = changed_bytes d x _ h
    b_statement (Include d x) h = changed_bytes d x _ h
    b_statement (Exclude d x) h = changed_bytes d x _ h
    b_statement (New d) h = designated_bytes d _ h
    b_statement (Assert x) h = number_bytes x h
    b_statement (OutChar x) h = checked_there x (is_there _ (checked_form e written x) h)
    b_statement (OutInt x n) h = let k = and_of (gives_number (checked_form e written x)) (gives_number (checked_form e written n)) h in both (in_expr x.form) (in_expr n.form) (number_bytes x k.0) (number_bytes n k.1)
    b_statement (OutString d) h = designated_bytes d _ h
    b_statement OutLn h = refl
    b_statement (InChar d) h = designated_bytes d _ h
    b_statement (Invoke c) h = b_call c h
    b_statement (If branches other) h = let k = and_of (fine_branches e written branches) (fine_all e written other) h in both (in_branches branches) (in_statements other) (b_branches branches k.0) (b_statements other k.1)
    b_statement (While branches) h = b_branches branches (and_of (has_branch branches) (fine_branches e written branches) h).1
    b_statement (Repeat body x) h = let k = and_of (fine_all e written body) (gives_number (checked_form e written x)) h in both (in_statements body) (in_expr x.form) (b_statements body k.0) (number_bytes x k.1)
    b_statement (For d x y step body) h =
        let k = and_of (holds_of _ (designated e written d)) (gives_number (checked_form e written x) && (gives_number (checked_form e written y) && fine_all e written body)) (and_of (begins_there d) _ (and_of (is_step step) _ h).1).1 in
        let l = and_of (gives_number (checked_form e written x)) (gives_number (checked_form e written y) && fine_all e written body) k.1 in
        let m = and_of (gives_number (checked_form e written y)) (fine_all e written body) l.1 in
        both (in_designator d ++ in_expr x.form ++ in_expr y.form) (in_statements body)
        (both (in_designator d ++ in_expr x.form) (in_expr y.form) (both (in_designator d) (in_expr x.form) (designated_bytes d _ k.0) (number_bytes x l.0)) (number_bytes y m.0)) (b_statements body m.1)
    b_statement (Case x parts) h = let k = and_of (gives_number (checked_form e written x)) (fine_parts e written parts) h in both (in_expr x.form) (in_parts parts) (number_bytes x k.0) (b_parts parts k.1)
    b_statement (CasePointer x parts) h = let k = and_of (gives_pointer (checked_form e written x)) (fine_parts e written parts) h in both (in_expr x.form) (in_parts parts) (checked_there x (is_there is_pointer (checked_form e written x) k.0)) (b_parts parts k.1)
    b_statement (CaseParameter d parts) h = let k = and_of (holds_of _ (designated e written d)) (fine_parts e written parts) h in both (in_designator d) (in_parts parts) (designated_bytes d _ k.0) (b_parts parts k.1)

    pub b_statements : (xs : Statements) → fine_all e written xs ≡ true → Bytes (in_statements xs)
    b_statements no_statement h = refl
    b_statements (next_statement s rest) h = let k = and_of (fine e written s) (fine_all e written rest) h in both (in_statement s) (in_statements rest) (b_statement s k.0) (b_statements rest k.1)

    b_branches : (bs : Branches) → fine_branches e written bs ≡ true → Bytes (in_branches bs)
    b_branches no_branch h = refl
    b_branches (next_branch x body rest) h =
        let k = and_of (gives_number (checked_form e written x)) (fine_all e written body && fine_branches e written rest) h in
        let l = and_of (fine_all e written body) (fine_branches e written rest) k.1 in
        both (in_expr x.form ++ in_statements body) (in_branches rest) (both (in_expr x.form) (in_statements body) (number_bytes x k.0) (b_statements body l.0)) (b_branches rest l.1)

    b_parts : (ps : Parts) → fine_parts e written ps ≡ true → Bytes (in_parts ps)
    b_parts no_part h = refl
    b_parts (next_part when body rest) h = let k = and_of (fine_all e written body) (fine_parts e written rest) (and_of (when_fine e when) (fine_all e written body && fine_parts e written rest) h).1 in both (in_statements body) (in_parts rest) (b_statements body k.0) (b_parts rest k.1)

-- and those of the expression behind RETURN
pub answer_bytes : (e : Setting) (result : Shape) (o : Option Checked) → answer_suits e result o ≡ true → Bytes (in_answer o)
answer_bytes e result None h = refl
answer_bytes e Nothing (Some x) h = checked_there e (outline e) x (given_left (checked_form e (outline e) x) (scalar e Nothing) h)
  where
    given_left : (o q : Option Form) → given_for e o q ≡ true → is_some o ≡ true
    given_left None q h = no h
    given_left (Some f) q h = refl
answer_bytes e result (Some x) h = checked_there e (outline e) x (given_left (checked_form e (outline e) x) (scalar e result) h)
  where
    given_left : (o q : Option Form) → given_for e o q ≡ true → is_some o ≡ true
    given_left None q h = no h
    given_left (Some f) q h = refl
