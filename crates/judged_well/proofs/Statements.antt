-- Statements: by recursion on their syntax, each construct from its parts.
use Rattle.std.proofs.Common.{◌≡◌, List, [], true, false, ◌&&◌, Option, Some, None, refl, ap, ◌∙◌, ℕ}
use Rattle.std.specs.Prelude.{ℤ}
use Rattle.ob_types.specs.WellFormed.{holds_of, is_step}
use Rattle.ob_types.proofs.Tests.{and_from}
use Rattle.ob_syntax.specs.Syntax as S
use Rattle.ob_syntax.specs.declared.statements.NextRange.{NextRange}
use Rattle.ob_syntax.specs.declared.statements.Range.{Range}
use Rattle.ob_judge.specs.Judged.{Keeps}
use Rattle.ob_judge.specs.Shapes.{Shape, is_number}
use Rattle.ob_judge.specs.Operators.{is_char}
use Rattle.ob_judge.specs.Image.{Checked, Designator, Labels, Extends, Statement, If, While, Repeat, For, Statements, no_statement, next_statement, Branches, no_branch, next_branch, Parts, no_part, next_part, When}
use Rattle.ob_judge.specs.Scopes.{World, Source, place}
use Rattle.ob_judge.specs.Operands.{Operand, checked, designator_of}
use Rattle.ob_judge.specs.Symbols.{expression_first, bare}
use Rattle.ob_judge.specs.Assignments.{integer_variable}
use Rattle.ob_judge.specs.Cases.{SelectorOf, OnInteger, OnChar, OnType, case_variable, named_alone, selector_of, as_list, tag_of, narrow, when_of, case_of}
use Rattle.ob_judge.specs.Statements.{statements, statement, next_statements, branches, else_part, case_part, next_cases, body_of}
use Rattle.judged_well.specs.Gives.{Gives}
use Rattle.judged_well.specs.Forms.{Named, is_dynamic, is_full, gives_number, gives_pointer}
use Rattle.judged_well.specs.Setting.{Setting, IsOrder}
use Rattle.judged_well.specs.Typing.{outline, designated, takes, checked_form, fine, fine_all, fine_branches, fine_parts, when_fine, begins_there}
use Rattle.judged_well.specs.Standing.{IsRead, Stands, Right, NarrowsTo, to_pointer, to_record}
use Rattle.judged_well.proofs.Judging.{keeps, and_then, by_rule, by_some, gives_both}
use Rattle.judged_well.proofs.Naming.{t_named_own}
use Rattle.judged_well.proofs.Operating.{pointers, char_value}
use Rattle.judged_well.proofs.Storing.{checked_is}
use Rattle.judged_well.specs.Standing.{is_plain}
use Rattle.judged_well.proofs.Tree.{t_expression}
use Rattle.judged_well.proofs.Worlds.{right_narrow}
use Rattle.judged_well.proofs.Selectors.{IsCase, of_pointer, of_record, IsSelector, t_selector, t_type_labels, t_narrows}
use Rattle.judged_well.proofs.Deeds.{t_assign_or_call, t_condition, number_checked, t_number, t_integer_variable, integer_base}
use Rattle.judged_well.proofs.Labels.{t_ranges, t_step}

module _ (e : Setting) (order : IsOrder e) (p : Source) (read : IsRead p) where
  abbrev IsFineAll : Statements → Type 0
  IsFineAll xs = fine_all e (outline e) xs ≡ true

  -- what is put before those that follow
  abbrev PutsFine : (Statements → Statements) → Type 0
  PutsFine f = (xs : Statements) → IsFineAll xs → IsFineAll (f xs)

  abbrev AreBranches : Branches → Type 0
  AreBranches bs = fine_branches e (outline e) bs ≡ true

  abbrev AreParts : Parts → Type 0
  AreParts ps = fine_parts e (outline e) ps ≡ true

  abbrev PutsParts : (Parts → Parts) × List (ℤ × ℤ) → Type 0
  PutsParts r = (ps : Parts) → AreParts ps → AreParts (r.0 ps)

  put : (s : Statement) → fine e (outline e) s ≡ true → Gives PutsFine (Keeps (next_statement s))
  put s h = keeps PutsFine (next_statement s) (λ xs k. and_from (fine e (outline e) s) (fine_all e (outline e) xs) h k)

  -- ---- the selector of a CASE

  value_case : (w : World) → (right : Right e p w) → (x : Operand) → Stands e x → (s : SelectorOf) → IsSelector e order p w right x s → (parts : Parts) → AreParts parts → fine e (outline e) (case_of s x parts) ≡ true
  value_case w right x h OnInteger i parts k = and_from (gives_number (checked_form e (outline e) (checked x))) (fine_parts e (outline e) parts) (number_checked e order p read w right x h i) k
  value_case w right x h OnChar i parts k = and_from (gives_number (checked_form e (outline e) (checked x))) (fine_parts e (outline e) parts)
      (ap gives_number (checked_is e order x h (ap is_plain i)) ∙ char_value e order p w right x h (ap is_char i)) k
  value_case w right x h (OnType d s) i parts k = by i.names_it s i.case i.is
    where
      by : (n : Named) (s : Shape) → IsCase e order p w right x n s → x.shape ≡ s → fine e (outline e) (case_of (OnType d s) x parts) ≡ true
      by n s (of_pointer m j c) is = and_from (gives_pointer (checked_form e (outline e) (checked x))) (fine_parts e (outline e) parts)
          (ap gives_pointer (checked_is e order x h (ap is_plain is)) ∙ pointers e order p w right x h j is) k
      by n s (of_record r m q a b) is = and_from (holds_of is_dynamic (designated e (outline e) (designator_of x))) (fine_parts e (outline e) parts) (ap (holds_of is_dynamic) a ∙ b) k

  -- the world of a part's body
  abbrev IsWhen : When × World × List (ℤ × ℤ) → Type 0
  IsWhen r = (when_fine e r.0 ≡ true) × Right e p r.1

  narrowing_there : (tag : ℕ) (n : Named) (t : Shape) → NarrowsTo e tag n t → e.is_record tag ≡ true
  narrowing_there tag n t (to_pointer k m c h) = order.there m tag h
  narrowing_there tag n t (to_record r h) = h

  t_when : (w : World) → (right : Right e p w) → (x : Operand) (s : SelectorOf) → IsSelector e order p w right x s → (taken : List (ℤ × ℤ)) (first : Range) (more : List NextRange) → Gives IsWhen (when_of p w s taken first more)
  t_when w right x OnInteger i taken first more = and_then (t_ranges e order p read w right false (as_list first more) taken) (λ y h. keeps IsWhen (Labels y.labels, w, y.taken) (h, right))
  t_when w right x OnChar i taken first more = and_then (t_ranges e order p read w right true (as_list first more) taken) (λ y h. keeps IsWhen (Labels y.labels, w, y.taken) (h, right))
  t_when w right x (OnType d s) i taken first more = and_then (t_type_labels e order p w right s first more) (λ t h.
      let to = t_narrows e order p w right x i.names_it s t i.case h in
      keeps IsWhen (Extends (tag_of w.known t), narrow w d t, taken)
      (narrowing_there (tag_of w.known t) i.names_it t to, right_narrow p e w right d t i.names_it i.are to i.own))

  one_branch : (g : Checked) (b : Statements) (more : Branches) → gives_number (checked_form e (outline e) g) ≡ true → IsFineAll b → AreBranches more → AreBranches (next_branch g b more)
  one_branch g b more h k l = and_from (gives_number (checked_form e (outline e) g)) (fine_all e (outline e) b && fine_branches e (outline e) more) h (and_from (fine_all e (outline e) b) (fine_branches e (outline e) more) k l)

  for_fine : (d : Designator) (x y : Checked) (step : ℤ) (b : Statements) → is_step step ≡ true → begins_there d ≡ true → holds_of (takes e is_full) (designated e (outline e) d) ≡ true → gives_number (checked_form e (outline e) x) ≡ true → gives_number (checked_form e (outline e) y) ≡ true → IsFineAll b → fine e (outline e) (For d x y step b) ≡ true
  for_fine d x y step b g whole h k l m =
      and_from (is_step step) (begins_there d && (holds_of (takes e is_full) (designated e (outline e) d) && (gives_number (checked_form e (outline e) x) && (gives_number (checked_form e (outline e) y) && fine_all e (outline e) b)))) g
      (and_from (begins_there d) (holds_of (takes e is_full) (designated e (outline e) d) && (gives_number (checked_form e (outline e) x) && (gives_number (checked_form e (outline e) y) && fine_all e (outline e) b))) whole
      (and_from (holds_of (takes e is_full) (designated e (outline e) d)) (gives_number (checked_form e (outline e) x) && (gives_number (checked_form e (outline e) y) && fine_all e (outline e) b)) h
      (and_from (gives_number (checked_form e (outline e) x)) (gives_number (checked_form e (outline e) y) && fine_all e (outline e) b) k (and_from (gives_number (checked_form e (outline e) y)) (fine_all e (outline e) b) l m))))

  mutual
    pub t_statements : (w : World) → Right e p w → (x : S.Stats) → Gives IsFineAll (statements p w x)
    t_statements w right (S.stats first more) = and_then (t_statement w right first) (λ f h. and_then (t_next_statements w right more) (λ xs k. keeps IsFineAll (f xs) (h xs k)))

    pub t_statement : (w : World) → Right e p w → (x : S.Stat) → Gives PutsFine (statement p w x)
    t_statement w right S.Empty = keeps PutsFine (λ xs. xs) (λ xs h. h)
    t_statement w right (S.AssignOrCall designator assigned) = and_then (t_assign_or_call e order p read w right designator assigned) (λ d h. put d h)
    t_statement w right (S.If if_word guard then_word body elsifs other end_word) =
        and_then (t_condition e order p read w right guard) (λ g h. and_then (t_statements w right body) (λ b k. and_then (t_branches w right elsifs) (λ more l. and_then (t_else w right other) (λ c m.
        put (If (next_branch g b more) c) (and_from (fine_branches e (outline e) (next_branch g b more)) (fine_all e (outline e) c) (one_branch g b more h k l) m)))))
    t_statement w right (S.Case case_word selector of_word first more end_word) =
        and_then (gives_both (t_expression e order p read w right selector) (t_selector e order p w right selector)) (λ x h.
        by_some 31 (place p (expression_first selector)) (selector_of (case_variable (named_alone p w (bare selector))) x.shape) (λ s is.
        let i = h.1 s is in
        and_then (t_case_part w right x s i [] first) (λ one k. and_then (t_next_cases w right x s i one.1 more) (λ rest l.
        put (case_of s x (one.0 rest)) (value_case w right x h.0 s i (one.0 rest) (k rest l))))))
    t_statement w right (S.While while_word guard do_word body elsifs end_word) =
        and_then (t_condition e order p read w right guard) (λ g h. and_then (t_statements w right body) (λ b k. and_then (t_branches w right elsifs) (λ more l.
        put (While (next_branch g b more)) (one_branch g b more h k l))))
    t_statement w right (S.Repeat repeat_word body until_word guard) =
        and_then (t_statements w right body) (λ b k. and_then (t_condition e order p read w right guard) (λ g h.
        put (Repeat b g) (and_from (fine_all e (outline e) b) (gives_number (checked_form e (outline e) g)) k h)))
    t_statement w right (S.For for_word variable becomes from to_word to by_ do_word body end_word) =
        and_then (t_named_own e order p w right variable) (λ o h. and_then (t_expression e order p read w right from) (λ x k.
        by_some 31 (place p variable) (integer_variable w o) (λ d is.
        by_rule 31 (place p (expression_first from)) (is_number x.shape) (λ n.
        and_then (t_number e order p read w right to) (λ y l. and_then (t_step e order p read w right by_) (λ step z. and_then (t_statements w right body) (λ b m.
        put (For d (checked x) y step b) (for_fine d (checked x) y step b z (integer_base e order p read w right o h.1 d is) (t_integer_variable e order p read w right o h.0 d is) (number_checked e order p read w right x k n) l m))))))))

    t_next_statements : (w : World) → Right e p w → (x : S.NextStats) → Gives IsFineAll (next_statements p w x)
    t_next_statements w right S.no_stat = keeps IsFineAll no_statement refl
    t_next_statements w right (S.next_stat semicolon s rest) = and_then (t_statement w right s) (λ f h. and_then (t_next_statements w right rest) (λ xs k. keeps IsFineAll (f xs) (h xs k)))

    t_branches : (w : World) → Right e p w → (x : S.Elsifs) → Gives AreBranches (branches p w x)
    t_branches w right S.no_elsif = keeps AreBranches no_branch refl
    t_branches w right (S.next_elsif elsif_word guard then_word body rest) =
        and_then (t_condition e order p read w right guard) (λ g h. and_then (t_statements w right body) (λ b k. and_then (t_branches w right rest) (λ more l. keeps AreBranches (next_branch g b more) (one_branch g b more h k l))))

    t_else : (w : World) → Right e p w → (x : S.MaybeElse) → Gives IsFineAll (else_part p w x)
    t_else w right S.no_else = keeps IsFineAll no_statement refl
    t_else w right (S.otherwise else_word body) = t_statements w right body

    t_case_part : (w : World) → (right : Right e p w) → (x : Operand) (s : SelectorOf) → IsSelector e order p w right x s → (taken : List (ℤ × ℤ)) → (c : S.MaybeCase) → Gives PutsParts (case_part p w s taken c)
    t_case_part w right x s i taken S.no_case = keeps PutsParts ((λ rest. rest), taken) (λ ps h. h)
    t_case_part w right x s i taken (S.one_case first more colon body) = and_then (t_when w right x s i taken first more) (λ r inner. and_then (t_statements r.1 inner.1 body) (λ b k.
        keeps PutsParts (next_part r.0 b, r.2) (λ ps h. and_from (when_fine e r.0) (fine_all e (outline e) b && fine_parts e (outline e) ps) inner.0 (and_from (fine_all e (outline e) b) (fine_parts e (outline e) ps) k h))))

    t_next_cases : (w : World) → (right : Right e p w) → (x : Operand) (s : SelectorOf) → IsSelector e order p w right x s → (taken : List (ℤ × ℤ)) → (c : S.NextCases) → Gives AreParts (next_cases p w s taken c)
    t_next_cases w right x s i taken S.no_next_case = keeps AreParts no_part refl
    t_next_cases w right x s i taken (S.next_case bar c rest) = and_then (t_case_part w right x s i taken c) (λ one h. and_then (t_next_cases w right x s i one.1 rest) (λ more k. keeps AreParts (one.0 more) (h more k)))

  pub t_body : (w : World) → Right e p w → (b : Option S.Body) → Gives IsFineAll (body_of p w b)
  t_body w right None = keeps IsFineAll no_statement refl
  t_body w right (Some b) = t_statements w right b.stats
