-- Statements name pointer types that there are: by recursion on their syntax.
use Rattle.std.proofs.Common.{◌≡◌, ℕ, ◌<◌, List, [], ◌∷◌, Bool, true, false, not, Option, Some, None, refl, ap, ap₂, ◌∙◌, subst}
use Rattle.std.specs.Prelude.{slice_get, option_map, ℤ, if◌then◌else◌}
use Rattle.ob_types.proofs.Tests.{none_some, some_same}
use Rattle.ob_syntax.specs.Syntax as S
use Rattle.ob_syntax.specs.declared.statements.NextRange.{NextRange}
use Rattle.ob_syntax.specs.declared.statements.Range.{Range}
use Rattle.ob_syntax.specs.declared.statements.Label.{Label}
use Rattle.ob_syntax.specs.declared.statements.Label.TheVariants as TheLabel
use Rattle.ob_judge.specs.Judged.{Judged, Keeps}
use Rattle.ob_judge.specs.Shapes.{Shape, Integer, Nothing, Array, Open, Record, Pointer, Procedure, is_number, is_truth, extends}
use Rattle.ob_judge.specs.Image.{Literal, Result, Checked, Designator, of_type, Labels, Extends, Statement, Assign, CopyArray, CopyRecord, Invoke, If, While, Repeat, For, Case, CasePointer, CaseParameter, Statements, no_statement, next_statement, Branches, no_branch, next_branch, Parts, no_part, next_part, When, Call}
use Rattle.ob_judge.specs.Scopes.{Object, AConstant, AType, AVariable, AStandard, World, Source, place}
use Rattle.ob_judge.specs.Operands.{Operand, What, Valued, Proper, is_variable, is_read_only, whole_variable, checked, designator_of}
use Rattle.ob_judge.specs.Calls.{may_assign, stored, called}
use Rattle.ob_judge.specs.Symbols.{expression_first, bare}
use Rattle.ob_judge.specs.Names.{named, member_symbol}
use Rattle.ob_judge.specs.Expressions.{designator}
use Rattle.ob_judge.specs.Assignments.{whole_object, destination, assigned, assignment, alone, called_alone, is_call, called_bare, deed_of, call_statement, assign_or_call, condition, number, integer_variable, step_of}
use Rattle.ob_judge.specs.Cases.{SelectorOf, OnInteger, OnChar, OnType, case_variable, named_alone, selector_of, as_list, label_object, label_symbol, label_type, no_high, type_label, type_labels, ranges, tag_of, narrow, when_of, case_of}
use Rattle.ob_judge.specs.Statements.{statements, statement, next_statements, branches, else_part, case_part, next_cases, body_of}
use Rattle.ob_judge.specs.Declarations.{answer}
use Rattle.ob_judge.specs.Parts.{is_nothing}
use Rattle.judged_tree.specs.Outline.{outlined_checked, outlined_designator, outlined_call, outlined_statements, outlined_branches, outlined_parts}
use Rattle.judged_well.specs.Gives.{Gives}
use Rattle.judged_well.proofs.Judging.{keeps, breaks, and_then, by_rule, by_some, by_unit, anything}
use Rattle.judged_outlines.specs.Among.{PointsAmong, ObjectAmong, WorldAmong}
use Rattle.judged_outlines.proofs.Images.{OperandStays, DesignatorStays, CheckedStays, StatementStays, WhatStays, designator_stays, checked_stays, stored_stays, declared_stays}
use Rattle.judged_outlines.proofs.Named.{a_named, a_qualified, whole_stays}
use Rattle.judged_outlines.proofs.Called.{a_called, a_standard}
use Rattle.judged_outlines.proofs.Expressed.{a_expression, a_designator}

result_call : (a b : Call) → Result a ≡ Result b → a ≡ b
result_call a b h = cc

module _ (n : ℕ) (p : Source) (before later : List (Option ℕ)) (same : (k : ℕ) → k < n → slice_get later k ≡ slice_get before k) where
  abbrev Stays : Operand → Type 0
  Stays = OperandStays n before later same

  abbrev SameDesignator : Designator → Type 0
  SameDesignator = DesignatorStays n before later same

  abbrev SameChecked : Checked → Type 0
  SameChecked = CheckedStays n before later same

  abbrev SameStatement : Statement → Type 0
  SameStatement = StatementStays n before later same

  abbrev pub SameStatements : Statements → Type 0
  SameStatements xs = outlined_statements later xs ≡ outlined_statements before xs

  abbrev SameBranches : Branches → Type 0
  SameBranches bs = outlined_branches later bs ≡ outlined_branches before bs

  abbrev SameParts : Parts → Type 0
  SameParts ps = outlined_parts later ps ≡ outlined_parts before ps

  pointed : (x : Operand) → Stays x → SameDesignator (designator_of x)
  pointed x h = designator_stays n before later same x h

  whole : (x : Operand) → Stays x → SameChecked (checked x)
  whole x h = checked_stays n before later same x h

  module _ (w : World) (among : WorldAmong n w) where
    -- ---- assignments

    destined : (o : Object) → ObjectAmong n o → (selectors : S.Selectors) (m : Judged Operand) → Gives Stays m → Gives Stays (whole_object w o selectors m)
    destined (AVariable v) h S.no_selector m g = keeps Stays (whole_variable w v) (whole_stays n p w among before later same v h)
    destined (AVariable v) h (S.selected s rest) m g = g
    destined (AConstant c) h selectors m g = g
    destined _ h selectors m g = g

    a_destination : (d : S.Designator) → Gives Stays (destination p w d)
    a_destination d = and_then (a_named n p w among d.name) (λ o h. destined o h d.selectors (designator p w d) (a_designator n p w among before later same d))

    assigned_stays : (s : Shape) (x y : Operand) → Stays x → Stays y → SameStatement (assigned s x y)
    assigned_stays (Array m a) x y h k = ap₂ (λ c d. CopyArray c d) (pointed x h) (pointed y k)
    assigned_stays (Open a) x y h k = ap₂ (λ c d. CopyArray c d) (pointed x h) (pointed y k)
    assigned_stays (Record r) x y h k = ap₂ (λ c d. CopyRecord c d) (pointed x h) (pointed y k)
    assigned_stays Integer x y h k = ap₂ (λ c d. Assign c d) (pointed x h) (stored_stays n before later same Integer y k)
    assigned_stays s x y h k = ap₂ (λ c d. Assign c d) (pointed x h) (stored_stays n before later same s y k)

    a_assignment : (d : S.Designator) (v : S.Expression) → Gives SameStatement (assignment p w d v)
    a_assignment d v = and_then (a_destination d) (λ x h. and_then (a_expression n p w among before later same v) (λ y k.
        by_rule 31 (place p d.name) (is_variable x) (λ used.
        by_rule 33 (place p d.name) (not (is_read_only x)) (λ free.
        by_rule 31 (place p (expression_first v)) (may_assign w.known x.shape y) (λ may.
        keeps SameStatement (assigned x.shape x y) (assigned_stays x.shape x y h k))))))

    -- ---- calls

    a_called_alone : (at : ℕ) (o : Option Object) (m : Judged Operand) → Gives Stays m → Gives Stays (called_alone w at o m)
    a_called_alone at (Some (AStandard s)) m g = a_standard n p w before later same at s [] tt
    a_called_alone at (Some (AConstant c)) m g = g
    a_called_alone at (Some _) m g = g
    a_called_alone at None m g = g

    a_called_bare : (at : ℕ) (x : Operand) → Stays x → (s : Shape) → PointsAmong n s → Gives Stays (called_bare w at x s)
    a_called_bare at x h (Procedure ps result) g = by (is_call x.what)
      where
        by : (b : Bool) → Gives Stays (if b then Keeps x else called w at x ps result [])
        by true = keeps Stays x h
        by false = a_called n p w before later same at x h ps result g.1 [] tt
    a_called_bare at x h Integer g = keeps Stays x h
    a_called_bare at x h _ g = keeps Stays x h

    a_deed : (at : ℕ) (y : Operand) → Stays y → Gives SameStatement (deed_of at y.shape y.what)
    a_deed at y h = by y.shape y.what h.what
      where
        by : (s : Shape) (k : What) → WhatStays n before later same k → Gives SameStatement (deed_of at s k)
        by Nothing (Proper d) i = keeps SameStatement d i
        by Nothing (Valued (Result c)) i = keeps SameStatement (Invoke c) (ap Invoke (result_call (outlined_call later c) (outlined_call before c) i))
        by Nothing (Valued (Literal bits)) i = breaks SameStatement 31 at
        by Nothing (Valued _) i = breaks SameStatement 31 at
        by Nothing _ i = breaks SameStatement 31 at
        by Integer k i = breaks SameStatement 31 at
        by _ k i = breaks SameStatement 31 at

    a_call_statement : (d : S.Designator) → Gives SameStatement (call_statement p w d)
    a_call_statement d = and_then (anything (named p w d.name)) (λ o z. and_then (anything (alone p w o d.selectors)) (λ only z.
        and_then (a_called_alone (place p d.name) only (designator p w d) (a_designator n p w among before later same d)) (λ x h.
        and_then (a_called_bare (place p d.name) x h x.shape h.shape) (λ y k. a_deed (place p d.name) y k))))

    a_assign_or_call : (d : S.Designator) (a : Option S.Assigned) → Gives SameStatement (assign_or_call p w d a)
    a_assign_or_call d None = a_call_statement d
    a_assign_or_call d (Some a) = a_assignment d a.value

    -- ---- conditions, FOR

    a_condition : (x : S.Expression) → Gives SameChecked (condition p w x)
    a_condition x = and_then (a_expression n p w among before later same x) (λ y h. by_rule 31 (place p (expression_first x)) (is_truth y.shape) (λ it. keeps SameChecked (checked y) (whole y h)))

    a_number : (x : S.Expression) → Gives SameChecked (number p w x)
    a_number x = and_then (a_expression n p w among before later same x) (λ y h. by_rule 31 (place p (expression_first x)) (is_number y.shape) (λ it. keeps SameChecked (checked y) (whole y h)))

    variable_stays : (o : Object) → ObjectAmong n o → (d : Designator) → integer_variable w o ≡ Some d → SameDesignator d
    variable_stays (AVariable v) h d is = by v.shape is
      where
        by : (s : Shape) → (elim s as (λ _. Option Designator) [ Integer ↦ Some (of_type v.place Integer) | other ↦ None ]) ≡ Some d → SameDesignator d
        by Integer i = subst SameDesignator (some_same (of_type v.place Integer) d i) (ap (λ a. of_type a Integer) (declared_stays n before later same v.place h.1))
        by Nothing i = none_some d i
        by _ i = none_some d i
    variable_stays (AConstant c) h d is = none_some d is
    variable_stays _ h d is = none_some d is

    -- ---- CASE

    case_stays : (s : SelectorOf) (x : Operand) (parts : Parts) → Stays x → SameParts parts → SameStatement (case_of s x parts)
    case_stays (OnType d (Pointer k)) x parts h i = ap₂ (λ a b. CasePointer a b) (whole x h) i
    case_stays (OnType d Integer) x parts h i = ap₂ (λ a b. CaseParameter a b) (pointed x h) i
    case_stays (OnType d _) x parts h i = ap₂ (λ a b. CaseParameter a b) (pointed x h) i
    case_stays OnInteger x parts h i = ap₂ (λ a b. Case a b) (whole x h) i
    case_stays OnChar x parts h i = ap₂ (λ a b. Case a b) (whole x h) i

    abbrev MaybeAmong : Option Object → Type 0
    MaybeAmong None = Unit {0}
    MaybeAmong (Some o) = ObjectAmong n o

    a_label_object : (l : Label) → Gives MaybeAmong (label_object p w l)
    a_label_object (TheLabel.Named q) = and_then (a_qualified n p w among q.name (member_symbol q.member)) (λ o h. keeps MaybeAmong (Some o) h)
    a_label_object (TheLabel.Int i) = keeps MaybeAmong None tt
    a_label_object (TheLabel.Char i) = keeps MaybeAmong None tt
    a_label_object (TheLabel.Text i) = keeps MaybeAmong None tt

    label_among : (o : Option Object) → MaybeAmong o → (t : Shape) → label_type o ≡ Some t → PointsAmong n t
    label_among (Some (AType s)) h t is = subst (PointsAmong n) (some_same s t is) h
    label_among (Some (AConstant c)) h t is = none_some t is
    label_among (Some _) h t is = none_some t is
    label_among None h t is = none_some t is

    a_type_label : (s : Shape) (first : Bool) (r : Range) → Gives (PointsAmong n) (type_label p w s first r)
    a_type_label s first r = and_then (a_label_object r.low) (λ o h. by_some 39 (place p (label_symbol r.low)) (label_type o) (λ t is.
        by_rule 39 (place p (label_symbol r.low)) (extends w.known t s) (λ it. by_unit (no_high p w (place p (label_symbol r.low)) r.high)
        (by_rule 39 (place p (label_symbol r.low)) first (λ one. keeps (PointsAmong n) t (label_among o h t is))))))

    a_type_labels : (s : Shape) (first : Range) (more : List NextRange) → Gives (PointsAmong n) (type_labels p w s first more)
    a_type_labels s first [] = a_type_label s true first
    a_type_labels s first (r ∷ rs) = and_then (anything (type_label p w s true first)) (λ t z. a_type_label s false r.range)

    -- the world of a part's body
    abbrev pub InWhen : When × World × List (ℤ × ℤ) → Type 0
    InWhen r = WorldAmong n r.1

    narrowed_among : (d : _) (t : Shape) → PointsAmong n t → WorldAmong n (narrow w d t)
    narrowed_among d t h = record { names = among.names; members = among.members; fields = among.fields; narrowed = (h, among.narrowed) }

    a_when : (s : SelectorOf) (taken : List (ℤ × ℤ)) (first : Range) (more : List NextRange) → Gives InWhen (when_of p w s taken first more)
    a_when OnInteger taken first more = and_then (anything (ranges p w false (as_list first more) taken)) (λ y z. keeps InWhen (Labels y.labels, w, y.taken) among)
    a_when OnChar taken first more = and_then (anything (ranges p w true (as_list first more) taken)) (λ y z. keeps InWhen (Labels y.labels, w, y.taken) among)
    a_when (OnType d s) taken first more = and_then (a_type_labels s first more) (λ t h. keeps InWhen (Extends (tag_of w.known t), narrow w d t, taken) (narrowed_among d t h))

  -- ---- sequences

  -- what is put before those that follow
  abbrev Puts : (Statements → Statements) → Type 0
  Puts f = (xs : Statements) → SameStatements xs → SameStatements (f xs)

  abbrev PutsParts : (Parts → Parts) × List (ℤ × ℤ) → Type 0
  PutsParts r = (ps : Parts) → SameParts ps → SameParts (r.0 ps)

  put : (s : Statement) → SameStatement s → Gives Puts (Keeps (next_statement s))
  put s h = keeps Puts (next_statement s) (λ xs k. ap₂ (λ a b. next_statement a b) h k)

  one_branch : (g : Checked) (b : Statements) (more : Branches) → SameChecked g → SameStatements b → SameBranches more → SameBranches (next_branch g b more)
  one_branch g b more h k l = ap (λ c. next_branch c (outlined_statements later b) (outlined_branches later more)) h ∙ ap₂ (λ x y. next_branch (outlined_checked before g) x y) k l

  for_stays : (d : Designator) (x y : Checked) (step : ℤ) (b : Statements) → SameDesignator d → SameChecked x → SameChecked y → SameStatements b → SameStatement (For d x y step b)
  for_stays d x y step b h i j k = ap₂ (λ a c. For a c (outlined_checked later y) step (outlined_statements later b)) h i ∙ ap₂ (λ a c. For (outlined_designator before d) (outlined_checked before x) a step c) j k

  mutual
    a_statements : (w : World) → WorldAmong n w → (x : S.Stats) → Gives SameStatements (statements p w x)
    a_statements w among (S.stats first more) = and_then (a_statement w among first) (λ f h. and_then (a_next_statements w among more) (λ xs k. keeps SameStatements (f xs) (h xs k)))

    a_statement : (w : World) → WorldAmong n w → (x : S.Stat) → Gives Puts (statement p w x)
    a_statement w among S.Empty = keeps Puts (λ xs. xs) (λ xs h. h)
    a_statement w among (S.AssignOrCall designator assigned) = and_then (a_assign_or_call w among designator assigned) (λ d h. put d h)
    a_statement w among (S.If if_word guard then_word body elsifs other end_word) =
        and_then (a_condition w among guard) (λ g h. and_then (a_statements w among body) (λ b k. and_then (a_branches w among elsifs) (λ more l. and_then (a_else w among other) (λ c m.
        put (If (next_branch g b more) c) (ap₂ (λ x y. If x y) (one_branch g b more h k l) m)))))
    a_statement w among (S.Case case_word selector of_word first more end_word) =
        and_then (a_expression n p w among before later same selector) (λ x h.
        by_some 31 (place p (expression_first selector)) (selector_of (case_variable (named_alone p w (bare selector))) x.shape) (λ s is.
        and_then (a_case_part w among s [] first) (λ one k. and_then (a_next_cases w among s one.1 more) (λ rest l.
        put (case_of s x (one.0 rest)) (case_stays w among s x (one.0 rest) h (k rest l))))))
    a_statement w among (S.While while_word guard do_word body elsifs end_word) =
        and_then (a_condition w among guard) (λ g h. and_then (a_statements w among body) (λ b k. and_then (a_branches w among elsifs) (λ more l.
        put (While (next_branch g b more)) (ap While (one_branch g b more h k l)))))
    a_statement w among (S.Repeat repeat_word body until_word guard) =
        and_then (a_statements w among body) (λ b k. and_then (a_condition w among guard) (λ g h. put (Repeat b g) (ap₂ (λ x y. Repeat x y) k h)))
    a_statement w among (S.For for_word variable becomes from to_word to by_ do_word body end_word) =
        and_then (a_named n p w among variable) (λ o h. and_then (a_expression n p w among before later same from) (λ x k.
        by_some 31 (place p variable) (integer_variable w o) (λ d is.
        by_rule 31 (place p (expression_first from)) (is_number x.shape) (λ it.
        and_then (a_number w among to) (λ y l. and_then (anything (step_of p w by_)) (λ step z. and_then (a_statements w among body) (λ b m.
        put (For d (checked x) y step b) (for_stays d (checked x) y step b (variable_stays w among o h d is) (whole x k) l m))))))))

    a_next_statements : (w : World) → WorldAmong n w → (x : S.NextStats) → Gives SameStatements (next_statements p w x)
    a_next_statements w among S.no_stat = keeps SameStatements no_statement refl
    a_next_statements w among (S.next_stat semicolon s rest) = and_then (a_statement w among s) (λ f h. and_then (a_next_statements w among rest) (λ xs k. keeps SameStatements (f xs) (h xs k)))

    a_branches : (w : World) → WorldAmong n w → (x : S.Elsifs) → Gives SameBranches (branches p w x)
    a_branches w among S.no_elsif = keeps SameBranches no_branch refl
    a_branches w among (S.next_elsif elsif_word guard then_word body rest) =
        and_then (a_condition w among guard) (λ g h. and_then (a_statements w among body) (λ b k. and_then (a_branches w among rest) (λ more l. keeps SameBranches (next_branch g b more) (one_branch g b more h k l))))

    a_else : (w : World) → WorldAmong n w → (x : S.MaybeElse) → Gives SameStatements (else_part p w x)
    a_else w among S.no_else = keeps SameStatements no_statement refl
    a_else w among (S.otherwise else_word body) = a_statements w among body

    a_case_part : (w : World) → WorldAmong n w → (s : SelectorOf) (taken : List (ℤ × ℤ)) (c : S.MaybeCase) → Gives PutsParts (case_part p w s taken c)
    a_case_part w among s taken S.no_case = keeps PutsParts ((λ rest. rest), taken) (λ ps h. h)
    a_case_part w among s taken (S.one_case first more colon body) = and_then (a_when w among s taken first more) (λ r inner. and_then (a_statements r.1 inner body) (λ b k.
        keeps PutsParts (next_part r.0 b, r.2) (λ ps h. ap₂ (λ x y. next_part r.0 x y) k h)))

    a_next_cases : (w : World) → WorldAmong n w → (s : SelectorOf) (taken : List (ℤ × ℤ)) (c : S.NextCases) → Gives SameParts (next_cases p w s taken c)
    a_next_cases w among s taken S.no_next_case = keeps SameParts no_part refl
    a_next_cases w among s taken (S.next_case bar c rest) = and_then (a_case_part w among s taken c) (λ one h. and_then (a_next_cases w among s one.1 rest) (λ more k. keeps SameParts (one.0 more) (h more k)))

  pub a_body : (w : World) → WorldAmong n w → (b : Option S.Body) → Gives SameStatements (body_of p w b)
  a_body w among None = keeps SameStatements no_statement refl
  a_body w among (Some b) = a_statements w among b.stats

  -- the expression behind RETURN
  abbrev pub SameAnswer : Option Checked → Type 0
  SameAnswer a = option_map (outlined_checked later) a ≡ option_map (outlined_checked before) a

  pub a_answer : (w : World) → WorldAmong n w → (result : Shape) (end_word : ℕ) (r : Option S.Returned) → Gives SameAnswer (answer p result end_word r w)
  a_answer w among result end_word None = by_rule 41 (place p end_word) (is_nothing result) (λ it. keeps SameAnswer None refl)
  a_answer w among result end_word (Some r) = and_then (a_expression n p w among before later same r.value) (λ x h.
      by_rule 41 (place p r.return_word) (not (is_nothing result)) (λ it.
      by_rule 31 (place p (expression_first r.value)) (may_assign w.known result x) (λ may.
      keeps SameAnswer (Some (stored result x)) (ap Some (stored_stays n before later same result x h)))))
