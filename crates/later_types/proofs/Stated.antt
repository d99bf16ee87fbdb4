-- Statements are judged alike where more types are known: by recursion on their syntax.
use Rattle.std.proofs.Common.{◌≡◌, ℕ, List, [], ◌∷◌, Bool, true, false, not, Option, Some, None, refl, ap, subst, sym}
use Rattle.std.specs.Prelude.{ℤ, pos, if◌then◌else◌}
use Rattle.std.specs.Ordering.{int_eq}
use Rattle.ob_types.proofs.Tests.{none_some, some_same}
use Rattle.ob_syntax.specs.Syntax as S
use Rattle.ob_syntax.specs.declared.statements.NextRange.{NextRange}
use Rattle.ob_syntax.specs.declared.statements.Range.{Range}
use Rattle.ob_syntax.specs.declared.statements.High.{High}
use Rattle.ob_syntax.specs.declared.statements.Label.{Label}
use Rattle.ob_syntax.specs.declared.statements.Label.TheVariants as TheLabel
use Rattle.ob_judge.specs.Judged.{Judged, Keeps, Breaks, ◌>>=◌, ◌>>◌, rule, some}
use Rattle.ob_judge.specs.Shapes.{Shape, Integer, Byte, Char, Procedure, Known, is_number, is_truth, extends}
use Rattle.ob_judge.specs.Image.{Checked, Constant, Place, Labels, Extends, Statement, If, While, Repeat, For, Statements, no_statement, next_statement, Branches, no_branch, next_branch, Parts, no_part, next_part, When}
use Rattle.ob_judge.specs.Scopes.{Object, AType, AVariable, AStandard, AModule, World, Source, place}
use Rattle.ob_judge.specs.Operands.{Operand, is_variable, is_read_only, whole_variable, checked}
use Rattle.ob_judge.specs.Calls.{may_assign, stored, called}
use Rattle.ob_judge.specs.Symbols.{expression_first, bare}
use Rattle.ob_judge.specs.Names.{member_symbol}
use Rattle.ob_judge.specs.Expressions.{designator}
use Rattle.ob_judge.specs.Assignments.{whole_object, destination, assigned, assignment, alone as standing_alone, called_alone, is_call, called_bare, deed_of, call_statement, assign_or_call, condition, number, integer_variable, int_only, step_of}
use Rattle.ob_judge.specs.Cases.{SelectorOf, OnInteger, OnChar, OnType, Labelled, case_variable, named_alone, selector_of, as_list, constant_only, label_constant, label_in, label, high_label, range, ranges, label_object, label_symbol, label_type, no_high, type_label, type_labels, tag_of, narrow, when_of, case_of}
use Rattle.ob_judge.specs.Statements.{statements, statement, next_statements, branches, else_part, case_part, next_cases, body_of}
use Rattle.ob_judge.specs.Declarations.{answer}
use Rattle.ob_judge.specs.Parts.{is_nothing}
use Rattle.later_types.proofs.Alike.{Alike, alike_keeps, alike_breaks, whatever, behind, behind_rule, behind_some, Moved, moved_keeps, moved_behind, behind_moved}
use Rattle.later_types.proofs.Within.{Within, ObjectWithin, OperandWithin, Ready, more}
use Rattle.later_types.proofs.Knowing.{extends_same, may_assign_same, tag_same}
use Rattle.later_types.proofs.Named.{a_named, a_member, a_qualified, whole_within}
use Rattle.later_types.proofs.Called.{a_called, a_standard}
use Rattle.later_types.proofs.Expressed.{a_expression, a_designator, a_constant}

-- of which nothing is claimed
abbrev pub Any : {A : Type 0} → A → Type 0
Any a = Unit {0}

module _ (P : ℕ → Type 0) (n : ℕ) (p : Source) (later : Known) where
  abbrev Fits : Operand → Type 0
  Fits = OperandWithin P n

  module _ (w : World) (ready : Ready P n w later) where
    abbrev v : World
    v = more w later

    -- ---- assignments

    destined : (o : Object) → ObjectWithin P n o → (selectors : S.Selectors) (m k : Judged Operand) → Alike (OperandWithin P n) m k → Alike (OperandWithin P n) (whole_object w o selectors m) (whole_object v o selectors k)
    destined (AVariable x) h S.no_selector m k g = alike_keeps Fits (whole_variable w x) (whole_within P n p w later ready x h)
    destined _ h selectors m k g = g

    a_destination : (d : S.Designator) → Alike (OperandWithin P n) (destination p w d) (destination p v d)
    a_destination d = behind (a_named P n p w later ready d.name) (λ o h. destined o h d.selectors (designator p w d) (designator p v d) (a_designator P n p w later ready d))

    a_assignment : (d : S.Designator) (x : S.Expression) → Alike (λ (a : Statement). Unit {0}) (assignment p w d x) (assignment p v d x)
    a_assignment d e = behind (a_destination d) (λ x h. behind (a_expression P n p w later ready e) (λ y k.
        behind_rule 31 (place p d.name) (is_variable x) (is_variable x) refl (λ used.
        behind_rule 33 (place p d.name) (not (is_read_only x)) (not (is_read_only x)) refl (λ free.
        behind_rule 31 (place p (expression_first e)) (may_assign w.known x.shape y) (may_assign later x.shape y) (may_assign_same P n w later ready x.shape y h k) (λ may.
        alike_keeps Any (assigned x.shape x y) tt)))))

    -- ---- calls

    a_alone : (o : Object) (selectors : S.Selectors) → Alike (λ (a : Option Object). Unit {0}) (standing_alone p w o selectors) (standing_alone p v o selectors)
    a_alone (AStandard s) S.no_selector = alike_keeps Any (Some (AStandard s)) tt
    a_alone (AModule m) (S.selected (S.Field period i) S.no_selector) = behind (a_member P n p w later ready m i) (λ o k. alike_keeps Any (Some o) tt)
    a_alone o selectors = alike_keeps Any None tt

    a_called_alone : (at : ℕ) (o : Option Object) (m k : Judged Operand) → Alike (OperandWithin P n) m k → Alike (OperandWithin P n) (called_alone w at o m) (called_alone v at o k)
    a_called_alone at (Some (AStandard s)) m k g = a_standard P n p w later ready at s [] tt
    a_called_alone at _ m k g = g

    a_called_bare : (at : ℕ) (x : Operand) → Fits x → (s : Shape) → Within P n s → Alike (OperandWithin P n) (called_bare w at x s) (called_bare v at x s)
    a_called_bare at x h (Procedure ps result) g = by (is_call x.what)
      where
        by : (b : Bool) → Alike (OperandWithin P n) (if b then Keeps x else called w at x ps result []) (if b then Keeps x else called v at x ps result [])
        by true = alike_keeps Fits x h
        by false = a_called P n p w later ready at x ps result ((g.0).0, (g.1).0) ((g.0).1, (g.1).1) [] tt
    a_called_bare at x h _ g = alike_keeps Fits x h

    a_call_statement : (d : S.Designator) → Alike (λ (a : Statement). Unit {0}) (call_statement p w d) (call_statement p v d)
    a_call_statement d = behind (a_named P n p w later ready d.name) (λ o z. behind (a_alone o d.selectors) (λ only z.
        behind (a_called_alone (place p d.name) only (designator p w d) (designator p v d) (a_designator P n p w later ready d)) (λ x h.
        behind (a_called_bare (place p d.name) x h x.shape h) (λ y k. whatever (deed_of (place p d.name) y.shape y.what)))))

    a_assign_or_call : (d : S.Designator) (a : Option S.Assigned) → Alike (λ (a : Statement). Unit {0}) (assign_or_call p w d a) (assign_or_call p v d a)
    a_assign_or_call d None = a_call_statement d
    a_assign_or_call d (Some a) = a_assignment d a.value

    -- ---- conditions, FOR

    a_condition : (x : S.Expression) → Alike (λ (a : Checked). Unit {0}) (condition p w x) (condition p v x)
    a_condition x = behind (a_expression P n p w later ready x) (λ y h. whatever (rule 31 (place p (expression_first x)) (is_truth y.shape) >> Keeps (checked y)))

    a_number : (x : S.Expression) → Alike (λ (a : Checked). Unit {0}) (number p w x) (number p v x)
    a_number x = behind (a_expression P n p w later ready x) (λ y h. whatever (rule 31 (place p (expression_first x)) (is_number y.shape) >> Keeps (checked y)))

    variable_same : (o : Object) → integer_variable v o ≡ integer_variable w o
    variable_same (AVariable x) = refl
    variable_same _ = refl

    a_step : (b : Option S.By) → Alike (λ (a : ℤ). Unit {0}) (step_of p w b) (step_of p v b)
    a_step None = alike_keeps Any (pos 1) tt
    a_step (Some b) = behind (a_constant P n w later ready p b.step) (λ c z. whatever (some 31 (place p (expression_first b.step)) (int_only c) >>= λ s.
        rule 35 (place p (expression_first b.step)) (not (int_eq s (pos 0))) >> Keeps s))

    -- ---- CASE

    a_label_constant : (l : Label) → Alike (λ (a : Constant). Unit {0}) (label_constant p w l) (label_constant p v l)
    a_label_constant (TheLabel.Named q) = behind (a_qualified P n p w later ready q.name (member_symbol q.member)) (λ o h. whatever (some 39 (place p q.name) (constant_only o)))
    a_label_constant (TheLabel.Int i) = whatever (label_constant p w (TheLabel.Int i))
    a_label_constant (TheLabel.Char i) = whatever (label_constant p w (TheLabel.Char i))
    a_label_constant (TheLabel.Text i) = whatever (label_constant p w (TheLabel.Text i))

    a_label : (of_char : Bool) (l : Label) → Alike (λ (a : ℤ). Unit {0}) (label p w of_char l) (label p v of_char l)
    a_label of_char l = behind (a_label_constant l) (λ c z. whatever (some 39 (place p (label_symbol l)) (label_in of_char c)))

    a_high : (of_char : Bool) (low : ℤ) (h : Option High) → Alike (λ (a : ℤ). Unit {0}) (high_label p w of_char low h) (high_label p v of_char low h)
    a_high of_char low None = alike_keeps Any low tt
    a_high of_char low (Some h) = a_label of_char h.label

    a_range : (of_char : Bool) (r : Range) (taken : List (ℤ × ℤ)) → Alike (λ (a : Labelled). Unit {0}) (range p w of_char r taken) (range p v of_char r taken)
    a_range of_char r taken = behind (a_label of_char r.low) (λ low z. behind (a_high of_char low r.high) (λ high z. whatever _))

    a_ranges : (of_char : Bool) (rs : List Range) (taken : List (ℤ × ℤ)) → Alike (λ (a : Labelled). Unit {0}) (ranges p w of_char rs taken) (ranges p v of_char rs taken)
    a_ranges of_char [] taken = alike_keeps Any _ tt
    a_ranges of_char (r ∷ rs) taken = behind (a_range of_char r taken) (λ x z. behind (a_ranges of_char rs x.taken) (λ y z. alike_keeps Any _ tt))

    abbrev MaybeWithin : Option Object → Type 0
    MaybeWithin None = Unit {0}
    MaybeWithin (Some o) = ObjectWithin P n o

    a_label_object : (l : Label) → Alike MaybeWithin (label_object p w l) (label_object p v l)
    a_label_object (TheLabel.Named q) = behind (a_qualified P n p w later ready q.name (member_symbol q.member)) (λ o h. alike_keeps MaybeWithin (Some o) h)
    a_label_object _ = alike_keeps MaybeWithin None tt

    label_within : (o : Option Object) → MaybeWithin o → (t : Shape) → label_type o ≡ Some t → Within P n t
    label_within (Some (AType s)) h t is = subst (Within P n) (some_same s t is) h
    label_within _ h t is = none_some t is

    a_no_high : (at : ℕ) (h : Option High) → Alike (λ (a : Unit {0}). Unit {0}) (no_high p w at h) (no_high p v at h)
    a_no_high at None = alike_keeps Any tt tt
    a_no_high at (Some h) = behind (a_label_object h.label) (λ o z. alike_breaks Any 39 at)

    behind_both : {B : Type 0} {Q : B → Type 0} (d e : Judged (Unit {0})) (m k : Judged B) → Alike (λ (a : Unit {0}). Unit {0}) d e → Alike Q m k → Alike Q (d >> m) (e >> k)
    behind_both {Q = Q} d e m k h g = subst (λ z. Alike Q (d >> m) (z >> k)) (sym h.same) (by d)
      where
        by : (z : Judged (Unit {0})) → Alike Q (z >> m) (z >> k)
        by (Keeps a) = g
        by (Breaks number_ at) = alike_breaks Q number_ at

    a_type_label : (s : Shape) → Within P n s → (first : Bool) (r : Range) → Alike (Within P n) (type_label p w s first r) (type_label p v s first r)
    a_type_label s g first r = behind (a_label_object r.low) (λ o h. behind_some 39 (place p (label_symbol r.low)) (label_type o) (label_type o) refl (λ t is.
        let inside = label_within o h t is in
        behind_rule 39 (place p (label_symbol r.low)) (extends w.known t s) (extends later t s) (extends_same P n w later ready t s inside g) (λ it.
        behind_both (no_high p w (place p (label_symbol r.low)) r.high) (no_high p v (place p (label_symbol r.low)) r.high)
        (rule 39 (place p (label_symbol r.low)) first >> Keeps t) (rule 39 (place p (label_symbol r.low)) first >> Keeps t)
        (a_no_high (place p (label_symbol r.low)) r.high)
        (behind_rule 39 (place p (label_symbol r.low)) first first refl (λ one. alike_keeps (Within P n) t inside)))))

    a_type_labels : (s : Shape) → Within P n s → (first : Range) (rest : List NextRange) → Alike (Within P n) (type_labels p w s first rest) (type_labels p v s first rest)
    a_type_labels s g first [] = a_type_label s g true first
    a_type_labels s g first (r ∷ rs) = behind (a_type_label s g true first) (λ t z. a_type_label s g false r.range)

    narrowed_ready : (d : Place) (t : Shape) → Within P n t → Ready P n (narrow w d t) later
    narrowed_ready d t h =
        let a = ready.among in
        let s = ready.scope in
        record {
          among = record { names = a.names; members = a.members; fields = a.fields; narrowed = (h.0, a.narrowed) };
          scope = record { names = s.names; members = s.members; fields = s.fields; narrowed = (h.1, s.narrowed) };
          targets = ready.targets;
          records = ready.records;
          bases = ready.bases;
        }

    -- the world of a part's body, where more types are known
    abbrev changed : When × World × List (ℤ × ℤ) → When × World × List (ℤ × ℤ)
    changed r = (r.0, more r.1 later, r.2)

    abbrev InWhen : When × World × List (ℤ × ℤ) → Type 0
    InWhen r = Ready P n r.1 later

    abbrev SelectorWithin : SelectorOf → Type 0
    SelectorWithin (OnType d s) = Within P n s
    SelectorWithin s = Unit {0}

    a_when : (s : SelectorOf) → SelectorWithin s → (taken : List (ℤ × ℤ)) (first : Range) (rest : List NextRange) → Moved changed InWhen (when_of p w s taken first rest) (when_of p v s taken first rest)
    a_when OnInteger g taken first rest = moved_behind (a_ranges false (as_list first rest) taken) (λ x z. moved_keeps changed InWhen (Labels x.labels, w, x.taken) (Labels x.labels, v, x.taken) refl ready)
    a_when OnChar g taken first rest = moved_behind (a_ranges true (as_list first rest) taken) (λ x z. moved_keeps changed InWhen (Labels x.labels, w, x.taken) (Labels x.labels, v, x.taken) refl ready)
    a_when (OnType d s) g taken first rest = moved_behind (a_type_labels s g first rest) (λ t h.
        moved_keeps changed InWhen (Extends (tag_of w.known t), narrow w d t, taken) (Extends (tag_of later t), narrow v d t, taken)
        (ap (λ k. (Extends k, record v { narrowed = record { variable = d; shape = t; tag = k } ∷ w.narrowed }, taken)) (tag_same P n w later ready t h))
        (narrowed_ready d t h))

    named_alone_same : (q : Option (ℕ × Option ℕ)) → named_alone p v q ≡ named_alone p w q
    named_alone_same (Some (name, None)) = refl
    named_alone_same q = refl

    selector_within : (o : Option Place) (s : Shape) → Within P n s → (k : SelectorOf) → selector_of o s ≡ Some k → SelectorWithin k
    selector_within (Some d) s h k is = subst SelectorWithin (some_same (OnType d s) k is) h
    selector_within None Integer h k is = subst SelectorWithin (some_same OnInteger k is) tt
    selector_within None Byte h k is = subst SelectorWithin (some_same OnInteger k is) tt
    selector_within None Char h k is = subst SelectorWithin (some_same OnChar k is) tt
    selector_within None _ h k is = none_some k is

  -- ---- sequences

  mutual
    a_statements : (w : World) → Ready P n w later → (x : S.Stats) → Alike (λ (a : Statements). Unit {0}) (statements p w x) (statements p (more w later) x)
    a_statements w ready (S.stats first rest) = behind (a_statement w ready first) (λ f h. behind (a_next_statements w ready rest) (λ xs k. alike_keeps Any (f xs) tt))

    a_statement : (w : World) → Ready P n w later → (x : S.Stat) → Alike (λ (a : Statements → Statements). Unit {0}) (statement p w x) (statement p (more w later) x)
    a_statement w ready S.Empty = alike_keeps Any (λ xs. xs) tt
    a_statement w ready (S.AssignOrCall designator assigned) = behind (a_assign_or_call w ready designator assigned) (λ d h. alike_keeps Any (next_statement d) tt)
    a_statement w ready (S.If if_word guard then_word body elsifs other end_word) =
        behind (a_condition w ready guard) (λ g h. behind (a_statements w ready body) (λ b k. behind (a_branches w ready elsifs) (λ rest l. behind (a_else w ready other) (λ c m.
        alike_keeps Any (next_statement (If (next_branch g b rest) c)) tt))))
    a_statement w ready (S.Case case_word selector of_word first rest end_word) =
        behind (a_expression P n p w later ready selector) (λ x h.
        behind_some 31 (place p (expression_first selector)) (selector_of (case_variable (named_alone p w (bare selector))) x.shape) (selector_of (case_variable (named_alone p (more w later) (bare selector))) x.shape)
        (ap (λ o. selector_of (case_variable o) x.shape) (named_alone_same w ready (bare selector))) (λ s is.
        let g = selector_within w ready (case_variable (named_alone p w (bare selector))) x.shape h s is in
        behind (a_case_part w ready s g [] first) (λ one k. behind (a_next_cases w ready s g one.1 rest) (λ others l.
        alike_keeps Any (next_statement (case_of s x (one.0 others))) tt))))
    a_statement w ready (S.While while_word guard do_word body elsifs end_word) =
        behind (a_condition w ready guard) (λ g h. behind (a_statements w ready body) (λ b k. behind (a_branches w ready elsifs) (λ rest l.
        alike_keeps Any (next_statement (While (next_branch g b rest))) tt)))
    a_statement w ready (S.Repeat repeat_word body until_word guard) =
        behind (a_statements w ready body) (λ b k. behind (a_condition w ready guard) (λ g h. alike_keeps Any (next_statement (Repeat b g)) tt))
    a_statement w ready (S.For for_word variable becomes from to_word to by_ do_word body end_word) =
        behind (a_named P n p w later ready variable) (λ o h. behind (a_expression P n p w later ready from) (λ x k.
        behind_some 31 (place p variable) (integer_variable w o) (integer_variable (more w later) o) (variable_same w ready o) (λ d is.
        behind_rule 31 (place p (expression_first from)) (is_number x.shape) (is_number x.shape) refl (λ it.
        behind (a_number w ready to) (λ y l. behind (a_step w ready by_) (λ step z. behind (a_statements w ready body) (λ b m.
        alike_keeps Any (next_statement (For d (checked x) y step b)) tt)))))))

    a_next_statements : (w : World) → Ready P n w later → (x : S.NextStats) → Alike (λ (a : Statements). Unit {0}) (next_statements p w x) (next_statements p (more w later) x)
    a_next_statements w ready S.no_stat = alike_keeps Any no_statement tt
    a_next_statements w ready (S.next_stat semicolon s rest) = behind (a_statement w ready s) (λ f h. behind (a_next_statements w ready rest) (λ xs k. alike_keeps Any (f xs) tt))

    a_branches : (w : World) → Ready P n w later → (x : S.Elsifs) → Alike (λ (a : Branches). Unit {0}) (branches p w x) (branches p (more w later) x)
    a_branches w ready S.no_elsif = alike_keeps Any no_branch tt
    a_branches w ready (S.next_elsif elsif_word guard then_word body rest) =
        behind (a_condition w ready guard) (λ g h. behind (a_statements w ready body) (λ b k. behind (a_branches w ready rest) (λ others l. alike_keeps Any (next_branch g b others) tt)))

    a_else : (w : World) → Ready P n w later → (x : S.MaybeElse) → Alike (λ (a : Statements). Unit {0}) (else_part p w x) (else_part p (more w later) x)
    a_else w ready S.no_else = alike_keeps Any no_statement tt
    a_else w ready (S.otherwise else_word body) = a_statements w ready body

    a_case_part : (w : World) (ready : Ready P n w later) (s : SelectorOf) → SelectorWithin w ready s → (taken : List (ℤ × ℤ)) (c : S.MaybeCase)
        → Alike (λ (a : (Parts → Parts) × List (ℤ × ℤ)). Unit {0}) (case_part p w s taken c) (case_part p (more w later) s taken c)
    a_case_part w ready s g taken S.no_case = alike_keeps Any ((λ rest. rest), taken) tt
    a_case_part w ready s g taken (S.one_case first rest colon body) = behind_moved _ (a_when w ready s g taken first rest) (λ r inner. behind (a_statements r.1 inner body) (λ b k.
        alike_keeps Any (next_part r.0 b, r.2) tt))

    a_next_cases : (w : World) (ready : Ready P n w later) (s : SelectorOf) → SelectorWithin w ready s → (taken : List (ℤ × ℤ)) (c : S.NextCases)
        → Alike (λ (a : Parts). Unit {0}) (next_cases p w s taken c) (next_cases p (more w later) s taken c)
    a_next_cases w ready s g taken S.no_next_case = alike_keeps Any no_part tt
    a_next_cases w ready s g taken (S.next_case bar c rest) = behind (a_case_part w ready s g taken c) (λ one h. behind (a_next_cases w ready s g one.1 rest) (λ others k. alike_keeps Any (one.0 others) tt))

  pub a_body : (w : World) → Ready P n w later → (b : Option S.Body) → Alike (λ (a : Statements). Unit {0}) (body_of p w b) (body_of p (more w later) b)
  a_body w ready None = alike_keeps Any no_statement tt
  a_body w ready (Some b) = a_statements w ready b.stats

  pub a_answer : (w : World) → Ready P n w later → (result : Shape) → Within P n result → (end_word : ℕ) (r : Option S.Returned)
      → Alike (λ (a : Option Checked). Unit {0}) (answer p result end_word r w) (answer p result end_word r (more w later))
  a_answer w ready result g end_word None = whatever (rule 41 (place p end_word) (is_nothing result) >> Keeps None)
  a_answer w ready result g end_word (Some r) = behind (a_expression P n p w later ready r.value) (λ x h.
      behind_rule 41 (place p r.return_word) (not (is_nothing result)) (not (is_nothing result)) refl (λ it.
      behind_rule 31 (place p (expression_first r.value)) (may_assign w.known result x) (may_assign later result x) (may_assign_same P n w later ready result x g h) (λ may.
      alike_keeps Any (Some (stored result x)) tt)))
