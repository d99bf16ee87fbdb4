-- A form without its strings, and the strings put back in their order.
use Rattle.std.proofs.Common.{◌≡◌, ℕ, ℤ, List, [], ◌∷◌, ◌++◌, Option, Some, None, refl, sym, ap, ◌∙◌}
use Rattle.std.proofs.lemmas.List.{append_assoc}
use Rattle.ob_judge.specs.Image.{Expr, Literal, Routine, Load, Guard, Apply, Linked, Compare, CompareTexts, In, IsPointer, IsParameter, AsByte, Length, Result, Link, Operate, And, Or, Element, Elements, Designator, of_type, Place, Done, Global, Local, Parameter, Text, Index, Field, Dereference, Narrow, Call, Direct, Indirect, Arguments, no_argument, next_argument, Argument, ByValue, ByPlace, ByRecord, ByOpen, Checked}
use Rattle.ob_judge.specs.Image.{Statement, Assign, CopyArray, CopyRecord, Increase, Decrease, Include, Exclude, New, Assert, OutChar, OutInt, OutString, InChar, OutLn, Invoke, If, While, Repeat, For, Case, CasePointer, CaseParameter, Statements, no_statement, next_statement, Branches, no_branch, next_branch, Parts, no_part, next_part}
use Rattle.ob_judge.specs.Texts.{Strings, in_expr, in_link, in_designator, in_place, in_call, in_arguments, in_argument, in_statement, in_statements, in_branches, in_parts, in_answer, texts_of}

---- Without strings

abbrev mutual
  pub erased_expr : Expr → Expr
  erased_expr (Literal bits) = Literal bits
  erased_expr (Routine f) = Routine f
  erased_expr (Load d) = Load (erased_designator d)
  erased_expr (Guard x tag) = Guard (erased_expr x) tag
  erased_expr (Apply operator x) = Apply operator (erased_expr x)
  erased_expr (Linked x l) = Linked (erased_expr x) (erased_link l)
  erased_expr (Compare relation x y) = Compare relation (erased_expr x) (erased_expr y)
  erased_expr (CompareTexts relation d e) = CompareTexts relation (erased_designator d) (erased_designator e)
  erased_expr (In x s) = In (erased_expr x) (erased_expr s)
  erased_expr (IsPointer x tag) = IsPointer (erased_expr x) tag
  erased_expr (IsParameter d tag) = IsParameter (erased_designator d) tag
  erased_expr (AsByte x) = AsByte (erased_expr x)
  erased_expr (Length d) = Length (erased_designator d)
  erased_expr (Result c) = Result (erased_call c)

  pub erased_link : Link → Link
  erased_link (Operate operator x) = Operate operator (erased_expr x)
  erased_link (And x) = And (erased_expr x)
  erased_link (Or x) = Or (erased_expr x)
  erased_link (Element x) = Element (erased_expr x)
  erased_link (Elements x y) = Elements (erased_expr x) (erased_expr y)

  pub erased_designator : Designator → Designator
  erased_designator (of_type place shape) = of_type (erased_place place) shape

  pub erased_place : Place → Place
  erased_place Done = Done
  erased_place (Global m v) = Global m v
  erased_place (Local v) = Local v
  erased_place (Parameter n) = Parameter n
  erased_place (Text cs) = Text []
  erased_place (Index array length element index) = Index (erased_place array) length element (erased_expr index)
  erased_place (Field whole adder number) = Field (erased_place whole) adder number
  erased_place (Dereference x) = Dereference (erased_expr x)
  erased_place (Narrow place tag) = Narrow (erased_place place) tag

  pub erased_call : Call → Call
  erased_call (Direct f xs) = Direct f (erased_arguments xs)
  erased_call (Indirect d xs) = Indirect (erased_designator d) (erased_arguments xs)

  pub erased_arguments : Arguments → Arguments
  erased_arguments no_argument = no_argument
  erased_arguments (next_argument x xs) = next_argument (erased_argument x) (erased_arguments xs)

  pub erased_argument : Argument → Argument
  erased_argument (ByValue x) = ByValue (erased_expr x)
  erased_argument (ByPlace d) = ByPlace (erased_designator d)
  erased_argument (ByRecord d) = ByRecord (erased_designator d)
  erased_argument (ByOpen d) = ByOpen (erased_designator d)

abbrev pub erased_checked : Checked → Checked
erased_checked x = record { form = erased_expr x.form; shape = x.shape }

abbrev mutual
  pub erased_statement : Statement → Statement
  erased_statement (Assign d x) = Assign (erased_designator d) (erased_checked x)
  erased_statement (CopyArray d e) = CopyArray (erased_designator d) (erased_designator e)
  erased_statement (CopyRecord d e) = CopyRecord (erased_designator d) (erased_designator e)
  erased_statement (Increase d x) = Increase (erased_designator d) (erased_checked x)
  erased_statement (Decrease d x) = Decrease (erased_designator d) (erased_checked x)
  erased_statement (Include d x) = Include (erased_designator d) (erased_checked x)
  erased_statement (Exclude d x) = Exclude (erased_designator d) (erased_checked x)
  erased_statement (New d) = New (erased_designator d)
  erased_statement (Assert x) = Assert (erased_checked x)
  erased_statement (OutChar x) = OutChar (erased_checked x)
  erased_statement (OutInt x n) = OutInt (erased_checked x) (erased_checked n)
  erased_statement (OutString d) = OutString (erased_designator d)
  erased_statement (InChar d) = InChar (erased_designator d)
  erased_statement OutLn = OutLn
  erased_statement (Invoke c) = Invoke (erased_call c)
  erased_statement (If branches otherwise) = If (erased_branches branches) (erased_statements otherwise)
  erased_statement (While branches) = While (erased_branches branches)
  erased_statement (Repeat body x) = Repeat (erased_statements body) (erased_checked x)
  erased_statement (For d x y step body) = For (erased_designator d) (erased_checked x) (erased_checked y) step (erased_statements body)
  erased_statement (Case x parts) = Case (erased_checked x) (erased_parts parts)
  erased_statement (CasePointer x parts) = CasePointer (erased_checked x) (erased_parts parts)
  erased_statement (CaseParameter d parts) = CaseParameter (erased_designator d) (erased_parts parts)

  pub erased_statements : Statements → Statements
  erased_statements no_statement = no_statement
  erased_statements (next_statement s rest) = next_statement (erased_statement s) (erased_statements rest)

  pub erased_branches : Branches → Branches
  erased_branches no_branch = no_branch
  erased_branches (next_branch x body rest) = next_branch (erased_checked x) (erased_statements body) (erased_branches rest)

  pub erased_parts : Parts → Parts
  erased_parts no_part = no_part
  erased_parts (next_part when body rest) = next_part when (erased_statements body) (erased_parts rest)

abbrev pub erased_answer : Option Checked → Option Checked
erased_answer None = None
erased_answer (Some x) = Some (erased_checked x)

---- Strings put back: each takes those that it wants from the front of a list

abbrev Takes : Type 0 → Type 0
Takes A = Strings → A × Strings

abbrev given : {A : Type 0} → A → Takes A
given a s = (a, s)

abbrev one : {A B : Type 0} → (A → B) → Takes A → Takes B
one f m s = (f (m s).0, (m s).1)

abbrev two : {A B C : Type 0} → (A → B → C) → Takes A → Takes B → Takes C
two f m n s = (f (m s).0 (n (m s).1).0, (n (m s).1).1)

-- the next string
abbrev next : Takes Place
next [] = (Text [], [])
next (cs ∷ more) = (Text cs, more)

abbrev mutual
  fill_expr : Expr → Takes Expr
  fill_expr (Literal bits) = given (Literal bits)
  fill_expr (Routine f) = given (Routine f)
  fill_expr (Load d) = one (λ a. Load a) (fill_designator d)
  fill_expr (Guard x tag) = one (λ a. Guard a tag) (fill_expr x)
  fill_expr (Apply operator x) = one (λ a. Apply operator a) (fill_expr x)
  fill_expr (Linked x l) = two (λ a b. Linked a b) (fill_expr x) (fill_link l)
  fill_expr (Compare relation x y) = two (λ a b. Compare relation a b) (fill_expr x) (fill_expr y)
  fill_expr (CompareTexts relation d e) = two (λ a b. CompareTexts relation a b) (fill_designator d) (fill_designator e)
  fill_expr (In x s) = two (λ a b. In a b) (fill_expr x) (fill_expr s)
  fill_expr (IsPointer x tag) = one (λ a. IsPointer a tag) (fill_expr x)
  fill_expr (IsParameter d tag) = one (λ a. IsParameter a tag) (fill_designator d)
  fill_expr (AsByte x) = one (λ a. AsByte a) (fill_expr x)
  fill_expr (Length d) = one (λ a. Length a) (fill_designator d)
  fill_expr (Result c) = one (λ a. Result a) (fill_call c)

  fill_link : Link → Takes Link
  fill_link (Operate operator x) = one (λ a. Operate operator a) (fill_expr x)
  fill_link (And x) = one (λ a. And a) (fill_expr x)
  fill_link (Or x) = one (λ a. Or a) (fill_expr x)
  fill_link (Element x) = one (λ a. Element a) (fill_expr x)
  fill_link (Elements x y) = two (λ a b. Elements a b) (fill_expr x) (fill_expr y)

  fill_designator : Designator → Takes Designator
  fill_designator (of_type place shape) = one (λ a. of_type a shape) (fill_place place)

  fill_place : Place → Takes Place
  fill_place Done = given Done
  fill_place (Global m v) = given (Global m v)
  fill_place (Local v) = given (Local v)
  fill_place (Parameter n) = given (Parameter n)
  fill_place (Text cs) = next
  fill_place (Index array length element index) = two (λ a b. Index a length element b) (fill_place array) (fill_expr index)
  fill_place (Field whole adder number) = one (λ a. Field a adder number) (fill_place whole)
  fill_place (Dereference x) = one (λ a. Dereference a) (fill_expr x)
  fill_place (Narrow place tag) = one (λ a. Narrow a tag) (fill_place place)

  fill_call : Call → Takes Call
  fill_call (Direct f xs) = one (λ a. Direct f a) (fill_arguments xs)
  fill_call (Indirect d xs) = two (λ a b. Indirect a b) (fill_designator d) (fill_arguments xs)

  fill_arguments : Arguments → Takes Arguments
  fill_arguments no_argument = given no_argument
  fill_arguments (next_argument x xs) = two (λ a b. next_argument a b) (fill_argument x) (fill_arguments xs)

  fill_argument : Argument → Takes Argument
  fill_argument (ByValue x) = one (λ a. ByValue a) (fill_expr x)
  fill_argument (ByPlace d) = one (λ a. ByPlace a) (fill_designator d)
  fill_argument (ByRecord d) = one (λ a. ByRecord a) (fill_designator d)
  fill_argument (ByOpen d) = one (λ a. ByOpen a) (fill_designator d)

abbrev fill_checked : Checked → Takes Checked
fill_checked x = one (λ a. record { form = a; shape = x.shape }) (fill_expr x.form)

-- what stands in front of FOR's body, and in front of a branch's rest
record Head : Type 0 where
  variable : Designator
  first : Checked
  last : Checked

abbrev paired : {A B : Type 0} → A → B → A × B
paired a b = (a, b)

abbrev headed : Designator × Checked → Checked → Head
headed h y = record { variable = h.0; first = h.1; last = y }

abbrev for_of : ℤ → Head → Statements → Statement
for_of step h body = For h.variable h.first h.last step body

abbrev branch_of : Checked × Statements → Branches → Branches
branch_of h rest = next_branch h.0 h.1 rest

abbrev mutual
  fill_statement : Statement → Takes Statement
  fill_statement (Assign d x) = two (λ a b. Assign a b) (fill_designator d) (fill_checked x)
  fill_statement (CopyArray d e) = two (λ a b. CopyArray a b) (fill_designator d) (fill_designator e)
  fill_statement (CopyRecord d e) = two (λ a b. CopyRecord a b) (fill_designator d) (fill_designator e)
  fill_statement (Increase d x) = two (λ a b. Increase a b) (fill_designator d) (fill_checked x)
  fill_statement (Decrease d x) = two (λ a b. Decrease a b) (fill_designator d) (fill_checked x)
  fill_statement (Include d x) = two (λ a b. Include a b) (fill_designator d) (fill_checked x)
  fill_statement (Exclude d x) = two (λ a b. Exclude a b) (fill_designator d) (fill_checked x)
  fill_statement (New d) = one (λ a. New a) (fill_designator d)
  fill_statement (Assert x) = one (λ a. Assert a) (fill_checked x)
  fill_statement (OutChar x) = one (λ a. OutChar a) (fill_checked x)
  fill_statement (OutInt x n) = two (λ a b. OutInt a b) (fill_checked x) (fill_checked n)
  fill_statement (OutString d) = one (λ a. OutString a) (fill_designator d)
  fill_statement (InChar d) = one (λ a. InChar a) (fill_designator d)
  fill_statement OutLn = given OutLn
  fill_statement (Invoke c) = one (λ a. Invoke a) (fill_call c)
  fill_statement (If branches otherwise) = two (λ a b. If a b) (fill_branches branches) (fill_statements otherwise)
  fill_statement (While branches) = one (λ a. While a) (fill_branches branches)
  fill_statement (Repeat body x) = two (λ a b. Repeat a b) (fill_statements body) (fill_checked x)
  fill_statement (For d x y step body) =
      two (for_of step) (two headed (two paired (fill_designator d) (fill_checked x)) (fill_checked y)) (fill_statements body)
  fill_statement (Case x parts) = two (λ a b. Case a b) (fill_checked x) (fill_parts parts)
  fill_statement (CasePointer x parts) = two (λ a b. CasePointer a b) (fill_checked x) (fill_parts parts)
  fill_statement (CaseParameter d parts) = two (λ a b. CaseParameter a b) (fill_designator d) (fill_parts parts)

  fill_statements : Statements → Takes Statements
  fill_statements no_statement = given no_statement
  fill_statements (next_statement s rest) = two (λ a b. next_statement a b) (fill_statement s) (fill_statements rest)

  fill_branches : Branches → Takes Branches
  fill_branches no_branch = given no_branch
  fill_branches (next_branch x body rest) =
      two branch_of (two paired (fill_checked x) (fill_statements body)) (fill_branches rest)

  fill_parts : Parts → Takes Parts
  fill_parts no_part = given no_part
  fill_parts (next_part when body rest) = two (λ a b. next_part when a b) (fill_statements body) (fill_parts rest)

abbrev fill_answer : Option Checked → Takes (Option Checked)
fill_answer None = given None
fill_answer (Some x) = one (λ a. Some a) (fill_checked x)

-- from a list that begins with these strings it takes them all, and makes this
record Gives {A : Type 0} (m : Takes A) (a : A) (xs : Strings) : Type 0 where
  by : (r : Strings) → m (xs ++ r) ≡ (a, r)

g_given : {A : Type 0} (a : A) → Gives (given a) a []
g_given a = record { by = λ r. refl }

g_one : {A B : Type 0} (f : A → B) {m : Takes A} {a : A} {xs : Strings} → Gives m a xs → Gives (one f m) (f a) xs
g_one f g = record { by = λ r. ap (λ y. (f y.0, y.1)) (g.by r) }

g_two : {A B C : Type 0} (f : A → B → C) {m : Takes A} {n : Takes B} {a : A} {b : B} {xs ys : Strings} → Gives m a xs → Gives n b ys → Gives (two f m n) (f a b) (xs ++ ys)
g_two f {m = m} {n = n} {a = a} {xs = xs} {ys = ys} g h = record {
  by = λ r.
      ap (two f m n) (append_assoc xs ys r)
      ∙ ap (λ y. (f y.0 (n y.1).0, (n y.1).1)) (g.by (ys ++ r))
      ∙ ap (λ y. (f a y.0, y.1)) (h.by r);
}

g_next : (cs : List ℕ) → Gives next (Text cs) (cs ∷ [])
g_next cs = record { by = λ r. refl }

mutual
  g_expr : (x : Expr) → Gives (fill_expr (erased_expr x)) x (in_expr x)
  g_expr (Literal bits) = g_given (Literal bits)
  g_expr (Routine f) = g_given (Routine f)
  g_expr (Load d) = g_one (λ a. Load a) (g_designator d)
  g_expr (Guard x tag) = g_one (λ a. Guard a tag) (g_expr x)
  g_expr (Apply operator x) = g_one (λ a. Apply operator a) (g_expr x)
  g_expr (Linked x l) = g_two (λ a b. Linked a b) (g_expr x) (g_link l)
  g_expr (Compare relation x y) = g_two (λ a b. Compare relation a b) (g_expr x) (g_expr y)
  g_expr (CompareTexts relation d e) = g_two (λ a b. CompareTexts relation a b) (g_designator d) (g_designator e)
  g_expr (In x s) = g_two (λ a b. In a b) (g_expr x) (g_expr s)
  g_expr (IsPointer x tag) = g_one (λ a. IsPointer a tag) (g_expr x)
  g_expr (IsParameter d tag) = g_one (λ a. IsParameter a tag) (g_designator d)
  g_expr (AsByte x) = g_one (λ a. AsByte a) (g_expr x)
  g_expr (Length d) = g_one (λ a. Length a) (g_designator d)
  g_expr (Result c) = g_one (λ a. Result a) (g_call c)

  g_link : (x : Link) → Gives (fill_link (erased_link x)) x (in_link x)
  g_link (Operate operator x) = g_one (λ a. Operate operator a) (g_expr x)
  g_link (And x) = g_one (λ a. And a) (g_expr x)
  g_link (Or x) = g_one (λ a. Or a) (g_expr x)
  g_link (Element x) = g_one (λ a. Element a) (g_expr x)
  g_link (Elements x y) = g_two (λ a b. Elements a b) (g_expr x) (g_expr y)

  g_designator : (x : Designator) → Gives (fill_designator (erased_designator x)) x (in_designator x)
  g_designator (of_type place shape) = g_one (λ a. of_type a shape) (g_place place)

  g_place : (x : Place) → Gives (fill_place (erased_place x)) x (in_place x)
  g_place Done = g_given Done
  g_place (Global m v) = g_given (Global m v)
  g_place (Local v) = g_given (Local v)
  g_place (Parameter n) = g_given (Parameter n)
  g_place (Text cs) = g_next cs
  g_place (Index array length element index) = g_two (λ a b. Index a length element b) (g_place array) (g_expr index)
  g_place (Field whole adder number) = g_one (λ a. Field a adder number) (g_place whole)
  g_place (Dereference x) = g_one (λ a. Dereference a) (g_expr x)
  g_place (Narrow place tag) = g_one (λ a. Narrow a tag) (g_place place)

  g_call : (x : Call) → Gives (fill_call (erased_call x)) x (in_call x)
  g_call (Direct f xs) = g_one (λ a. Direct f a) (g_arguments xs)
  g_call (Indirect d xs) = g_two (λ a b. Indirect a b) (g_designator d) (g_arguments xs)

  g_arguments : (x : Arguments) → Gives (fill_arguments (erased_arguments x)) x (in_arguments x)
  g_arguments no_argument = g_given no_argument
  g_arguments (next_argument x xs) = g_two (λ a b. next_argument a b) (g_argument x) (g_arguments xs)

  g_argument : (x : Argument) → Gives (fill_argument (erased_argument x)) x (in_argument x)
  g_argument (ByValue x) = g_one (λ a. ByValue a) (g_expr x)
  g_argument (ByPlace d) = g_one (λ a. ByPlace a) (g_designator d)
  g_argument (ByRecord d) = g_one (λ a. ByRecord a) (g_designator d)
  g_argument (ByOpen d) = g_one (λ a. ByOpen a) (g_designator d)

g_checked : (x : Checked) → Gives (fill_checked (erased_checked x)) x (in_expr x.form)
g_checked x = g_one (λ a. record { form = a; shape = x.shape }) (g_expr x.form)

mutual
  g_statement : (x : Statement) → Gives (fill_statement (erased_statement x)) x (in_statement x)
  g_statement (Assign d x) = g_two (λ a b. Assign a b) (g_designator d) (g_checked x)
  g_statement (CopyArray d e) = g_two (λ a b. CopyArray a b) (g_designator d) (g_designator e)
  g_statement (CopyRecord d e) = g_two (λ a b. CopyRecord a b) (g_designator d) (g_designator e)
  g_statement (Increase d x) = g_two (λ a b. Increase a b) (g_designator d) (g_checked x)
  g_statement (Decrease d x) = g_two (λ a b. Decrease a b) (g_designator d) (g_checked x)
  g_statement (Include d x) = g_two (λ a b. Include a b) (g_designator d) (g_checked x)
  g_statement (Exclude d x) = g_two (λ a b. Exclude a b) (g_designator d) (g_checked x)
  g_statement (New d) = g_one (λ a. New a) (g_designator d)
  g_statement (Assert x) = g_one (λ a. Assert a) (g_checked x)
  g_statement (OutChar x) = g_one (λ a. OutChar a) (g_checked x)
  g_statement (OutInt x n) = g_two (λ a b. OutInt a b) (g_checked x) (g_checked n)
  g_statement (OutString d) = g_one (λ a. OutString a) (g_designator d)
  g_statement (InChar d) = g_one (λ a. InChar a) (g_designator d)
  g_statement OutLn = g_given OutLn
  g_statement (Invoke c) = g_one (λ a. Invoke a) (g_call c)
  g_statement (If branches otherwise) = g_two (λ a b. If a b) (g_branches branches) (g_statements otherwise)
  g_statement (While branches) = g_one (λ a. While a) (g_branches branches)
  g_statement (Repeat body x) = g_two (λ a b. Repeat a b) (g_statements body) (g_checked x)
  g_statement (For d x y step body) =
      g_two (for_of step) (g_two headed (g_two paired (g_designator d) (g_checked x)) (g_checked y)) (g_statements body)
  g_statement (Case x parts) = g_two (λ a b. Case a b) (g_checked x) (g_parts parts)
  g_statement (CasePointer x parts) = g_two (λ a b. CasePointer a b) (g_checked x) (g_parts parts)
  g_statement (CaseParameter d parts) = g_two (λ a b. CaseParameter a b) (g_designator d) (g_parts parts)

  g_statements : (x : Statements) → Gives (fill_statements (erased_statements x)) x (in_statements x)
  g_statements no_statement = g_given no_statement
  g_statements (next_statement s rest) = g_two (λ a b. next_statement a b) (g_statement s) (g_statements rest)

  g_branches : (x : Branches) → Gives (fill_branches (erased_branches x)) x (in_branches x)
  g_branches no_branch = g_given no_branch
  g_branches (next_branch x body rest) =
      g_two branch_of (g_two paired (g_checked x) (g_statements body)) (g_branches rest)

  g_parts : (x : Parts) → Gives (fill_parts (erased_parts x)) x (in_parts x)
  g_parts no_part = g_given no_part
  g_parts (next_part when body rest) = g_two (λ a b. next_part when a b) (g_statements body) (g_parts rest)

g_answer : (x : Option Checked) → Gives (fill_answer (erased_answer x)) x (in_answer x)
g_answer None = g_given None
g_answer (Some x) = g_one (λ a. Some a) (g_checked x)

-- bodies and answers that are the same without their strings, and have the same strings, are the same
pub same_with_strings : (body other : Statements) (answer another : Option Checked)
    → erased_statements body ≡ erased_statements other → erased_answer answer ≡ erased_answer another → texts_of body answer ≡ texts_of other another
    → (body ≡ other) × (answer ≡ another)
same_with_strings body other answer another e f texts =
    let pair : Statements → Option Checked → Statements × Option Checked = λ b x. (b, x) in
    let own = (g_two pair (g_statements body) (g_answer answer)).by [] in
    let its = (g_two pair (g_statements other) (g_answer another)).by [] in
    let between : two pair (fill_statements (erased_statements body)) (fill_answer (erased_answer answer)) (texts_of body answer ++ []) ≡ two pair (fill_statements (erased_statements other)) (fill_answer (erased_answer another)) (texts_of other another ++ []) =
    λ k. two pair (fill_statements (e k)) (fill_answer (f k)) (texts k ++ []) in
    let all = sym own ∙ (between ∙ its) in
    (ap (λ y. (y.0).0) all, ap (λ y. (y.0).1) all)
