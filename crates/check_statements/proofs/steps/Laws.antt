-- What judging a statement's parts comes to, by the parts that code takes out of it.
use Rattle.std.proofs.Common.{◌≡◌, ℕ, ℤ, List, [], ◌∷◌, Bool, true, false, Box, Global, Option, Some, None, refl, sym, ap, ◌∙◌}
use Rattle.ob_syntax.specs.Syntax as S
use Rattle.ob_syntax.specs.Plain.{plain_expression, plain_stats, plain_stat, plain_case, plain_option, plain_by}
use Rattle.ob_syntax.specs.declared.statements.Stats.{Stats, out-Stats}
use Rattle.ob_syntax.specs.declared.statements.NextStat.{NextStat}
use Rattle.ob_syntax.specs.declared.statements.Stat.TheVariants as TheStat
use Rattle.ob_syntax.specs.declared.statements.IfStat.{IfStat, out-IfStat}
use Rattle.ob_syntax.specs.declared.statements.Elsif.{Elsif, out-Elsif}
use Rattle.ob_syntax.specs.declared.statements.ElsifDo.{ElsifDo, out-ElsifDo}
use Rattle.ob_syntax.specs.declared.statements.WhileStat.{WhileStat, out-WhileStat}
use Rattle.ob_syntax.specs.declared.statements.RepeatStat.{RepeatStat, out-RepeatStat}
use Rattle.ob_syntax.specs.declared.statements.ForStat.{ForStat, out-ForStat}
use Rattle.ob_syntax.specs.declared.statements.CaseStat.{CaseStat, out-CaseStat}
use Rattle.ob_syntax.specs.declared.statements.CasePart.{CasePart, out-CasePart}
use Rattle.ob_syntax.specs.declared.statements.NextCase.{NextCase, out-NextCase}
use Rattle.check_statements.specs.syntax.Lists.{plain_each_stat, plain_each_elsif, plain_each_elsif_do, plain_maybe_else, plain_each_case}
use Rattle.check_statements.proofs.syntax.Parts.{stats_parts, elsif_parts, elsif_do_parts, next_case_parts, if_parts, case_stat_parts, while_parts, repeat_parts, for_parts}
use Rattle.ob_judge.specs.Judged.{Judged, Keeps, Breaks, ◌>>=◌, ◌>>◌, rule, some}
use Rattle.ob_judge.specs.Shapes.{Shape, is_number}
use Rattle.ob_judge.specs.Image.{Place, Designator, Checked, Statement, Statements, next_statement, If, While, Repeat, For, Branches, next_branch, Parts, next_part, When, Labels, Extends}
use Rattle.ob_judge.specs.Scopes.{World, Source, Object, place}
use Rattle.ob_judge.specs.Operands.{Operand, checked}
use Rattle.ob_judge.specs.Symbols.{expression_first, bare}
use Rattle.ob_judge.specs.Names.{named}
use Rattle.ob_judge.specs.Expressions.{expression}
use Rattle.ob_judge.specs.Assignments.{condition, number, integer_variable, step_of}
use Rattle.ob_judge.specs.Cases.{SelectorOf, OnInteger, OnChar, OnType, Labelled, as_list, ranges, type_labels, narrow, tag_of, case_variable, named_alone, selector_of, when_of, case_of}
use Rattle.ob_judge.specs.Statements.{statements, statement, next_statements, branches, else_part, case_part, next_cases}
use Rattle.check_statements.specs.steps.Steps.{JudgedHead, put_one, put_more, branch_one, branches_more, branches_more_do, if_of, while_of, repeat_of, head, for_of, part_one, part_more, parts_of, case_stat_of, filled, on_value, value_one, type_one}

-- ---- of any judgements

-- what is put before what f puts something before
abbrev composed : {A R : Type 0} → (A → R) → (A → A) → Judged (A → R)
composed a f = Keeps (λ r. a (f r))

abbrev branched : {R : Type 0} → (Branches → R) → Checked → Statements → Judged (Branches → R)
branched a g b = Keeps (λ r. a (next_branch g b r))

then_kept : {A : Type 0} (m : Judged (A → A)) (n : Judged A) → (m >>= λ f. n >>= λ r. Keeps (f r)) ≡ ((m >>= λ f. composed (λ r. r) f) >>= λ z. n >>= λ r. Keeps (z r))
then_kept (Keeps f) n = refl
then_kept (Breaks k at) n = refl

then_put : {A : Type 0} (a : A → A) (m : Judged (A → A)) (n : Judged A) → ((m >>= λ f. n >>= λ r. Keeps (f r)) >>= λ r. Keeps (a r)) ≡ ((m >>= λ f. composed a f) >>= λ z. n >>= λ r. Keeps (z r))
then_put a (Keeps f) (Keeps r) = refl
then_put a (Keeps f) (Breaks k at) = refl
then_put a (Breaks k at) n = refl

-- a condition, a body, and further branches
then_branch : {R : Type 0} (m : Judged Checked) (n : Judged Statements) (k : Judged Branches) (a : Branches → R) →
    ((m >>= λ g. n >>= λ b. k >>= λ more. Keeps (next_branch g b more)) >>= λ r. Keeps (a r)) ≡ ((m >>= λ g. n >>= λ b. branched a g b) >>= λ z. k >>= λ r. Keeps (z r))
then_branch (Keeps g) (Keeps b) (Keeps r) a = refl
then_branch (Keeps g) (Keeps b) (Breaks i at) a = refl
then_branch (Keeps g) (Breaks i at) k a = refl
then_branch (Breaks i at) n k a = refl

then_if : (m : Judged Checked) (n : Judged Statements) (k : Judged Branches) (l : Judged Statements) →
    (m >>= λ g. n >>= λ b. k >>= λ more. l >>= λ c. Keeps (next_statement (If (next_branch g b more) c)))
    ≡ (((m >>= λ g. n >>= λ b. branched (λ r. r) g b) >>= λ a. (k >>= λ r. Keeps (a r)) >>= λ bs. l >>= λ c. Keeps (If bs c)) >>= λ d. Keeps (next_statement d))
then_if (Keeps g) (Keeps b) (Keeps r) (Keeps c) = refl
then_if (Keeps g) (Keeps b) (Keeps r) (Breaks i at) = refl
then_if (Keeps g) (Keeps b) (Breaks i at) l = refl
then_if (Keeps g) (Breaks i at) k l = refl
then_if (Breaks i at) n k l = refl

then_while : (m : Judged Checked) (n : Judged Statements) (k : Judged Branches) →
    (m >>= λ g. n >>= λ b. k >>= λ more. Keeps (next_statement (While (next_branch g b more))))
    ≡ (((m >>= λ g. n >>= λ b. branched (λ r. r) g b) >>= λ a. (k >>= λ r. Keeps (a r)) >>= λ bs. Keeps (While bs)) >>= λ d. Keeps (next_statement d))
then_while (Keeps g) (Keeps b) (Keeps r) = refl
then_while (Keeps g) (Keeps b) (Breaks i at) = refl
then_while (Keeps g) (Breaks i at) k = refl
then_while (Breaks i at) n k = refl

then_repeat : (m : Judged Statements) (n : Judged Checked) → (m >>= λ b. n >>= λ g. Keeps (next_statement (Repeat b g))) ≡ ((m >>= λ b. n >>= λ g. Keeps (Repeat b g)) >>= λ d. Keeps (next_statement d))
then_repeat (Keeps b) (Keeps g) = refl
then_repeat (Keeps b) (Breaks i at) = refl
then_repeat (Breaks i at) n = refl

for_last : (d : Designator) (x : Operand) (l : Judged Checked) (k : Judged ℤ) (n : Judged Statements) →
    (l >>= λ y. k >>= λ step. n >>= λ b. Keeps (next_statement (For d (checked x) y step b)))
    ≡ (((l >>= λ y. k >>= λ step. Keeps (record { variable = d; first = checked x; limit = y; step = step })) >>= λ (h : JudgedHead). n >>= λ b. Keeps (For h.variable h.first h.limit h.step b)) >>= λ s. Keeps (next_statement s))
for_last d x (Keeps y) (Keeps step) (Keeps b) = refl
for_last d x (Keeps y) (Keeps step) (Breaks i at) = refl
for_last d x (Keeps y) (Breaks i at) n = refl
for_last d x (Breaks i at) k n = refl

for_middle : (at bt : ℕ) (o : Option Designator) (t : Bool) (x : Operand) (l : Judged Checked) (k : Judged ℤ) (n : Judged Statements) →
    (some 31 at o >>= λ d. rule 31 bt t >> (l >>= λ y. k >>= λ step. n >>= λ b. Keeps (next_statement (For d (checked x) y step b))))
    ≡ (((some 31 at o >>= λ d. rule 31 bt t >> (l >>= λ y. k >>= λ step. Keeps (record { variable = d; first = checked x; limit = y; step = step }))) >>= λ (h : JudgedHead). n >>= λ b. Keeps (For h.variable h.first h.limit h.step b)) >>= λ s. Keeps (next_statement s))
for_middle at bt (Some d) true x l k n = for_last d x l k n
for_middle at bt (Some d) false x l k n = refl
for_middle at bt None t x l k n = refl

module _ (p : Source) (w : World) where
  -- ---- lists

  pub put_law : (a : Statements → Statements) (x : NextStat) (xs : List NextStat) → put_more p w a (x ∷ xs) ≡ (put_one p w a x.stat >>= λ z. put_more p w z xs)
  put_law a x xs = then_put a (statement p w (plain_stat x.stat)) (next_statements p w (plain_each_stat xs))

  pub statements_is : (x : Stats) → statements p w (plain_stats x) ≡ (put_one p w (λ r. r) (out-Stats x).first >>= λ a. put_more p w a (out-Stats x).more.items)
  statements_is x = ap (statements p w) (stats_parts x) ∙ then_kept (statement p w (plain_stat (out-Stats x).first)) (next_statements p w (plain_each_stat (out-Stats x).more.items))

  pub elsif_law : (a : Branches → Branches) (x : Elsif) (xs : List Elsif) →
      branches_more p w a (x ∷ xs) ≡ (branch_one p w a (plain_expression (out-Elsif x).guard) (plain_stats (out-Elsif x).body) >>= λ z. branches_more p w z xs)
  elsif_law a x xs = ap (λ e. branches p w e >>= λ r. Keeps (a r)) (elsif_parts x xs) ∙ then_branch (condition p w (plain_expression (out-Elsif x).guard)) (statements p w (plain_stats (out-Elsif x).body)) (branches p w (plain_each_elsif xs)) a

  pub elsif_do_law : (a : Branches → Branches) (x : ElsifDo) (xs : List ElsifDo) →
      branches_more_do p w a (x ∷ xs) ≡ (branch_one p w a (plain_expression (out-ElsifDo x).guard) (plain_stats (out-ElsifDo x).body) >>= λ z. branches_more_do p w z xs)
  elsif_do_law a x xs = ap (λ e. branches p w e >>= λ r. Keeps (a r)) (elsif_do_parts x xs) ∙ then_branch (condition p w (plain_expression (out-ElsifDo x).guard)) (statements p w (plain_stats (out-ElsifDo x).body)) (branches p w (plain_each_elsif_do xs)) a

  -- ---- statements

  pub if_is : (b : Box IfStat Global) → statement p w (plain_stat (TheStat.If b)) ≡ (if_of p w b.value >>= λ d. Keeps (next_statement d))
  if_is b = let x = out-IfStat b.value in ap (statement p w) (if_parts b) ∙ then_if (condition p w (plain_expression x.guard)) (statements p w (plain_stats x.body)) (branches p w (plain_each_elsif x.elsifs.items)) (else_part p w (plain_maybe_else x.otherwise))

  pub while_is : (b : Box WhileStat Global) → statement p w (plain_stat (TheStat.While b)) ≡ (while_of p w b.value >>= λ d. Keeps (next_statement d))
  while_is b = let x = out-WhileStat b.value in ap (statement p w) (while_parts b) ∙ then_while (condition p w (plain_expression x.guard)) (statements p w (plain_stats x.body)) (branches p w (plain_each_elsif_do x.elsifs.items))

  pub repeat_is : (b : Box RepeatStat Global) → statement p w (plain_stat (TheStat.Repeat b)) ≡ (repeat_of p w b.value >>= λ d. Keeps (next_statement d))
  repeat_is b = let x = out-RepeatStat b.value in ap (statement p w) (repeat_parts b) ∙ then_repeat (statements p w (plain_stats x.body)) (condition p w (plain_expression x.guard))

  for_first : (v : ℕ) (from to : S.Expression) (by : Option S.By) (body : S.Stats) (m : Judged Object) (n : Judged Operand) →
      (m >>= λ o. n >>= λ x. some 31 (place p v) (integer_variable w o) >>= λ d. rule 31 (place p (expression_first from)) (is_number x.shape) >> (number p w to >>= λ y. step_of p w by >>= λ step. statements p w body >>= λ b. Keeps (next_statement (For d (checked x) y step b))))
      ≡ (((m >>= λ o. n >>= λ x. some 31 (place p v) (integer_variable w o) >>= λ d. rule 31 (place p (expression_first from)) (is_number x.shape) >> (number p w to >>= λ y. step_of p w by >>= λ step. Keeps (record { variable = d; first = checked x; limit = y; step = step }))) >>= λ (h : JudgedHead). statements p w body >>= λ b. Keeps (For h.variable h.first h.limit h.step b)) >>= λ s. Keeps (next_statement s))
  for_first v from to by body (Keeps o) (Keeps x) = for_middle (place p v) (place p (expression_first from)) (integer_variable w o) (is_number x.shape) x (number p w to) (step_of p w by) (statements p w body)
  for_first v from to by body (Keeps o) (Breaks i at) = refl
  for_first v from to by body (Breaks i at) n = refl

  pub for_is : (b : Box ForStat Global) → statement p w (plain_stat (TheStat.For b)) ≡ (for_of p w b.value >>= λ d. Keeps (next_statement d))
  for_is b = let x = out-ForStat b.value in ap (statement p w) (for_parts b) ∙ for_first x.variable (plain_expression x.from) (plain_expression x.to) (plain_option plain_by x.by) (plain_stats x.body) (named p w x.variable) (expression p w (plain_expression x.from))

  -- ---- CASE

  case_last : (s : SelectorOf) (x : Operand) (one : (Parts → Parts) × List (ℤ × ℤ)) (n : Judged Parts) →
      (n >>= λ rest. Keeps (next_statement (case_of s x (one.0 rest)))) ≡ (((n >>= λ r. Keeps (one.0 r)) >>= λ parts. Keeps (case_of s x parts)) >>= λ d. Keeps (next_statement d))
  case_last s x one (Keeps r) = refl
  case_last s x one (Breaks i at) = refl

  case_middle : (s : SelectorOf) (x : Operand) (more : List NextCase) (m : Judged ((Parts → Parts) × List (ℤ × ℤ))) →
      (m >>= λ one. next_cases p w s one.1 (plain_each_case more) >>= λ rest. Keeps (next_statement (case_of s x (one.0 rest))))
      ≡ (((m >>= λ one. Keeps ((λ r. one.0 r), one.1)) >>= λ a. part_more p w s a more >>= λ parts. Keeps (case_of s x parts)) >>= λ d. Keeps (next_statement d))
  case_middle s x more (Keeps one) = case_last s x one (next_cases p w s one.1 (plain_each_case more))
  case_middle s x more (Breaks i at) = refl

  case_selected : (at : ℕ) (x : Operand) (first : S.MaybeCase) (more : List NextCase) (o : Option SelectorOf) →
      (some 31 at o >>= λ s. case_part p w s [] first >>= λ one. next_cases p w s one.1 (plain_each_case more) >>= λ rest. Keeps (next_statement (case_of s x (one.0 rest))))
      ≡ ((some 31 at o >>= λ s. (case_part p w s [] first >>= λ one. Keeps ((λ r. one.0 r), one.1)) >>= λ a. part_more p w s a more >>= λ parts. Keeps (case_of s x parts)) >>= λ d. Keeps (next_statement d))
  case_selected at x first more (Some s) = case_middle s x more (case_part p w s [] first)
  case_selected at x first more None = refl

  case_first : (e : S.Expression) (first : S.MaybeCase) (more : List NextCase) (m : Judged Operand) →
      (m >>= λ x. some 31 (place p (expression_first e)) (selector_of (case_variable (named_alone p w (bare e))) x.shape) >>= λ s. case_part p w s [] first >>= λ one. next_cases p w s one.1 (plain_each_case more) >>= λ rest. Keeps (next_statement (case_of s x (one.0 rest))))
      ≡ ((m >>= λ x. some 31 (place p (expression_first e)) (selector_of (case_variable (named_alone p w (bare e))) x.shape) >>= λ s. (case_part p w s [] first >>= λ one. Keeps ((λ r. one.0 r), one.1)) >>= λ a. part_more p w s a more >>= λ parts. Keeps (case_of s x parts)) >>= λ d. Keeps (next_statement d))
  case_first e first more (Keeps x) = case_selected (place p (expression_first e)) x first more (selector_of (case_variable (named_alone p w (bare e))) x.shape)
  case_first e first more (Breaks i at) = refl

  pub case_is : (b : Box CaseStat Global) → statement p w (plain_stat (TheStat.Case b)) ≡ (case_stat_of p w b.value >>= λ d. Keeps (next_statement d))
  case_is b = let x = out-CaseStat b.value in ap (statement p w) (case_stat_parts b) ∙ case_first (plain_expression x.selector) (plain_case x.first) x.more.items (expression p w (plain_expression x.selector))

  part_kept : (a one : (Parts → Parts) × List (ℤ × ℤ)) (n : Judged Parts) → ((n >>= λ more. Keeps (one.0 more)) >>= λ r. Keeps (a.0 r)) ≡ (n >>= λ r. Keeps (a.0 (one.0 r)))
  part_kept a one (Keeps r) = refl
  part_kept a one (Breaks i at) = refl

  part_then : (s : SelectorOf) (a : (Parts → Parts) × List (ℤ × ℤ)) (xs : List NextCase) (m : Judged ((Parts → Parts) × List (ℤ × ℤ))) →
      ((m >>= λ one. next_cases p w s one.1 (plain_each_case xs) >>= λ more. Keeps (one.0 more)) >>= λ r. Keeps (a.0 r)) ≡ ((m >>= λ one. Keeps ((λ r. a.0 (one.0 r)), one.1)) >>= λ z. part_more p w s z xs)
  part_then s a xs (Keeps one) = part_kept a one (next_cases p w s one.1 (plain_each_case xs))
  part_then s a xs (Breaks i at) = refl

  pub part_law : (s : SelectorOf) (a : (Parts → Parts) × List (ℤ × ℤ)) (x : NextCase) (xs : List NextCase) →
      part_more p w s a (x ∷ xs) ≡ (part_one p w s a (plain_case (out-NextCase x).case) >>= λ z. part_more p w s z xs)
  part_law s a x xs = ap (λ e. next_cases p w s a.1 e >>= λ r. Keeps (a.0 r)) (next_case_parts x xs) ∙ part_then s a xs (case_part p w s a.1 (plain_case (out-NextCase x).case))

  -- the labels of a part, then its body
  abbrev labelled_when : Labelled → Judged (When × World × List (ℤ × ℤ))
  labelled_when l = Keeps (Labels l.labels, w, l.taken)

  abbrev typed_when : Place → List (ℤ × ℤ) → Shape → Judged (When × World × List (ℤ × ℤ))
  typed_when d ts t = Keeps (Extends (tag_of w.known t), narrow w d t, ts)

  abbrev bodied : When → List (ℤ × ℤ) → Statements → Judged ((Parts → Parts) × List (ℤ × ℤ))
  bodied when ts b = Keeps (next_part when b, ts)

  abbrev added : (Parts → Parts) × List (ℤ × ℤ) → (Parts → Parts) × List (ℤ × ℤ) → Judged ((Parts → Parts) × List (ℤ × ℤ))
  added a one = Keeps ((λ r. a.0 (one.0 r)), one.1)

  abbrev pub put_part : (Parts → Parts) × List (ℤ × ℤ) → When → List (ℤ × ℤ) → Statements → Judged ((Parts → Parts) × List (ℤ × ℤ))
  put_part a when ts b = Keeps ((λ r. a.0 (next_part when b r)), ts)

  with_body : (a : (Parts → Parts) × List (ℤ × ℤ)) (when : When) (ts : List (ℤ × ℤ)) (n : Judged Statements) → ((n >>= λ b. bodied when ts b) >>= λ one. added a one) ≡ (n >>= λ b. put_part a when ts b)
  with_body a when ts (Keeps b) = refl
  with_body a when ts (Breaks i at) = refl

  valued : (a : (Parts → Parts) × List (ℤ × ℤ)) (body : S.Stats) (m : Judged Labelled) →
      (((m >>= λ l. labelled_when l) >>= λ x. statements p x.1 body >>= λ b. bodied x.0 x.2 b) >>= λ one. added a one) ≡ (m >>= λ l. statements p w body >>= λ b. put_part a (Labels l.labels) l.taken b)
  valued a body (Keeps l) = with_body a (Labels l.labels) l.taken (statements p w body)
  valued a body (Breaks i at) = refl

  pub value_filled_is : (of_char : Bool) (a : (Parts → Parts) × List (ℤ × ℤ)) (x : CasePart) →
      filled p w (on_value of_char) a x ≡ (ranges p w of_char (as_list (out-CasePart x).first (out-CasePart x).more.items) a.1 >>= λ l. statements p w (plain_stats (out-CasePart x).body) >>= λ b. put_part a (Labels l.labels) l.taken b)
  value_filled_is false a x = valued a (plain_stats (out-CasePart x).body) (ranges p w false (as_list (out-CasePart x).first (out-CasePart x).more.items) a.1)
  value_filled_is true a x = valued a (plain_stats (out-CasePart x).body) (ranges p w true (as_list (out-CasePart x).first (out-CasePart x).more.items) a.1)

  typed : (d : Place) (a : (Parts → Parts) × List (ℤ × ℤ)) (body : S.Stats) (m : Judged Shape) →
      (((m >>= λ t. typed_when d a.1 t) >>= λ x. statements p x.1 body >>= λ b. bodied x.0 x.2 b) >>= λ one. added a one)
      ≡ (m >>= λ t. statements p (narrow w d t) body >>= λ b. put_part a (Extends (tag_of w.known t)) a.1 b)
  typed d a body (Keeps t) = with_body a (Extends (tag_of w.known t)) a.1 (statements p (narrow w d t) body)
  typed d a body (Breaks i at) = refl

  pub type_filled_is : (d : Place) (s : Shape) (a : (Parts → Parts) × List (ℤ × ℤ)) (x : CasePart) →
      filled p w (OnType d s) a x ≡ (type_labels p w s (out-CasePart x).first (out-CasePart x).more.items >>= λ t. statements p (narrow w d t) (plain_stats (out-CasePart x).body) >>= λ b. put_part a (Extends (tag_of w.known t)) a.1 b)
  type_filled_is d s a x = typed d a (plain_stats (out-CasePart x).body) (type_labels p w s (out-CasePart x).first (out-CasePart x).more.items)
