-- Steps of the judgement of statements, of one part of the tree each.
use Rattle.std.specs.Prelude.{ℕ, ℤ, Bool, true, false, List, [], Option}
use Rattle.ob_syntax.specs.Syntax as S
use Rattle.ob_syntax.specs.Plain.{plain_expression, plain_stats, plain_stat, plain_case, plain_option, plain_by}
use Rattle.ob_syntax.specs.declared.statements.NextStat.{NextStat}
use Rattle.ob_syntax.specs.declared.statements.Stat.{Stat}
use Rattle.ob_syntax.specs.declared.statements.IfStat.{IfStat, out-IfStat}
use Rattle.ob_syntax.specs.declared.statements.Elsif.{Elsif}
use Rattle.ob_syntax.specs.declared.statements.ElsifDo.{ElsifDo}
use Rattle.ob_syntax.specs.declared.statements.WhileStat.{WhileStat, out-WhileStat}
use Rattle.ob_syntax.specs.declared.statements.RepeatStat.{RepeatStat, out-RepeatStat}
use Rattle.ob_syntax.specs.declared.statements.ForStat.{ForStat, out-ForStat}
use Rattle.ob_syntax.specs.declared.statements.CaseStat.{CaseStat, out-CaseStat}
use Rattle.ob_syntax.specs.declared.statements.Case.{Case}
use Rattle.ob_syntax.specs.declared.statements.CasePart.{CasePart, out-CasePart}
use Rattle.ob_syntax.specs.declared.statements.NextCase.{NextCase}
use Rattle.check_statements.specs.syntax.Lists.{plain_each_stat, plain_each_elsif, plain_each_elsif_do, plain_maybe_else, plain_each_case}
use Rattle.ob_judge.specs.Judged.{Judged, Keeps, ◌>>=◌, ◌>>◌, rule, some}
use Rattle.ob_judge.specs.Shapes.{Shape, is_number}
use Rattle.ob_judge.specs.Image.{Designator, Checked, Place, Statement, Statements, If, While, Repeat, For, Branches, next_branch, Parts}
use Rattle.ob_judge.specs.Scopes.{World, Source, place}
use Rattle.ob_judge.specs.Operands.{Operand, checked}
use Rattle.ob_judge.specs.Symbols.{expression_first, bare}
use Rattle.ob_judge.specs.Names.{named}
use Rattle.ob_judge.specs.Expressions.{expression}
use Rattle.ob_judge.specs.Assignments.{condition, number, integer_variable, step_of}
use Rattle.ob_judge.specs.Cases.{SelectorOf, OnInteger, OnChar, OnType, case_variable, named_alone, selector_of, when_of, case_of}
use Rattle.ob_judge.specs.Statements.{statements, statement, next_statements, branches, else_part, case_part, next_cases}

-- a FOR statement before DO
pub record JudgedHead : Type 0 where
  pub variable : Designator
  pub first : Checked
  pub limit : Checked
  pub step : ℤ

-- what a CASE on values is on
abbrev pub on_value : (of_char : Bool) → SelectorOf
on_value false = OnInteger
on_value true = OnChar

module _ (p : Source) (w : World) where
  -- ---- lists of statements

  -- one more statement
  abbrev pub put_one : (Statements → Statements) → Stat → Judged (Statements → Statements)
  put_one a x = do
    f ← statement p w (plain_stat x)
    Keeps (λ rest. a (f rest))

  -- statements, and those that follow
  abbrev pub put_more : (Statements → Statements) → List NextStat → Judged Statements
  put_more a xs = do
    rest ← next_statements p w (plain_each_stat xs)
    Keeps (a rest)

  -- ---- branches

  abbrev pub branch_one : (Branches → Branches) → S.Expression → S.Stats → Judged (Branches → Branches)
  branch_one a guard body = do
    g ← condition p w guard
    b ← statements p w body
    Keeps (λ rest. a (next_branch g b rest))

  abbrev pub branches_more : (Branches → Branches) → List Elsif → Judged Branches
  branches_more a xs = do
    rest ← branches p w (plain_each_elsif xs)
    Keeps (a rest)

  abbrev pub branches_more_do : (Branches → Branches) → List ElsifDo → Judged Branches
  branches_more_do a xs = do
    rest ← branches p w (plain_each_elsif_do xs)
    Keeps (a rest)

  -- ---- statements

  abbrev pub if_of : IfStat → Judged Statement
  if_of x = do
    a ← branch_one (λ rest. rest) (plain_expression (out-IfStat x).guard) (plain_stats (out-IfStat x).body)
    bs ← branches_more a (out-IfStat x).elsifs.items
    c ← else_part p w (plain_maybe_else (out-IfStat x).otherwise)
    Keeps (If bs c)

  abbrev pub while_of : WhileStat → Judged Statement
  while_of x = do
    a ← branch_one (λ rest. rest) (plain_expression (out-WhileStat x).guard) (plain_stats (out-WhileStat x).body)
    bs ← branches_more_do a (out-WhileStat x).elsifs.items
    Keeps (While bs)

  abbrev pub repeat_of : RepeatStat → Judged Statement
  repeat_of x = do
    b ← statements p w (plain_stats (out-RepeatStat x).body)
    g ← condition p w (plain_expression (out-RepeatStat x).guard)
    Keeps (Repeat b g)

  -- a FOR statement before DO
  abbrev pub head : (variable : ℕ) → S.Expression → S.Expression → Option S.By → Judged JudgedHead
  head variable from to by = do
    o ← named p w variable
    x ← expression p w from
    d ← some 31 (place p variable) (integer_variable w o)
    rule 31 (place p (expression_first from)) (is_number x.shape)
    y ← number p w to
    step ← step_of p w by
    Keeps (record { variable = d; first = checked x; limit = y; step = step })

  abbrev pub for_of : ForStat → Judged Statement
  for_of x = do
    h ← head (out-ForStat x).variable (plain_expression (out-ForStat x).from) (plain_expression (out-ForStat x).to) (plain_option plain_by (out-ForStat x).by)
    b ← statements p w (plain_stats (out-ForStat x).body)
    Keeps (For h.variable h.first h.limit h.step b)

  -- ---- CASE

  -- one more part, and all labels so far
  abbrev pub part_one : SelectorOf → (Parts → Parts) × List (ℤ × ℤ) → S.MaybeCase → Judged ((Parts → Parts) × List (ℤ × ℤ))
  part_one s a x = do
    one ← case_part p w s a.1 x
    Keeps ((λ rest. a.0 (one.0 rest)), one.1)

  abbrev pub part_more : SelectorOf → (Parts → Parts) × List (ℤ × ℤ) → List NextCase → Judged Parts
  part_more s a xs = do
    rest ← next_cases p w s a.1 (plain_each_case xs)
    Keeps (a.0 rest)

  -- a CASE on this
  abbrev pub parts_of : SelectorOf → Operand → Case → List NextCase → Judged Statement
  parts_of s x first more = do
    a ← part_one s ((λ rest. rest), []) (plain_case first)
    parts ← part_more s a more
    Keeps (case_of s x parts)

  abbrev pub case_stat_of : CaseStat → Judged Statement
  case_stat_of c = do
    x ← expression p w (plain_expression (out-CaseStat c).selector)
    s ← some 31 (place p (expression_first (plain_expression (out-CaseStat c).selector))) (selector_of (case_variable (named_alone p w (bare (plain_expression (out-CaseStat c).selector)))) x.shape)
    parts_of s x (out-CaseStat c).first (out-CaseStat c).more.items

  -- a part with labels
  abbrev pub filled : SelectorOf → (Parts → Parts) × List (ℤ × ℤ) → CasePart → Judged ((Parts → Parts) × List (ℤ × ℤ))
  filled s a x = part_one s a (S.one_case (out-CasePart x).first (out-CasePart x).more.items (out-CasePart x).colon (plain_stats (out-CasePart x).body))

  abbrev pub value_one : Bool → (Parts → Parts) × List (ℤ × ℤ) → Case → Judged ((Parts → Parts) × List (ℤ × ℤ))
  value_one of_char a x = part_one (on_value of_char) a (plain_case x)

  abbrev pub value_filled : Bool → (Parts → Parts) × List (ℤ × ℤ) → CasePart → Judged ((Parts → Parts) × List (ℤ × ℤ))
  value_filled of_char a x = filled (on_value of_char) a x

  abbrev pub value_more : Bool → (Parts → Parts) × List (ℤ × ℤ) → List NextCase → Judged Parts
  value_more of_char a xs = part_more (on_value of_char) a xs

  abbrev pub value_case_of : Bool → Operand → Case → List NextCase → Judged Statement
  value_case_of of_char x first more = parts_of (on_value of_char) x first more

  abbrev pub type_one : Place → Shape → (Parts → Parts) × List (ℤ × ℤ) → Case → Judged ((Parts → Parts) × List (ℤ × ℤ))
  type_one d s a x = part_one (OnType d s) a (plain_case x)

  abbrev pub type_filled : Place → Shape → (Parts → Parts) × List (ℤ × ℤ) → CasePart → Judged ((Parts → Parts) × List (ℤ × ℤ))
  type_filled d s a x = filled (OnType d s) a x

  abbrev pub type_more : Place → Shape → (Parts → Parts) × List (ℤ × ℤ) → List NextCase → Judged Parts
  type_more d s a xs = part_more (OnType d s) a xs

  abbrev pub type_case_of : Place → Shape → Operand → Case → List NextCase → Judged Statement
  type_case_of d s x first more = parts_of (OnType d s) x first more
