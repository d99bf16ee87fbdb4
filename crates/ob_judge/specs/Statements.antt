-- Statements judged, one after the other (Oberon-07 report, section 9).
use Rattle.std.specs.Prelude.{List, [], Option, Some, None, ℤ}
use Rattle.ob_syntax.specs.Syntax as S
use Rattle.ob_judge.specs.Judged.{Judged, Keeps, ◌>>=◌, ◌>>◌, rule, some}
use Rattle.ob_judge.specs.Shapes.{is_number}
use Rattle.ob_judge.specs.Image.{If, While, Repeat, For, Statements, no_statement, next_statement, Branches, no_branch, next_branch, Parts, no_part, next_part}
use Rattle.ob_judge.specs.Scopes.{World, Source, place}
use Rattle.ob_judge.specs.Operands.{checked}
use Rattle.ob_judge.specs.Symbols.{expression_first, bare}
use Rattle.ob_judge.specs.Names.{named}
use Rattle.ob_judge.specs.Expressions.{expression}
use Rattle.ob_judge.specs.Assignments.{assign_or_call, condition, number, integer_variable, step_of}
use Rattle.ob_judge.specs.Cases.{SelectorOf, case_variable, named_alone, selector_of, when_of, case_of}

module _ (p : Source) where
  abbrev mutual
    pub statements : World → S.Stats → Judged Statements
    statements w (S.stats first more) = do
      f ← statement w first
      xs ← next_statements w more
      Keeps (f xs)

    -- what a statement puts before those that follow it: an empty one puts nothing
    pub statement : World → S.Stat → Judged (Statements → Statements)
    statement w S.Empty = Keeps (λ xs. xs)
    statement w (S.AssignOrCall designator assigned) = do
      d ← assign_or_call p w designator assigned
      Keeps (next_statement d)
    statement w (S.If if_word guard then_word body elsifs other end_word) = do
      g ← condition p w guard
      b ← statements w body
      more ← branches w elsifs
      c ← else_part w other
      Keeps (next_statement (If (next_branch g b more) c))
    statement w (S.Case case_word selector of_word first more end_word) = do
      x ← expression p w selector
      s ← some 31 (place p (expression_first selector)) (selector_of (case_variable (named_alone p w (bare selector))) x.shape)
      one ← case_part w s [] first
      rest ← next_cases w s one.1 more
      Keeps (next_statement (case_of s x (one.0 rest)))
    statement w (S.While while_word guard do_word body elsifs end_word) = do
      g ← condition p w guard
      b ← statements w body
      more ← branches w elsifs
      Keeps (next_statement (While (next_branch g b more)))
    statement w (S.Repeat repeat_word body until_word guard) = do
      b ← statements w body
      g ← condition p w guard
      Keeps (next_statement (Repeat b g))
    statement w (S.For for_word variable becomes from to_word to by do_word body end_word) = do
      o ← named p w variable
      x ← expression p w from
      d ← some 31 (place p variable) (integer_variable w o)
      rule 31 (place p (expression_first from)) (is_number x.shape)
      y ← number p w to
      step ← step_of p w by
      b ← statements w body
      Keeps (next_statement (For d (checked x) y step b))

    pub next_statements : World → S.NextStats → Judged Statements
    next_statements w S.no_stat = Keeps no_statement
    next_statements w (S.next_stat semicolon s rest) = do
      f ← statement w s
      xs ← next_statements w rest
      Keeps (f xs)

    -- ELSIFs
    pub branches : World → S.Elsifs → Judged Branches
    branches w S.no_elsif = Keeps no_branch
    branches w (S.next_elsif elsif_word guard then_word body rest) = do
      g ← condition p w guard
      b ← statements w body
      more ← branches w rest
      Keeps (next_branch g b more)

    pub else_part : World → S.MaybeElse → Judged Statements
    else_part w S.no_else = Keeps no_statement
    else_part w (S.otherwise else_word body) = statements w body

    -- what a case puts before those that follow it, and the labels so far: an empty one puts nothing
    pub case_part : World → SelectorOf → List (ℤ × ℤ) → S.MaybeCase → Judged ((Parts → Parts) × List (ℤ × ℤ))
    case_part w s taken S.no_case = Keeps ((λ rest. rest), taken)
    case_part w s taken (S.one_case first more colon body) = do
      x ← when_of p w s taken first more
      b ← statements x.1 body
      Keeps (next_part x.0 b, x.2)

    pub next_cases : World → SelectorOf → List (ℤ × ℤ) → S.NextCases → Judged Parts
    next_cases w s taken S.no_next_case = Keeps no_part
    next_cases w s taken (S.next_case bar x rest) = do
      one ← case_part w s taken x
      more ← next_cases w s one.1 rest
      Keeps (one.0 more)

  -- `BEGIN stats`
  abbrev pub body_of : World → Option S.Body → Judged Statements
  body_of w None = Keeps no_statement
  body_of w (Some b) = statements w b.stats
