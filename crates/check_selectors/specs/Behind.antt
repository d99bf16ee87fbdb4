-- What the judgement makes of a selector behind a stage, by the kind of stage.
use Rattle.std.specs.Prelude.{ℕ, List, Option, Some, None}
use Rattle.ob_syntax.specs.Syntax as S
use Rattle.ob_judge.specs.Judged.{Judged, Keeps, ◌>>=◌}
use Rattle.ob_judge.specs.Scopes.{Standard, AStandard, Imported, AModule, World, Source}
use Rattle.ob_judge.specs.Operands.{Operand}
use Rattle.ob_judge.specs.Calls.{Given, standard}
use Rattle.ob_judge.specs.Symbols.{bare_list}
use Rattle.ob_judge.specs.Names.{Stage, Whole, Partly, Ended, member, type_named, begun}
use Rattle.ob_judge.specs.Parts.{field, target, guarded, applied, guard_name}
use Rattle.ob_judge.specs.Expressions.{indexed, arguments}

-- the module that a name alone stands for
abbrev pub module_in : Stage → Option Imported
module_in (Whole (AModule m)) = Some m
module_in a = None

-- the standard procedure that it stands for
abbrev pub standard_in : Stage → Option Standard
standard_in (Whole (AStandard s)) = Some s
standard_in a = None

module _ (p : Source) (w : World) where
  abbrev pub member_behind : Imported → (i : ℕ) → Judged Stage
  member_behind m i = do
    o ← member p w m i
    Keeps (Whole o)

  abbrev pub field_behind : (at i : ℕ) → Stage → Judged Stage
  field_behind at i a = do
    x ← begun p w at a
    y ← field p w at i x
    Keeps (Partly y)

  abbrev pub target_behind : (at : ℕ) → Stage → Judged Stage
  target_behind at a = do
    x ← begun p w at a
    y ← target p w at x
    Keeps (Partly y)

  abbrev pub index_behind : (at : ℕ) → S.Expressions → Stage → Judged Stage
  index_behind at list a = do
    x ← begun p w at a
    y ← indexed p w at x list
    Keeps (Partly y)

  abbrev pub standard_behind : (at : ℕ) → Standard → List Given → Judged Stage
  standard_behind at s xs = do
    y ← standard w at s xs
    Keeps (Ended y)

  abbrev pub call_behind : (at : ℕ) → List Given → Operand → Judged Stage
  call_behind at xs x = do
    y ← applied p w at x x.shape xs
    Keeps (Ended y)

  abbrev pub guard_behind : (at : ℕ) → ℕ × Option ℕ → Operand → Judged Stage
  guard_behind at q x = do
    t ← type_named p w 31 q.0 q.1
    y ← guarded p w at x t
    Keeps (Partly y)

  -- a list in parentheses, behind what is no standard procedure: a guard where it is a qualident and no procedure
  -- stands before it
  abbrev pub list_behind : (at : ℕ) → S.Expressions → Operand → Option (ℕ × Option ℕ) → Judged Stage
  list_behind at list x (Some q) = guard_behind at q x
  list_behind at list x None = do
    xs ← arguments p w list
    call_behind at xs x

  abbrev pub parens_behind : (at : ℕ) → S.Expressions → Stage → Judged Stage
  parens_behind at list a = do
    x ← begun p w at a
    list_behind at list x (guard_name x (bare_list list))

  -- arguments of a standard procedure
  abbrev pub arguments_behind : (at : ℕ) → S.Expressions → Standard → Judged Stage
  arguments_behind at list s = do
    xs ← arguments p w list
    standard_behind at s xs

  -- a list in parentheses behind any stage
  abbrev pub parens_at : (at : ℕ) → S.Expressions → Stage → Option Standard → Judged Stage
  parens_at at list a (Some s) = arguments_behind at list s
  parens_at at list a None = parens_behind at list a

  abbrev pub parens_behind_any : (at : ℕ) → S.Expressions → Stage → Judged Stage
  parens_behind_any at list a = parens_at at list a (standard_in a)
