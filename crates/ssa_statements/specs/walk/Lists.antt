-- Statements by lists, as the code walks them.
use Rattle.std.specs.Prelude.{ℕ, ℤ, List, [], ◌∷◌, map}
use Rattle.block_runs.specs.declared.end.End.TheVariants.{Jump, Trap}
use Rattle.ob_types.specs.declared.program.Program.{Program}
use Rattle.ob_types.specs.declared.statements.Branch.{Branch}
use Rattle.ob_types.specs.declared.statements.CasePart.{CasePart}
use Rattle.ob_types.specs.declared.statements.Checked.{Checked}
use Rattle.ob_types.specs.declared.statements.Stmt.{Stmt}
use Rattle.ob_types.specs.declared.statements.TypePart.{TypePart}
use Rattle.ob_types.specs.declared.tree.Designator.{Designator}
use Rattle.ssa_lowered.specs.Control.{choose, Round, loop, repeat, case}
use Rattle.ssa_lowered.specs.Data.{layout}
use Rattle.ssa_lowered.specs.Lowered.{Here, deeds_of}
use Rattle.ssa_lowered.specs.Pieces.{◌>>=◌}
use Rattle.ssa_lowered.specs.Statements.{Deed}
use Rattle.ssa_lowered.specs.Variables.{either, itself}
use Rattle.ssa_exprs.specs.Tables.{expr_in}
use Rattle.ssa_assigned.specs.Assigned.{assigned_list, assigned_parts, assigned_cases, assigned_types}
use Rattle.ssa_assigned.specs.Registers.{registers_in}
use Rattle.ssa_statements.specs.Meeting.{reached_in, advance_in}
use Rattle.ssa_statements.specs.Rungs.{rungs_in}
use Rattle.ssa_statements.specs.declared.walk.rungs.Dynamic.{Dynamic}
use Rattle.ssa_statements.specs.walk.Rungs.{coded_cases, coded_types}

module _ (p : Program) (here : Here) where
  -- the statements of a list, in the layout in use
  abbrev pub deeds_in : List Stmt → Deed
  deeds_in ss = deeds_of p (layout p.types) here ss

  -- the branches of IF; behind them these statements, as this code
  abbrev pub alternatives_in : List Branch → List Stmt → Deed → Deed
  alternatives_in [] other g = g
  alternatives_in (x ∷ more) other g = choose (registers_in p here (either (assigned_list x.body.items) (either (assigned_parts more) (assigned_list other)))) (expr_in p here x.condition.form).test (deeds_in x.body.items) (alternatives_in more other g)

  -- a guard of WHILE, with what is done where it holds
  abbrev pub round_in : Branch → Round
  round_in x = record { test = (expr_in p here x.condition.form).test; body = deeds_in x.body.items }

  abbrev pub rounds_in : List Branch → List Round
  rounds_in xs = map round_in xs

  abbrev pub loop_in : List Branch → Deed
  loop_in xs = loop (registers_in p here (assigned_parts xs)) (rounds_in xs)

  abbrev pub repeat_in : List Stmt → Checked → Deed
  repeat_in body x = repeat (registers_in p here (assigned_list body)) (deeds_in body) (expr_in p here x.form).test

  -- the loop of FOR, whose limit is a value
  abbrev pub count_in : Designator → ℤ → List Stmt → ℕ → Deed
  count_in d step body last = loop (registers_in p here (either (itself d) (assigned_list body))) (record { test = reached_in p here d last step; body = deeds_in body >>= λ _. advance_in p here d step } ∷ [])

  abbrev pub case_bodies_in : List CasePart → List Deed
  case_bodies_in xs = map (λ x. deeds_in x.body.items) xs

  abbrev pub type_bodies_in : List TypePart → List Deed
  type_bodies_in xs = map (λ x. deeds_in x.body.items) xs

  -- CASE, whose selector is a value
  abbrev pub case_in : List CasePart → ℕ → Deed
  case_in xs v = case (registers_in p here (assigned_cases xs)) (rungs_in p here v (coded_cases 0 xs)) (case_bodies_in xs) (λ out args. Trap 6)

  abbrev pub types_in : Dynamic → List TypePart → ℕ → Deed
  types_in kind xs v = case (registers_in p here (assigned_types xs)) (rungs_in p here v (coded_types kind 0 xs)) (type_bodies_in xs) (λ out args. Jump out args)
