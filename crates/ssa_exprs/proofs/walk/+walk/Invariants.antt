use Rattle.std.proofs.Common.{drop, length, List, ℕ, max, ◌+◌, ◌*◌}
use Rattle.ob_types.specs.declared.program.Program.{Program}
use Rattle.ssa_lowered.specs.Lowered.{Here}
use Rattle.ssa_lowered.specs.Values.{Named}
use Rattle.ssa_exprs.specs.Making.{View}
use Rattle.ssa_exprs.specs.Named.{named_of}
use Rattle.ssa_exprs.specs.Steps.{AllTaken}
use Rattle.ssa_exprs.specs.Tables.{Serves}
use Rattle.ssa_exprs.proofs.Guards.{Selecting, Passing}
use Rattle.ob_types.specs.declared.tree.Designator.{size-Designator}
use Rattle.ob_types.specs.declared.tree.Expr.{size-Expr}
use Rattle.ssa_exprs.proofs.walk.+walk.Given as goal

abbrev pub invariant-selected-loop-s : goal.invariant-selected-loop-s
invariant-selected-loop-s l = (program : Program) (here : Here) → Serves l.fn.t program here → (new : View) (k : Named) → Selecting program here (drop l.s-index l.selectors) l.b new (named_of l.h) k → Selecting program here l.selectors l.initial.b new (named_of l.initial.h) k

abbrev pub invariant-arguments-loop-a : goal.invariant-arguments-loop-a
invariant-arguments-loop-a l = (program : Program) (here : Here) → Serves l.t program here → (new : View) (words : List ℕ) → Passing program here (drop l.a-index l.args) l.b new l.words.items words → Passing program here l.args l.initial.b new l.initial.words.items words

abbrev pub invariant-take_all-loop-step : goal.invariant-take_all-loop-step
invariant-take_all-loop-step l = (program : Program) (here : Here) → Serves l.fn.t program here → (new : View) (r : ℕ) → AllTaken program here l.links l.steps.items l.b new l.a r → AllTaken program here l.links l.initial.steps.items l.initial.b new l.initial.a r

abbrev pub decreases-take_all-loop-step : goal.decreases-take_all-loop-step
decreases-take_all-loop-step l = length l.steps.items

abbrev pub decreases-load : goal.decreases-load
decreases-load l = goal.size-load l * 147573952589676412928 + 2

abbrev pub decreases-named : goal.decreases-named
decreases-named l = goal.size-named l * 147573952589676412928 + 1

abbrev pub decreases-selected : goal.decreases-selected
decreases-selected l = goal.size-selected l * 147573952589676412928 + 1

abbrev pub decreases-select : goal.decreases-select
decreases-select l = goal.size-select l * 147573952589676412928 + 0

abbrev pub decreases-value : goal.decreases-value
decreases-value l = goal.size-value l * 147573952589676412928 + 36893488147419103232

abbrev pub decreases-guarded : goal.decreases-guarded
decreases-guarded l = goal.size-guarded l * 147573952589676412928 + 3

abbrev pub decreases-compared_texts : goal.decreases-compared_texts
decreases-compared_texts l = max (goal.size-compared_texts l) (size-Designator l.e.now) * 147573952589676412928 + 3

abbrev pub decreases-tested_byte : goal.decreases-tested_byte
decreases-tested_byte l = goal.size-tested_byte l * 147573952589676412928 + 36893488147419103233

abbrev pub decreases-array_length : goal.decreases-array_length
decreases-array_length l = goal.size-array_length l * 147573952589676412928 + 3

abbrev pub decreases-called : goal.decreases-called
decreases-called l = goal.size-called l * 147573952589676412928 + 1

abbrev pub decreases-cond : goal.decreases-cond
decreases-cond l = goal.size-cond l * 147573952589676412928 + 36893488147419103233

abbrev pub decreases-prepared : goal.decreases-prepared
decreases-prepared l = goal.size-prepared l * 147573952589676412928 + 0

abbrev pub decreases-arguments : goal.decreases-arguments
decreases-arguments l = goal.size-arguments l * 147573952589676412928 + 1

abbrev pub decreases-argument : goal.decreases-argument
decreases-argument l = goal.size-argument l * 147573952589676412928 + 0

abbrev pub decreases-chain : goal.decreases-chain
decreases-chain l = max (goal.size-chain l) (size-Expr l.x.now) * 147573952589676412928 + 36893488147419103235

abbrev pub decreases-as_wanted : goal.decreases-as_wanted
decreases-as_wanted l = goal.size-as_wanted l * 147573952589676412928 + 36893488147419103234

abbrev pub decreases-take_all : goal.decreases-take_all
decreases-take_all l = goal.size-take_all l * 147573952589676412928 + 3

abbrev pub decreases-take : goal.decreases-take
decreases-take l = goal.size-take l * 147573952589676412928 + 2

abbrev pub decreases-applied : goal.decreases-applied
decreases-applied l = goal.size-applied l * 147573952589676412928 + 1

abbrev pub decreases-operand_cond : goal.decreases-operand_cond
decreases-operand_cond l = goal.size-operand_cond l * 147573952589676412928 + 1
