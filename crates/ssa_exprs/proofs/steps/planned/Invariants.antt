use Rattle.std.proofs.Common.{◌≤◌, length, take}
use Rattle.ob_types.specs.declared.program.Program.{Program}
use Rattle.ssa_lowered.specs.Control.{Lowers}
use Rattle.ssa_lowered.specs.Lowered.{Here}
use Rattle.ssa_exprs.specs.Walk.{linked_in}
use Rattle.ssa_exprs.specs.Steps.{Leads}
use Rattle.ssa_exprs.proofs.steps.planned.Given as goal

abbrev pub invariant-loop-i : goal.invariant-loop-i
invariant-loop-i l = record {
  few : l.i ≤ length l.links;
  led : (p : Program) (here : Here) (x : Lowers) → Leads p here l.links l.steps.items l.first l.b (linked_in p here (take l.i l.links) x) l.fn.wanted l.initial.b (linked_in p here l.links x);
}

abbrev pub decreases-loop-i : goal.decreases-loop-i
decreases-loop-i l = l.i
