use Rattle.std.proofs.Common.{◌≡◌, ℕ, ◌<◌, drop, length, List, Option}
use Rattle.ob_types.specs.declared.program.Program.{Program}
use Rattle.ssa_lowered.specs.Lowered.{Here}
use Rattle.ssa_lowered.specs.Pieces.{Mask}
use Rattle.ssa_lowered.specs.Statements.{Deed}
use Rattle.ssa_exprs.specs.Changes.{chosen}
use Rattle.ssa_exprs.specs.Making.{View}
use Rattle.ssa_exprs.specs.Tables.{Serves}
use Rattle.ssa_statements.specs.Meeting.{FinishesAll}
use Rattle.ssa_statements.specs.Steps.{Steps, Rounds}
use Rattle.ssa_statements.specs.walk.Frames.{Takes}
use Rattle.ssa_statements.specs.walk.Lists.{alternatives_in, rounds_in, case_bodies_in, type_bodies_in}
use Rattle.ssa_statements.proofs.walk.Making.{Doing}
use Rattle.ssa_statements.proofs.walk.walk.+walk.Given as goal

abbrev pub invariant-statements-loop-s : goal.invariant-statements-loop-s
invariant-statements-loop-s l = (p : Program) (here : Here) → Serves l.t p here → (w : View) → Doing p here (drop l.s-index l.list) l.b w → Doing p here l.list l.initial.b w

abbrev pub invariant-alternatives-loop-i : goal.invariant-alternatives-loop-i
invariant-alternatives-loop-i l = (p : Program) (here : Here) → Serves l.t p here →
    (length l.b.known.env ≡ length l.initial.b.known.env)
    × ((g : Deed) (w z : View) → Steps l.b w (alternatives_in p here (drop l.i l.parts) l.other g) → FinishesAll l.frames.items w z → Steps l.initial.b z (alternatives_in p here l.parts l.other g))

abbrev pub invariant-looped-loop-i : goal.invariant-looped-loop-i
invariant-looped-loop-i l = (p : Program) (here : Here) → Serves l.t p here → (mask : Mask) → l.vars.items ≡ chosen mask 0 l.initial.b.known.env →
    (l.i < length l.parts → l.b.freq ≡ l.inside)
    × (l.b.known ≡ l.initial.b.known)
    × ((z : View) → Rounds l.b z mask l.header l.outside (rounds_in p here (drop l.i l.parts)) → Rounds l.initial.b z mask l.header l.outside (rounds_in p here l.parts))

abbrev pub invariant-case_parts-loop-i : goal.invariant-case_parts-loop-i
invariant-case_parts-loop-i l = (p : Program) (here : Here) → Serves l.t p here → (last : Option (List ℕ)) (w : View) → Takes l.b w l.frame l.leave last l.starts l.i (case_bodies_in p here (drop l.i l.parts)) → Takes l.initial.b w l.frame l.initial.leave last l.starts 0 (case_bodies_in p here l.parts)

abbrev pub invariant-type_parts-loop-i : goal.invariant-type_parts-loop-i
invariant-type_parts-loop-i l = (p : Program) (here : Here) → Serves l.t p here → (last : Option (List ℕ)) (w : View) → Takes l.b w l.frame l.leave last l.starts l.i (type_bodies_in p here (drop l.i l.parts)) → Takes l.initial.b w l.frame l.initial.leave last l.starts 0 (type_bodies_in p here l.parts)
