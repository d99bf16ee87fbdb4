use Rattle.std.proofs.Common.{◌≡◌, ◌+◌, ◌-◌, ℕ, List, length, drop, sym, ap, subst, ◌∙◌, arith}
use Rattle.ob_types.specs.declared.program.Module.{Module}
use Rattle.ob_types.specs.declared.program.Program.{Program}
use Rattle.eval_tasks.specs.declared.task.Task.{Task}
use Rattle.ob_eval.specs.Starting.{DoBodies}
use Rattle.ob_eval.proofs.Starting.{none_yet, another}
use Rattle.ob_eval.proofs.evaluation.all_bodies.Goals as goal

pub modules-init : goal.modules-init
modules-init c =
    let p = c.args.laid.now in
    let n = c.args.turns in
    let ms = c.as_slice-modules.result.now in
    let i = length ms in
    let T : List Task → Type 0 = λ l. DoBodies p n l (drop i ms) in
    (subst T (sym c.new-tasks.ensures) (none_yet p n ms i (omega arith)), omega arith)

pub modules-preserved : goal.modules-preserved
modules-preserved c =
    let p = c.args.laid.now in
    let n = c.args.turns in
    let ms = c.as_slice-modules.result.now in
    let i = c.modules.i in
    let L : ℕ → Type 0 = λ k. DoBodies p n c.modules.tasks (drop k ms) in
    let e : i ≡ (i - 1) + 1 = omega (arith, c.modules-test.true) in
    let m = c.index-modules-i.result in
    (another p n c.modules.tasks c.add_body.new.tasks ms (i - 1) m (omega (arith, c.modules-test.true, c.modules.invariant.1)) c.index-modules-i.is c.in_ok-add_body.ensures (subst L e c.modules.invariant.0), omega (arith, c.modules.invariant.1))

pub returns : goal.returns
returns c =
    let p = c.args.laid.now in
    let n = c.args.turns in
    let ms = c.as_slice-modules.result.now in
    let L : ℕ → Type 0 = λ k. DoBodies p n c.modules.tasks (drop k ms) in
    let P : List Module → Type 0 = λ l. DoBodies p n c.modules.tasks l in
    let M : Program → List Module = λ q. q.modules in
    let none : c.modules.i ≡ 0 = omega (arith, c.modules-test.false) in
    subst P (c.as_slice-modules.ensures ∙ ap M c.program.ensures) (subst L none c.modules.invariant.0)
