use Rattle.std.proofs.Common.{IfNone, refl, sym, ap, ◌∙◌, subst, arith}
use Rattle.a64_machine.specs.Machine.{step_of}
use Rattle.a64_machine.specs.View.{code_of, state_of}
use Rattle.program_figures.specs.Steps.{halt_of_step, IsMove}
use Rattle.program_figures.proofs.Counting.{begins, goes_on, halts_so, halts_first, halts_soonest, spent_so, spent_all, spent_fewest}
use Rattle.program_figures.proofs.running.count_steps.Goals as goal

pub loop-made-init : goal.loop-made-init
loop-made-init c = record { code = refl; goes = begins _ _ }

pub loop-made-preserved : goal.loop-made-preserved
loop-made-preserved c =
    let f = step_of (code_of c.args.machine) in
    let s = state_of c.loop-made.machine in
    let t = state_of c.halt_of_step.new.machine in
    let k = c.loop-made.invariant in
    let moves = subst (λ r. IfNone r (IsMove (step_of (code_of c.loop-made.machine) s) t)) c.in_default.is c.halt_of_step.ensures.moves in
    record {
      code = c.halt_of_step.ensures.code ∙ k.code;
      goes = goes_on f _ c.loop-made.made s k.goes t (subst (λ code. IsMove (step_of code s) t) k.code moves);
    }

pub returns-in-Some-clause-halt : goal.returns-in-Some-clause-halt
returns-in-Some-clause-halt c =
    let k = c.loop-made.invariant in
    let s = state_of c.loop-made.machine in
    let halts = ap (λ code. halt_of_step (step_of code s)) (sym k.code) ∙ sym c.in-Some.ensures.halt in
    sym (halts_so _ _ c.loop-made.made s k.goes c.in-Some.halt halts c.args.steps c.loop-made-test.true)

pub returns-in-Some-clause-steps : goal.returns-in-Some-clause-steps
returns-in-Some-clause-steps c =
    let k = c.loop-made.invariant in
    let s = state_of c.loop-made.machine in
    let halts = ap (λ code. halt_of_step (step_of code s)) (sym k.code) ∙ sym c.in-Some.ensures.halt in
    sym (halts_first _ _ c.loop-made.made s k.goes c.in-Some.halt halts c.args.steps c.loop-made-test.true)

pub returns-in-Some-clause-fewest : goal.returns-in-Some-clause-fewest
returns-in-Some-clause-fewest c =
    let k = c.loop-made.invariant in
    let s = state_of c.loop-made.machine in
    let halts = ap (λ code. halt_of_step (step_of code s)) (sym k.code) ∙ sym c.in-Some.ensures.halt in
    halts_soonest _ _ c.loop-made.made s k.goes c.in-Some.halt halts c.args.steps c.loop-made-test.true

pub returns-clause-halt : goal.returns-clause-halt
returns-clause-halt c =
    let k = c.loop-made.invariant in
    sym (spent_so _ _ c.loop-made.made (state_of c.loop-made.machine) k.goes c.args.steps (omega (arith, c.loop-made.auto.made-end, c.loop-made-test.false)))

pub returns-clause-steps : goal.returns-clause-steps
returns-clause-steps c =
    let k = c.loop-made.invariant in
    sym (spent_all _ _ c.loop-made.made (state_of c.loop-made.machine) k.goes c.args.steps (omega (arith, c.loop-made.auto.made-end, c.loop-made-test.false)))

pub returns-clause-fewest : goal.returns-clause-fewest
returns-clause-fewest c =
    let k = c.loop-made.invariant in
    spent_fewest _ _ c.loop-made.made (state_of c.loop-made.machine) k.goes c.args.steps (omega (arith, c.loop-made.auto.made-end, c.loop-made-test.false))
