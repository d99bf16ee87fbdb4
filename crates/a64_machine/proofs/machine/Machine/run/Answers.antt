use Rattle.std.proofs.Common.{[], ◌++◌, ◌∙◌, sym, ap, arith}
use Rattle.run_laws.specs.Runs.{run, output}
use Rattle.outside.proofs.Taking.{all_on}
use Rattle.a64_machine.specs.Machine.{step_of}
use Rattle.a64_machine.specs.View.{code_of, state_of}
use Rattle.a64_machine.proofs.Running.{runs_more, runs_end, runs_trap, runs_writes, took_none_more, took_part}
use Rattle.a64_machine.proofs.machine.Machine.run.Goals as goal

pub returns-in-Ended-clause-ran : goal.returns-in-Ended-clause-ran
returns-in-Ended-clause-ran g c =
    let f = step_of (code_of c.args.self) in
    let whole = run f c.args.steps (state_of c.args.self) [] in
    let s = state_of c.loop-n.machine in
    let k = c.loop-n.invariant in
    let here = ap (λ code. step_of code s) (sym k.1) in
    let made = c.in-Ended.ensures.made in
    (k.0, runs_end f whole c.args.steps c.loop-n._n s k.0 k.2 c.loop-n-test.true (here ∙ made.0), took_none_more _ _ _ k.0 k.3 made.2)

pub returns-in-Trapped-clause-ran : goal.returns-in-Trapped-clause-ran
returns-in-Trapped-clause-ran g c =
    let f = step_of (code_of c.args.self) in
    let whole = run f c.args.steps (state_of c.args.self) [] in
    let s = state_of c.loop-n.machine in
    let k = c.loop-n.invariant in
    let here = ap (λ code. step_of code s) (sym k.1) in
    let made = c.in-Trapped.ensures.made in
    (k.0, runs_trap f whole c.args.steps c.loop-n._n s k.0 k.2 _ c.loop-n-test.true (here ∙ made.0), took_none_more _ _ _ k.0 k.3 made.2)

pub returns-in-Undefined-clause-ran : goal.returns-in-Undefined-clause-ran
returns-in-Undefined-clause-ran g c =
    let f = step_of (code_of c.args.self) in
    let whole = run f c.args.steps (state_of c.args.self) [] in
    let s = state_of c.loop-n.machine in
    let k = c.loop-n.invariant in
    let here = ap (λ code. step_of code s) (sym k.1) in
    let made = c.in-Undefined.ensures.made in
    (k.0, runs_trap f whole c.args.steps c.loop-n._n s k.0 k.2 _ c.loop-n-test.true (here ∙ made.0), took_none_more _ _ _ k.0 k.3 made.2)

pub returns-in-BadAddress-clause-ran : goal.returns-in-BadAddress-clause-ran
returns-in-BadAddress-clause-ran g c =
    let f = step_of (code_of c.args.self) in
    let whole = run f c.args.steps (state_of c.args.self) [] in
    let s = state_of c.loop-n.machine in
    let k = c.loop-n.invariant in
    let here = ap (λ code. step_of code s) (sym k.1) in
    let made = c.in-BadAddress.ensures.made in
    (k.0, runs_trap f whole c.args.steps c.loop-n._n s k.0 k.2 _ c.loop-n-test.true (here ∙ made.0), took_none_more _ _ _ k.0 k.3 made.2)

pub returns-in-BadCall-clause-ran : goal.returns-in-BadCall-clause-ran
returns-in-BadCall-clause-ran g c =
    let f = step_of (code_of c.args.self) in
    let whole = run f c.args.steps (state_of c.args.self) [] in
    let s = state_of c.loop-n.machine in
    let k = c.loop-n.invariant in
    let here = ap (λ code. step_of code s) (sym k.1) in
    let made = c.in-BadCall.ensures.made in
    (k.0, runs_trap f whole c.args.steps c.loop-n._n s k.0 k.2 _ c.loop-n-test.true (here ∙ made.0), took_none_more _ _ _ k.0 k.3 made.2)

pub returns-in-WriteFault-clause-ran : goal.returns-in-WriteFault-clause-ran
returns-in-WriteFault-clause-ran g c =
    let f = step_of (code_of c.args.self) in
    let whole = run f c.args.steps (state_of c.args.self) [] in
    let s = state_of c.loop-n.machine in
    let k = c.loop-n.invariant in
    let here = ap (λ code. step_of code s) (sym k.1) in
    let made = c.in-WriteFault.ensures.made in
    took_part _ _ _ k.0 made.0 (output whole) k.3 (runs_writes f whole c.args.steps c.loop-n._n s k.0 k.2 made.0 made.1 c.loop-n-test.true (here ∙ made.2)) made.4

pub loop-n-preserved : goal.loop-n-preserved
loop-n-preserved g c =
    let f = step_of (code_of c.args.self) in
    let whole = run f c.args.steps (state_of c.args.self) [] in
    let s = state_of c.loop-n.machine in
    let k = c.loop-n.invariant in
    let here = ap (λ code. step_of code s) (sym k.1) in
    let made = c.in-Going.ensures.made in (
      k.0 ++ made.0,
      c.in-Going.ensures.code ∙ k.1,
      runs_more f whole c.args.steps c.loop-n._n s k.0 k.2 made.0 (state_of c.step.new.self) c.loop-n-test.true (here ∙ made.1),
      all_on _ _ _ k.0 made.0 k.3 made.2,
      omega (arith, c.in-Going.ensures.rises, k.4),
    )
