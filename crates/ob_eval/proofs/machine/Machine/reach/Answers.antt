use Rattle.std.proofs.Common.{◌≡◌, ℕ, length, refl, sym, ap, ◌∙◌, arith}
use Rattle.eval_tasks.specs.declared.task.Act.TheVariants.{Fetch, Invoke, InvokeValue}
use Rattle.eval_tasks.specs.Tasks.{Next, locates, gathers, reaches, acts}
use Rattle.eval_tasks.specs.Weights.{of_call, of_designator, all_arguments}
use Rattle.eval_tasks.proofs.Weighed.{of_direct, of_indirect}
use Rattle.ob_eval.specs.Steps.{before}
use Rattle.ob_eval.proofs.Steps.{added_two, push_one}
use Rattle.ob_eval.proofs.Falling.{falls_two, falls_four, lighter_args, lighter_call}
use Rattle.ob_eval.proofs.Reaching.{direct_is, indirect_is}
use Rattle.ob_eval.proofs.machine.Machine.reach.Goals as goal

pub returns-in_ok-add-in-Direct-2-clause-went : goal.returns-in_ok-add-in-Direct-2-clause-went
returns-in_ok-add-in-Direct-2-clause-went c =
    let p = c.args.laid.now in
    let m = c.args.self.now in
    let g = c.in-Direct.g in
    let xs = c.in-Direct.arguments in
    let R : ℕ → Next → Next = λ n. acts p (Invoke g n c.args.wanted) in
    let many : c.len.result ≡ length xs.items = omega (arith, c.len.ensures, xs.ok.0) in
    added_two p m c.add.new.self c.add-in-Direct.new.self _ _ (acts p (Invoke g (length xs.items) c.args.wanted)) (gathers p xs.items) c.in_ok-add-in-Direct.ensures.ok c.in_ok-add-in-Direct-2.ensures.ok (ap R many) (ap (λ l. gathers p l) c.deref.ensures.value)
    ∙ direct_is p g xs c.args.wanted m
    ∙ ap (λ k. before p (reaches p k c.args.wanted) m) (sym c.in-Direct.is)

pub returns-in_ok-add-in-Direct-2-clause-falls : goal.returns-in_ok-add-in-Direct-2-clause-falls
returns-in_ok-add-in-Direct-2-clause-falls c =
    let w = of_call c.args.call.now in
    let a = all_arguments c.in-Direct.arguments.items in
    falls_two c.args.self.now c.add.new.self c.add-in-Direct.new.self _ _ w 1 a c.in_ok-add-in-Direct.ensures.ok c.in_ok-add-in-Direct-2.ensures.ok refl (ap all_arguments c.deref.ensures.value)
    (lighter_args w a (ap of_call c.in-Direct.is ∙ of_direct c.in-Direct.g c.in-Direct.arguments))

pub returns-in_ok-add-in-Indirect-4-clause-went : goal.returns-in_ok-add-in-Indirect-4-clause-went
returns-in_ok-add-in-Indirect-4-clause-went c =
    let p = c.args.laid.now in
    let m = c.args.self.now in
    let d = c.in-Indirect.d in
    let xs = c.in-Indirect.arguments in
    let R : ℕ → Next → Next = λ n. acts p (InvokeValue n c.args.wanted) in
    let many : c.len-in-Indirect.result ≡ length xs.items = omega (arith, c.len-in-Indirect.ensures, xs.ok.0) in
    let A : Next → Next = λ k. locates p d k in
    let B : Next → Next = λ k. A (acts p Fetch k) in
    let C : Next → Next = λ k. B (gathers p xs.items k) in
    push_one p (λ k. k) c.add-in-Indirect-3.new.self c.add-in-Indirect-4.new.self _ A c.in_ok-add-in-Indirect-4.ensures.ok refl
    ∙ push_one p A c.add-in-Indirect-2.new.self c.add-in-Indirect-3.new.self _ (acts p Fetch) c.in_ok-add-in-Indirect-3.ensures.ok refl
    ∙ push_one p B c.add-in-Indirect.new.self c.add-in-Indirect-2.new.self _ (gathers p xs.items) c.in_ok-add-in-Indirect-2.ensures.ok (ap (λ l. gathers p l) c.deref-in-Indirect.ensures.value)
    ∙ push_one p C m c.add-in-Indirect.new.self _ (acts p (InvokeValue (length xs.items) c.args.wanted)) c.in_ok-add-in-Indirect.ensures.ok (ap R many)
    ∙ indirect_is p d xs c.args.wanted m
    ∙ ap (λ k. before p (reaches p k c.args.wanted) m) (sym c.in-Indirect.is)

pub returns-in_ok-add-in-Indirect-4-clause-falls : goal.returns-in_ok-add-in-Indirect-4-clause-falls
returns-in_ok-add-in-Indirect-4-clause-falls c =
    let w = of_call c.args.call.now in
    let d = of_designator c.in-Indirect.d in
    let a = all_arguments c.in-Indirect.arguments.items in
    falls_four c.args.self.now c.add-in-Indirect.new.self c.add-in-Indirect-2.new.self c.add-in-Indirect-3.new.self c.add-in-Indirect-4.new.self _ _ _ _ w 1 a 1 d c.in_ok-add-in-Indirect.ensures.ok c.in_ok-add-in-Indirect-2.ensures.ok c.in_ok-add-in-Indirect-3.ensures.ok c.in_ok-add-in-Indirect-4.ensures.ok refl (ap all_arguments c.deref-in-Indirect.ensures.value) refl refl
    (lighter_call w a d (ap of_call c.in-Indirect.is ∙ of_indirect c.in-Indirect.d c.in-Indirect.arguments))
