use Rattle.std.proofs.Common.{◌∷◌, refl, ap, sym, ◌∙◌}
use Rattle.ob_types.specs.Operators.{holds}
use Rattle.ob_eval.specs.Steps.{before, with_number}
use Rattle.eval_tasks.specs.Tasks.{Next, follows, acts, evaluates}
use Rattle.eval_tasks.specs.declared.task.Act.TheVariants.{TwoOperands, WithElement, WithRange}
use Rattle.eval_tasks.specs.declared.task.Act.TheVariants.{Element as AsElement}
use Rattle.ob_eval.proofs.Values.{elements_is}
use Rattle.ob_eval.proofs.Steps.{push_one, with_given, operate_is, element_is, and_is, or_is, holds_on}
use Rattle.ob_eval.proofs.machine.Machine.link.Goals as goal

pub returns-in_ok-add-in-Operate-3-clause-went : goal.returns-in_ok-add-in-Operate-3-clause-went
returns-in_ok-add-in-Operate-3-clause-went c =
    let p = c.args.laid.now in
    let m = c.args.self.now in
    let ls = c.args.rest.now in
    let y = c.in-Operate.y in
    let op = c.in-Operate.operator in
    let V : Next → Next = λ k. evaluates p y k in
    let W : Next → Next = λ k. evaluates p y (acts p (TwoOperands op) k) in
    let G : Next → Next = λ k. evaluates p y (acts p (TwoOperands op) (follows p ls k)) in
    push_one p (λ k. k) c.add-in-Operate.new.self c.add-in-Operate-2.new.self _ V c.in_ok-add-in-Operate-3.ensures.ok refl
    ∙ push_one p V c.add.new.self c.add-in-Operate.new.self _ (acts p (TwoOperands op)) c.in_ok-add-in-Operate-2.ensures.ok refl
    ∙ push_one p W c.give.new.self c.add.new.self _ (follows p ls) c.in_ok-add-in-Operate.ensures.ok refl
    ∙ ap (before p G) (with_given m c.give.new.self c.bits.result c.args.a c.in_ok-give-in-Operate.ensures.ok c.bits.ensures)
    ∙ operate_is p op y ls c.args.a m
    ∙ ap (λ l. before p (follows p (l ∷ ls)) (with_number c.args.a m)) (sym c.in-Operate.is)

pub returns-in_ok-add-in-Element-3-clause-went : goal.returns-in_ok-add-in-Element-3-clause-went
returns-in_ok-add-in-Element-3-clause-went c =
    let p = c.args.laid.now in
    let m = c.args.self.now in
    let ls = c.args.rest.now in
    let y = c.in-Element.y in
    let V : Next → Next = λ k. evaluates p y k in
    let W : Next → Next = λ k. evaluates p y (acts p WithElement k) in
    let G : Next → Next = λ k. evaluates p y (acts p WithElement (follows p ls k)) in
    push_one p (λ k. k) c.add-in-Element-2.new.self c.add-in-Element-3.new.self _ V c.in_ok-add-in-Element-3.ensures.ok refl
    ∙ push_one p V c.add-in-Element.new.self c.add-in-Element-2.new.self _ (acts p WithElement) c.in_ok-add-in-Element-2.ensures.ok refl
    ∙ push_one p W c.give-in-Element.new.self c.add-in-Element.new.self _ (follows p ls) c.in_ok-add-in-Element.ensures.ok refl
    ∙ ap (before p G) (with_given m c.give-in-Element.new.self c.bits-in-Element.result c.args.a c.in_ok-give-in-Element.ensures.ok c.bits-in-Element.ensures)
    ∙ element_is p y ls c.args.a m
    ∙ ap (λ l. before p (follows p (l ∷ ls)) (with_number c.args.a m)) (sym c.in-Element.is)

pub returns-in_ok-add-in-And-2-clause-went : goal.returns-in_ok-add-in-And-2-clause-went
returns-in_ok-add-in-And-2-clause-went c =
    let p = c.args.laid.now in
    let m = c.args.self.now in
    let ls = c.args.rest.now in
    let y = c.in-And.y in
    let V : Next → Next = λ k. evaluates p y k in
    push_one p (λ k. k) c.add-in-And.new.self c.add-in-And-2.new.self _ V c.in_ok-add-in-And-2.ensures.ok refl
    ∙ push_one p V m c.add-in-And.new.self _ (follows p ls) c.in_ok-add-in-And.ensures.ok refl
    ∙ and_is p y ls c.args.a m (holds_on c.args.a c.if-a-eq0.false)
    ∙ ap (λ l. before p (follows p (l ∷ ls)) (with_number c.args.a m)) (sym c.in-And.is)

pub returns-then-a-eq0-2-clause-went : goal.returns-then-a-eq0-2-clause-went
returns-then-a-eq0-2-clause-went c =
    let p = c.args.laid.now in
    let m = c.args.self.now in
    let ls = c.args.rest.now in
    let y = c.in-Or.y in
    let V : Next → Next = λ k. evaluates p y k in
    push_one p (λ k. k) c.add-in-Or.new.self c.add-then-a-eq0-2.new.self _ V c.in_ok-add-in-Or-2.ensures.ok refl
    ∙ push_one p V m c.add-in-Or.new.self _ (follows p ls) c.in_ok-add-in-Or.ensures.ok refl
    ∙ or_is p y ls c.args.a m (ap holds c.if-a-eq0-2.true)
    ∙ ap (λ l. before p (follows p (l ∷ ls)) (with_number c.args.a m)) (sym c.in-Or.is)

pub returns-in_ok-add-in-Elements-5-clause-went : goal.returns-in_ok-add-in-Elements-5-clause-went
returns-in_ok-add-in-Elements-5-clause-went c =
    let p = c.args.laid.now in
    let m = c.args.self.now in
    let ls = c.args.rest.now in
    let y = c.in-Elements.y in
    let z = c.in-Elements.z in
    let A : Next → Next = λ k. evaluates p y.value k in
    let B : Next → Next = λ k. A (acts p AsElement k) in
    let C : Next → Next = λ k. B (evaluates p z.value k) in
    let D : Next → Next = λ k. C (acts p WithRange k) in
    let G : Next → Next = λ k. D (follows p ls k) in
    push_one p (λ k. k) c.add-in-Elements-4.new.self c.add-in-Elements-5.new.self _ A c.in_ok-add-in-Elements-5.ensures.ok (ap (λ e. evaluates p e) c.deref-in-Elements.ensures)
    ∙ push_one p A c.add-in-Elements-3.new.self c.add-in-Elements-4.new.self _ (acts p AsElement) c.in_ok-add-in-Elements-4.ensures.ok refl
    ∙ push_one p B c.add-in-Elements-2.new.self c.add-in-Elements-3.new.self _ (evaluates p z.value) c.in_ok-add-in-Elements-3.ensures.ok (ap (λ e. evaluates p e) c.deref.ensures)
    ∙ push_one p C c.add-in-Elements.new.self c.add-in-Elements-2.new.self _ (acts p WithRange) c.in_ok-add-in-Elements-2.ensures.ok refl
    ∙ push_one p D c.give-in-Elements.new.self c.add-in-Elements.new.self _ (follows p ls) c.in_ok-add-in-Elements.ensures.ok refl
    ∙ ap (before p G) (with_given m c.give-in-Elements.new.self c.bits-in-Elements.result c.args.a c.in_ok-give-in-Elements.ensures.ok c.bits-in-Elements.ensures)
    ∙ elements_is p m y z ls c.args.a
    ∙ ap (λ l. before p (follows p (l ∷ ls)) (with_number c.args.a m)) (sym c.in-Elements.is)
