use Rattle.std.proofs.Common.{true, refl, ap, sym, subst, ◌∙◌}
use Rattle.run_laws.specs.Turns.{Ending}
use Rattle.ob_types.specs.Store.{Store, Trap}
use Rattle.ob_types.specs.declared.tree.Expr.{Expr}
use Rattle.ob_types.specs.declared.tree.Call.{Call}
use Rattle.ob_eval.specs.Steps.{before, Went, Falls}
use Rattle.eval_tasks.specs.declared.task.Act.TheVariants.{Fetch}
use Rattle.eval_tasks.specs.Tasks.{evaluates, follows, locates, guards, reaches, acts}
use Rattle.ob_eval.proofs.Steps.{added_two, added_three, chain_is}
use Rattle.ob_eval.proofs.Values.{guard_is, call_is}
use Rattle.eval_tasks.specs.Weights.{of_expr, of_call, all_links}
use Rattle.ob_eval.proofs.Falling.{falls_two, lighter}
use Rattle.eval_tasks.proofs.Weighed.{of_chain}
use Rattle.ob_eval.proofs.machine.Machine.evaluate.Goals as goal

pub returns-in_ok-add-in-Chain-2-clause-went : goal.returns-in_ok-add-in-Chain-2-clause-went
returns-in_ok-add-in-Chain-2-clause-went c =
    let p = c.args.laid.now in
    added_two p c.args.self.now c.add-in-Chain.new.self c.add-in-Chain-2.new.self _ _ _ _ c.in_ok-add-in-Chain.ensures.ok c.in_ok-add-in-Chain-2.ensures.ok (ap (λ l. follows p l) c.deref-in-Chain.ensures.value) (ap (λ e. evaluates p e) c.deref-in-Chain-2.ensures)
    ∙ chain_is p c.in-Chain.x c.in-Chain.links c.args.self.now
    ∙ ap (λ e. before p (evaluates p e) c.args.self.now) (sym c.in-Chain.is)

pub returns-in_ok-add-in-Chain-2-clause-falls : goal.returns-in_ok-add-in-Chain-2-clause-falls
returns-in_ok-add-in-Chain-2-clause-falls c =
    let w = of_expr c.args.e.now in
    let a = of_expr c.in-Chain.x.value in
    let b = all_links c.in-Chain.links.items in
    falls_two c.args.self.now c.add-in-Chain.new.self c.add-in-Chain-2.new.self _ _ w b a c.in_ok-add-in-Chain.ensures.ok c.in_ok-add-in-Chain-2.ensures.ok (ap all_links c.deref-in-Chain.ensures.value) (ap of_expr c.deref-in-Chain-2.ensures)
    (lighter w a b (ap of_expr c.in-Chain.is ∙ of_chain c.in-Chain.x c.in-Chain.links))

pub returns-in_ok-add-in-Guard-3-clause-went : goal.returns-in_ok-add-in-Guard-3-clause-went
returns-in_ok-add-in-Guard-3-clause-went c =
    let p = c.args.laid.now in
    let m = c.args.self.now in
    let d = c.in-Guard.d in
    let rs = c.in-Guard.guards in
    added_three p m c.add-in-Guard.new.self c.add-in-Guard-2.new.self c.add-in-Guard-3.new.self _ _ _ (guards p rs) (acts p Fetch) (locates p d.value) c.in_ok-add-in-Guard.ensures.ok c.in_ok-add-in-Guard-2.ensures.ok c.in_ok-add-in-Guard-3.ensures.ok (ap (λ l. guards p l) c.as_slice.ensures) refl (ap (λ d. locates p d) c.deref.ensures)
    ∙ guard_is p m d rs
    ∙ ap (λ e. before p (evaluates p e) m) (sym c.in-Guard.is)

pub returns-in-Call-clause-went : goal.returns-in-Call-clause-went
returns-in-Call-clause-went c =
    let p = c.args.laid.now in
    let m = c.args.self.now in
    let k = c.in-Call.call in
    let P : Expr → Type 0 = λ e. Went p (before p (evaluates p e) m) c.reach.result c.reach.new.self in
    let Q : Call → Type 0 = λ k. Went p (before p (reaches p k true) m) c.reach.result c.reach.new.self in
    let Z : Ending Store Trap (Unit {0}) → Type 0 = λ e. Went p e c.reach.result c.reach.new.self in
    subst P (sym c.in-Call.is) (subst Z (call_is p m k) (subst Q c.deref-in-Call.ensures c.reach.ensures.went))

pub returns-in-Call-clause-falls : goal.returns-in-Call-clause-falls
returns-in-Call-clause-falls c =
    let m = c.args.self.now in
    let P : Expr → Type 0 = λ e. Falls (of_expr e) m c.reach.result c.reach.new.self in
    let Q : Call → Type 0 = λ k. Falls (of_call k) m c.reach.result c.reach.new.self in
    subst P (sym c.in-Call.is) (subst Q c.deref-in-Call.ensures c.reach.ensures.falls)
