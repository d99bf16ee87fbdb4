use Rattle.std.proofs.Common.{◌≡◌, List, sym, ap, subst, ◌∙◌}
use Rattle.run_laws.specs.Turns.{Gives}
use Rattle.ob_types.specs.Meaning.{base_of, at_most}
use Rattle.ob_types.specs.declared.tree.Designator.{Designator}
use Rattle.ob_types.specs.declared.tree.Access.{Access}
use Rattle.ob_types.specs.declared.tree.Selector.{Selector}
use Rattle.eval_at_once.specs.Here.{here_of}
use Rattle.eval_store.specs.Did.{Stopped}
use Rattle.eval_tasks.specs.Tasks.{locates, selects}
use Rattle.ob_eval.specs.Steps.{before}
use Rattle.ob_eval.proofs.Steps.{added_one}
use Rattle.ob_eval.proofs.Values.{part_stops, part_goes}
use Rattle.eval_tasks.specs.Weights.{of_designator, all_selectors}
use Rattle.eval_tasks.proofs.Weighed.{of_part}
use Rattle.ob_eval.proofs.Falling.{falls_handed, lighter_one}
use Rattle.ob_eval.proofs.machine.Machine.begin_at.Goals as goal

pub returns-in-Err-base-clause-went : goal.returns-in-Err-base-clause-went
returns-in-Err-base-clause-went c =
    let p = c.args.laid.now in
    let m = c.args.self.now in
    let D : Designator → Type 0 = λ d. Stopped (before p (locates p d) m) c.in-Err-base.stop m.world.out in
    let A : Access → Type 0 = λ a. Stopped (base_of p (at_most p m.active.fuel) (here_of m.active) a.base m.world) c.in-Err-base.stop m.world.out in
    subst D (sym c.in-Part.is) (part_stops p m c.in-Part.access c.in-Err-base.stop m.world.out (subst A c.deref.ensures c.in-Err-base.ensures))

pub returns-in_ok-add-in-Ok-base-clause-went : goal.returns-in_ok-add-in-Ok-base-clause-went
returns-in_ok-add-in-Ok-base-clause-went c =
    let p = c.args.laid.now in
    let m = c.args.self.now in
    let a = c.in-Part.access in
    let ls = a.value.selectors.items in
    let S : Access → List Selector = λ a. a.selectors.items in
    let A : Access → Type 0 = λ a. base_of p (at_most p m.active.fuel) (here_of m.active) a.base m.world ≡ Gives c.in-Ok-base.handed m.world in
    added_one p c.hand-in-Ok-base.new.self c.add.new.self _ (selects p ls) c.in_ok-add-in-Ok-base.ensures.ok (ap (λ l. selects p l) (c.as_slice.ensures.value ∙ ap S c.deref-in-Ok-base.ensures))
    ∙ ap (before p (selects p ls)) c.in_ok-hand-in-Ok-base.ensures.ok
    ∙ part_goes p m a c.in-Ok-base.handed (subst A c.deref.ensures c.in-Ok-base.ensures)
    ∙ ap (λ d. before p (locates p d) m) (sym c.in-Part.is)

pub returns-in_ok-add-in-Ok-base-clause-falls : goal.returns-in_ok-add-in-Ok-base-clause-falls
returns-in_ok-add-in-Ok-base-clause-falls c =
    let w = of_designator c.args.d.now in
    let v = all_selectors c.in-Part.access.value.selectors.items in
    let S : Access → List Selector = λ a. a.selectors.items in
    falls_handed c.args.self.now c.hand-in-Ok-base.new.self c.add.new.self _ _ w v c.in_ok-hand-in-Ok-base.ensures.ok c.in_ok-add-in-Ok-base.ensures.ok (ap all_selectors (c.as_slice.ensures.value ∙ ap S c.deref-in-Ok-base.ensures))
    (lighter_one w v (ap of_designator c.in-Part.is ∙ of_part c.in-Part.access))
