use Rattle.std.proofs.Common.{◌≡◌, ℕ, List, [], ◌∷◌, ◌++◌, sym, ap, subst, ◌∙◌, arith}
use Rattle.run_laws.specs.Turns.{State, Ending, Gives}
use Rattle.ob_types.specs.Store.{Store, Trap, Handed}
use Rattle.eval_store.specs.Did.{Stopped}
use Rattle.eval_tasks.specs.Tasks.{rest}
use Rattle.ob_eval.specs.Calling.{prepared, enters}
use Rattle.ob_eval.specs.Steps.{Went}
use Rattle.ob_eval.proofs.Invoking.{no_turn, not_prepared, call_enters}
use Rattle.ob_eval.proofs.machine.Machine.call.Goals as goal

pub returns-in-Err-clause-went : goal.returns-in-Err-clause-went
returns-in-Err-clause-went c =
    let p = c.args.laid.now in
    let m = c.args.self.now in
    no_turn p (rest p m.tasks) m.active m.values c.args.g c.args.arguments c.args.wanted (λ e. omega arith) m.world c.in-Err.stop c.spend.new.self.out c.in-Err.ensures.did

pub returns-in-Err-prepare-clause-went : goal.returns-in-Err-prepare-clause-went
returns-in-Err-prepare-clause-went c =
    let p = c.args.laid.now in
    let m = c.args.self.now in
    let L : List Handed → Type 0 = λ l. Stopped (prepared p c.args.g l c.spend.new.self) c.in-Err-prepare.stop c.prepare.new.world.out in
    not_prepared p (rest p m.tasks) m.active m.values c.args.g c.args.arguments c.args.wanted (λ e. omega arith) m.world c.spend.new.self c.in-Err-prepare.stop c.prepare.new.world.out c.in-Ok.ensures.did (subst L c.as_slice.ensures c.in-Err-prepare.ensures.did)

pub returns-clause-went : goal.returns-clause-went
returns-clause-went c =
    let p = c.args.laid.now in
    let m = c.args.self.now in
    let u = c.prepare.new.world in
    let made = c.in-Ok-prepare.made in
    let W : State Store → Ending Store Trap (Unit {0}) = λ w. enters p c.args.g c.args.arguments c.depth-frame.result c.args.wanted (rest p m.tasks) m.active m.values w in
    let F : ℕ → Ending Store Trap (Unit {0}) = λ f. enters p c.args.g c.args.arguments f c.args.wanted (rest p m.tasks) m.active m.values (record u { store = record u.store { frames = u.store.frames ++ made ∷ [] } }) in
    let L : List Handed → Type 0 = λ l. prepared p c.args.g l c.spend.new.self ≡ Gives made u in
    let P : Ending Store Trap (Unit {0}) → Type 0 = λ e. Went p e c.enter-2.result c.enter-2.new.self in
    subst P (ap W c.in-Ok-enter.ensures.ok ∙ ap F c.depth-frame.ensures ∙ sym (call_enters p (rest p m.tasks) m.active m.values c.args.g c.args.arguments c.args.wanted (λ e. omega arith) m.world c.spend.new.self u made c.in-Ok.ensures.did (subst L c.as_slice.ensures c.in-Ok-prepare.ensures.did))) c.enter-2.ensures.went
