use Rattle.std.proofs.Common.{◌≡◌, List, ℕ, suc, ◌+◌, ◌∷◌, get_or, drop, sym, ap, subst, ◌∙◌, arith}
use Rattle.std.proofs.Math.Seq.{drop-cons}
use Rattle.run_laws.specs.Turns.{Ending, give}
use Rattle.ob_types.specs.Store.{Store, Trap, Cell}
use Rattle.ob_types.specs.Layout.{extends}
use Rattle.ob_types.specs.Expressions.{all_guarded}
use Rattle.eval_store.specs.Did.{Stopped}
use Rattle.eval_store.proofs.Guarding.{guarded_on, guarded_stops}
use Rattle.eval_store.proofs.world.World.all_guarded.Goals as goal

pub returns-in-Err : goal.returns-in-Err
returns-in-Err c =
    let f = c.args.procedure in
    let s = c.args.self.now in
    let rs = c.args.guards.now in
    let i = c.loop-base.base-index in
    let G : List ℕ → Ending Store Trap Cell = λ l. all_guarded f (extends c.args.types.now) (give c.loop-base.cell) l s in
    let P : Ending Store Trap Cell → Type 0 = λ e. Stopped e c.in-Err.stop s.out in
    subst P (sym (c.loop-base.invariant ∙ ap G (drop-cons rs i 0 c.loop-base-test.true))) (guarded_stops f (extends c.args.types.now) c.loop-base.cell (get_or rs i 0) (drop (suc i) rs) s c.in-Err.stop s.out c.in-Err.ensures)

pub loop-base-preserved : goal.loop-base-preserved
loop-base-preserved c =
    let f = c.args.procedure in
    let s = c.args.self.now in
    let rs = c.args.guards.now in
    let i = c.loop-base.base-index in
    let G : List ℕ → Ending Store Trap Cell = λ l. all_guarded f (extends c.args.types.now) (give c.loop-base.cell) l s in
    let H : ℕ → Ending Store Trap Cell = λ k. all_guarded f (extends c.args.types.now) (give c.in-Ok.next) (drop k rs) s in
    let n : suc i ≡ i + 1 = omega arith in
    c.loop-base.invariant ∙ ap G (drop-cons rs i 0 c.loop-base-test.true)
    ∙ guarded_on f (extends c.args.types.now) c.loop-base.cell c.in-Ok.next (get_or rs i 0) (drop (suc i) rs) s c.in-Ok.ensures
    ∙ ap H n
