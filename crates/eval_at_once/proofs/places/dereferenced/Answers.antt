use Rattle.std.proofs.Common.{◌≡◌, sym, subst, ◌∙◌}
use Rattle.run_laws.specs.Turns.{Ending, Gives, give}
use Rattle.ob_types.specs.Table.{Table}
use Rattle.ob_types.specs.Layout.{extends}
use Rattle.ob_types.specs.Store.{Store, Trap, Cell, Handed}
use Rattle.ob_types.specs.Expressions.{load, all_guarded}
use Rattle.eval_store.specs.Did.{Did, Stopped}
use Rattle.eval_at_once.proofs.Going.{guards_on, guards_stop, object_on, object_stops}
use Rattle.eval_at_once.proofs.places.dereferenced.Goals as goal

pub returns-in-Err : goal.returns-in-Err
returns-in-Err c =
    let f = c.args.active.now.procedure in
    let ext = extends c.args.laid.now.types in
    let s = c.args.world.now in
    let rs = c.args.guards.now in
    object_stops f (all_guarded f ext (load (give c.args.handed)) rs) s c.in-Err.stop s.out (guards_stop f ext (load (give c.args.handed)) rs s c.in-Err.stop s.out c.in-Err.ensures)

pub returns-in-Err-all_guarded : goal.returns-in-Err-all_guarded
returns-in-Err-all_guarded c =
    let f = c.args.active.now.procedure in
    let ext = extends c.args.laid.now.types in
    let s = c.args.world.now in
    let rs = c.args.guards.now in
    let P : Ending Store Trap Cell → Type 0 = λ e. Stopped e c.in-Err-all_guarded.stop s.out in
    let T : Table → Type 0 = λ t. Stopped (all_guarded f (extends t) (give c.in-Ok.c) rs s) c.in-Err-all_guarded.stop s.out in
    object_stops f (all_guarded f ext (load (give c.args.handed)) rs) s c.in-Err-all_guarded.stop s.out (subst P (sym (guards_on f ext (load (give c.args.handed)) rs c.in-Ok.c s c.in-Ok.ensures)) (subst T c.types.ensures c.in-Err-all_guarded.ensures))

pub returns-in-Ok-all_guarded : goal.returns-in-Ok-all_guarded
returns-in-Ok-all_guarded c =
    let f = c.args.active.now.procedure in
    let ext = extends c.args.laid.now.types in
    let s = c.args.world.now in
    let rs = c.args.guards.now in
    let m = all_guarded f ext (load (give c.args.handed)) rs in
    let P : Ending Store Trap Handed → Type 0 = λ e. Did e c.object_of.result s in
    let T : Table → Type 0 = λ t. all_guarded f (extends t) (give c.in-Ok.c) rs s ≡ Gives c.in-Ok-all_guarded.d s in
    subst P (sym (object_on f m c.in-Ok-all_guarded.d s (guards_on f ext (load (give c.args.handed)) rs c.in-Ok.c s c.in-Ok.ensures ∙ subst T c.types.ensures c.in-Ok-all_guarded.ensures))) c.object_of.ensures
