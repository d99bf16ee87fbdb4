use Rattle.std.proofs.Common.{◌≡◌, List, ℕ, ◌<◌, get_or, length, [], take, sym, ap, subst, ◌∙◌}
use Rattle.ob_types.specs.Layout.{cells_of_all}
use Rattle.ob_types.specs.Meaning.{globals_of}
use Rattle.ob_types.specs.declared.program.Module.{Module}
use Rattle.eval_layouts.specs.Tables.{TableOf, RowTo}
use Rattle.eval_layouts.proofs.Tabling.{each_step, there, row_table}
use Rattle.eval_layouts.proofs.rows.global_rows.Goals as goal

pub loop-module-preserved : goal.loop-module-preserved
loop-module-preserved c =
    let p = c.args.program.now in
    let t = p.types in
    let i = c.loop-module.module-index in
    let m = c.module-item.result in
    let row = c.add_all.new.self in
    let P : ℕ → List ℕ → Type 0 = λ k row. TableOf (λ v. cells_of_all t (take v (globals_of p k))) row in
    let Q : Module → Type 0 = λ q. TableOf (λ v. cells_of_all t (take v q.variables)) row.places in
    let R : List ℕ → Type 0 = λ ks. RowTo t 0 ks row.places row.end in
    let L : List Module → Type 0 = λ l. i < length l in
    let is : m ≡ get_or p.modules i (record { name = []; objects = []; variables = []; body = 0 }) = there p.modules i m (record { name = []; objects = []; variables = []; body = 0 }) m (subst L c.as_slice-module-items.ensures c.loop-module-test.true) (c.module-item.is ∙ ap (λ (l : List Module). get_or l i m) c.as_slice-module-items.ensures) in
    each_step P c.loop-module.rows.items c.push.new.self.items row.places i c.loop-module.invariant.1 c.loop-module.invariant.0 c.in_ok-push.ensures.items
    (subst Q is (row_table t m.variables row.places row.end (subst R c.as_slice.ensures (c.in_ok-add_all.ensures t 0 [] c.requires (c.new-row.ensures t)))))
