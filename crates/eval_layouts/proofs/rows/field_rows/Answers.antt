use Rattle.std.proofs.Common.{◌≡◌, List, ℕ, ◌+◌, ◌<◌, get_or, length, take, ap, subst, ◌∙◌}
use Rattle.ob_types.specs.Layout.{no_record_type, record_of, record_cells, base_cells, cells_of_all, types_of, field_place}
use Rattle.ob_types.specs.declared.types.RecordType.{RecordType}
use Rattle.eval_layouts.specs.Tables.{TableOf}
use Rattle.eval_layouts.proofs.Tabling.{each_step, there}
use Rattle.eval_layouts.proofs.rows.field_rows.Goals as goal

pub loop-declared-preserved : goal.loop-declared-preserved
loop-declared-preserved c =
    let t = c.args.types.now in
    let i = c.loop-declared.declared-index in
    let r = c.declared-item.result in
    let row = c.in_ok-field_row.field-0 in
    let P : ℕ → List ℕ → Type 0 = λ k row. TableOf (field_place t k) row in
    let Q : RecordType → Type 0 = λ q. TableOf (λ f. base_cells q.base (record_cells t) + cells_of_all t (take f (types_of q.fields))) row in
    let L : List RecordType → Type 0 = λ l. i < length l in
    let is : r ≡ record_of t i = there t.records i r no_record_type r (subst L c.records-declared-items.ensures c.loop-declared-test.true) (c.declared-item.is ∙ ap (λ (l : List RecordType). get_or l i r) c.records-declared-items.ensures) in
    each_step P c.loop-declared.rows.items c.push.new.self.items row i c.loop-declared.invariant.1 c.loop-declared.invariant.0 c.in_ok-push.ensures.items (subst Q is c.in_ok-field_row.ensures)
