use Rattle.std.proofs.Common.{◌∙◌, ap, sym, arith, length, get_or}
use Rattle.trace_needs.specs.Tables.{position_of}
use Rattle.trace_needs.proofs.Halving.{first_none, first_at}
use Rattle.trace_needs.proofs.rows.Rows.first_from.Goals as goal

pub returns-in_err-note : goal.returns-in_err-note
returns-in_err-note c =
    let rows = c.args.self.now in
    let end = c.in_err-note.ensures.lookup.3 in
    let same = ap length c.deref.ensures.value in
    let n = c.count_before-count.result in
    let e = c.count_before-count.ensures in
    c.from_residual.ensures
    ∙ sym (first_none c.args.value c.args.limit rows.notes.items n rows.values_rise e.within e.point (omega (arith, end, same)))

pub returns : goal.returns
returns c =
    let rows = c.args.self.now in
    let w = c.in_ok-note.ensures.lookup in
    let n = c.count_before-count.result in
    let note = c.in_ok-note.note.now in
    let lower = w.3.0 in
    let same = ap length c.deref.ensures.value in
    c.position_of.ensures
    ∙ ap (position_of c.args.value) (w.1 ∙ ap (λ notes. get_or notes n note) c.deref.ensures.value)
    ∙ sym (first_at c.args.value c.args.limit rows.notes.items n note rows.values_rise (omega (arith, lower, same)) c.count_before-count.ensures.point)
