use Rattle.std.proofs.Common.{◌≡◌, suc, ◌-◌, ◌∙◌, ap, sym, subst, arith}
use Rattle.trace_needs.specs.Tables.{position_of}
use Rattle.trace_needs.proofs.Halving.{last_none, last_found, IsPoint}
use Rattle.trace_needs.proofs.rows.Rows.last_below.Goals as goal

pub returns-in-0 : goal.returns-in-0
returns-in-0 c =
    let notes = c.args.self.now.notes.items in
    sym (last_none c.args.value c.args.limit notes (subst (IsPoint c.args.value c.args.limit notes) c.in-0.is c.count_before.ensures.point))

pub returns-in_default : goal.returns-in_default
returns-in_default c =
    let rows = c.args.self.now in
    let w = c.in_default in
    let within = c.count_before.ensures.within in
    let one_less : c.count_before.result ≡ suc (c.count_before.result - 1) = omega (arith, w) in
    let point = subst (IsPoint c.args.value c.args.limit rows.notes.items) one_less c.count_before.ensures.point in
    c.position_of.ensures ∙ ap (position_of c.args.value) c.index.ensures
    ∙ sym (last_found c.args.value c.args.limit rows.notes.items (c.count_before.result - 1) c.index.result.now rows.values_rise (omega (arith, w, within)) point)
