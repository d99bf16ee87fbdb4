use Rattle.std.proofs.Common.{ap, arith, length}
use Rattle.trace_needs.proofs.Halving.{lower_upto}
use Rattle.trace_needs.proofs.rows.Rows.is_first.Goals as goal

pub returns-else-at-eq0 : goal.returns-else-at-eq0
returns-else-at-eq0 c =
    let rows = c.args.self.now in
    let some = c.if-at-eq0.false in
    let within = c.in-Some.ensures.lookup.3.0 in
    let same = ap length c.deref.ensures.value in
    lower_upto c.args.value rows.notes.items c.args.at c.index.result.now rows.values_rise (omega (arith, some)) (omega (arith, within, same)) c.index.ensures
