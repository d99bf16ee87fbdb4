use Rattle.std.proofs.Common.{arith}
use Rattle.std.proofs.lemmas.List.{length-map}
use Rattle.trace_work.specs.declared.work.Entry.{Entry}
use Rattle.trace_work.proofs.Entered.{entry_is, parent_at}
use Rattle.trace_work.proofs.work.TraceWorkWork.parent.Goals as goal

pub returns : goal.returns
returns c =
    let w = c.args.self.now in
    let lt = c.requires in
    let long = length-map w.entries.items (λ (y : Entry). y.parent) in
    parent_at w.entries.items c.args.trace c.index.result.now (entry_is w.plans.items w.entries.items w.entered c.args.trace c.index.result.now c.index.ensures (omega (arith, lt, long)))
