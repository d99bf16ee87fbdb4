use Rattle.std.proofs.Common.{refl}
use Rattle.global_live.specs.Search.{Marks, marks_of, preds_at}
use Rattle.global_live.proofs.Steps.{falls}
use Rattle.global_live.proofs.Filled.{exploring_next}
use Rattle.global_live.proofs.search.Search.explore.Goals as goal

pub loop-number-smaller : goal.loop-number-smaller
loop-number-smaller c =
    let mid : Marks = record { rows = c.loop-number.self.rows; pending = c.pop.new.self.items } in
    falls c.args.makers.now c.args.value c.in-Some.number (preds_at c.args.flow.now c.in-Some.number) (marks_of c.loop-number.self) mid (marks_of c.mark_before.new.self) refl c.in-Some.ensures.items c.in_ok-mark_before.ensures

pub loop-number-preserved : goal.loop-number-preserved
loop-number-preserved c =
    let mid : Marks = record { rows = c.loop-number.self.rows; pending = c.pop.new.self.items } in
    exploring_next c.args.flow.now c.args.makers.now c.args.value c.in-Some.number (marks_of c.args.self.now) (marks_of c.loop-number.self) mid (marks_of c.mark_before.new.self) c.loop-number.invariant refl c.in-Some.ensures.items c.in_ok-mark_before.ensures
