use Rattle.std.proofs.Common.{◌∙◌, ◌+◌, ap, get_or, refl}
use Rattle.std.specs.Prelude.{is_some}
use Rattle.trace_needs.specs.Asked.{need_told}
use Rattle.linear_scan.specs.Policy.{drop_all}
use Rattle.linear_scan.specs.Inputs.{case_of}
use Rattle.linear_scan.proofs.Lengths.{along_step, there_is}
use Rattle.linear_scan.proofs.allocating.along.Goals as goal

pub loop-i-preserved : goal.loop-i-preserved
loop-i-preserved c =
    let i = c.loop-i.i in
    let nodes = c.args.nodes.now in
    record {
      row = λ lt. c.in_ok-at.ensures.row (ap is_some c.number_at.ensures ∙ there_is nodes (i + 1) lt) ∙ c.loop-i.invariant.row c.loop-i-test.true;
      step = along_step (case_of c.args.t.now) (need_told c.args.positions.now) (drop_all (need_told c.args.positions.now)) nodes i (get_or nodes i 0) c.loop-i.at c.in_ok-at.at c.number_at.result c.loop-i.fw c.walk.new.fw c.loop-i-test.true refl c.number_at.ensures c.in_ok-at.ensures.step c.in_ok-at.ensures.position ∙ c.loop-i.invariant.step;
    }
