use Rattle.std.proofs.Common.{◌≡◌, ◌<◌, List, [], length, drop, get_or, ◌∙◌, subst, arith}
use Rattle.lir_core.specs.declared.flow.Node.{Node}
use Rattle.link_blocks.proofs.Along.{StepOn, read_more, read_all, default_any}
use Rattle.link_blocks.proofs.planning.lay_all.Goals as goal

pub loop-row-preserved : goal.loop-row-preserved
loop-row-preserved c = record {
  each = c.lay.ensures.each ∙ c.loop-row.invariant.each;
  read = λ k c' ns tail f sound distinct laid ahead.
      let a = c.args in
      let l = c.loop-row in
      let named = c.as_slice.ensures ∙ c.row-item.is ∙ default_any a.rows.now l.row-index c.row-item.result [] c.loop-row-test.true in
      read_more k c' sound ns a.rows.now l.row-index (drop a.from a.lines.now) (drop l.at a.lines.now) (drop c.in_ok-at.at a.lines.now) tail a.laid.now l.laid c.lay.new.laid c.as_slice.result.now ahead c.loop-row-test.true named (l.invariant.read k c' ns tail f sound distinct laid ahead)
      (subst (λ (nodes : List Node). StepOn k c' sound nodes (drop l.at a.lines.now) (drop c.in_ok-at.at a.lines.now) l.laid c.lay.new.laid c.as_slice.result.now) f (λ n ls e low. c.in_ok-at.ensures.read n ls e low distinct));
}

pub returns-clause-read : goal.returns-clause-read
returns-clause-read c k c' ns tail f sound distinct laid ahead =
    let many = ahead.each in
    read_all k c' sound ns c.loop-row.row-index (drop c.loop-row.at c.args.lines.now) tail c.args.laid.now c.loop-row.laid (omega (arith, many, c.loop-row-test.false)) (c.loop-row.invariant.read k c' ns tail f sound distinct laid ahead)
