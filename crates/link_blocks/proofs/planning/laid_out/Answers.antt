use Rattle.std.proofs.Common.{◌≡◌, ◌<◌, ℕ, List, [], ◌++◌, length, drop, get_or, sym, ap, ◌∙◌, arith}
use Rattle.std.proofs.lemmas.List.{append-nil, drop_all}
use Rattle.lir_core.specs.declared.flow.Trace.{Trace}
use Rattle.lir_core.specs.declared.places.TraceOut.{TraceOut}
use Rattle.trace_build.specs.Cuts.{lists_of, all_nodes}
use Rattle.boundary_resolve.specs.Placing.{no_out, out_at}
use Rattle.link_blocks.proofs.Along.{trace_ahead, trace_read, default_any}
use Rattle.link_blocks.proofs.planning.laid_out.Goals as goal

pub loop-out-preserved : goal.loop-out-preserved
loop-out-preserved c = record {
  each = c.lay_all.ensures.each ∙ c.loop-out.invariant.each;
  reads = λ k c' f g sound paths distinct lines.
      let a = c.args in
      let l = c.loop-out in
      let t = l.out-index in
      let each = sound.each in
      let many = ap (λ (os : List TraceOut). length os) g in
      let low : t < length c'.traces = omega (arith, each, many, c.loop-out-test.true) in
      let rows = c.as_slice.ensures ∙ ap (λ (o : TraceOut). o.regs) (c.out-item.is ∙ default_any a.outs.now t c.out-item.result no_out c.loop-out-test.true ∙ ap (λ (os : List TraceOut). out_at os t) g) in
      let reads = l.invariant.reads k c' f g sound paths distinct lines in
      trace_read k c' sound paths t l.laid c.lay_all.new.laid (drop l.at a.lines.now) (drop c.in_ok-at.at a.lines.now) low reads (c.in_ok-at.ensures.read k c' _ _ f sound distinct reads.laid_is (trace_ahead k c' sound paths t (drop l.at a.lines.now) c.as_slice.result.now low rows reads.lines));
}

pub returns-clause-laid : goal.returns-clause-laid
returns-clause-laid c k c' f g sound paths distinct lines =
    let l = c.loop-out in
    let each = sound.each in
    let many = ap (λ (os : List TraceOut). length os) g in
    let reads = l.invariant.reads k c' f g sound paths distinct lines in
    let done : drop l.out-index c'.traces ≡ [] = drop_all l.out-index c'.traces (omega (arith, each, many, c.loop-out-test.false)) in
    (sym (append-nil l.laid.order.items) ∙ sym (ap (λ (ts : List Trace). l.laid.order.items ++ all_nodes (lists_of ts)) done) ∙ reads.order, reads.laid_is)
