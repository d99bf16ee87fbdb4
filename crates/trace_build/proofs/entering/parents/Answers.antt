use Rattle.std.proofs.Common.{◌∙◌, sym, ap, subst, length, replicate, arith}
use Rattle.lir_core.specs.Flows.{code_nodes}
use Rattle.trace_build.specs.Parents.{trace_at, IsParent, holders_from, parent_by}
use Rattle.trace_build.proofs.Holders.{are_below, parent_is}
use Rattle.trace_build.proofs.entering.parents.Goals as goal

pub returns-clause-each : goal.returns-clause-each
returns-clause-each c = omega (arith, c.loop-number.invariant.0)

pub returns-clause-below : goal.returns-clause-below
returns-clause-below c = are_below c.args.flow.now.nodes c.in_ok-holders.holders.items c.args.traces.now c.loop-number.parents.items (omega (arith, c.loop-number.invariant.0)) (λ t lt. c.loop-number.invariant.1 t (omega arith))

pub returns-clause-parents : goal.returns-clause-parents
returns-clause-parents c valid = record {
  each = omega (arith, c.loop-number.invariant.0);
  parent = λ t lt.
      let holders = c.in_ok-holders.ensures ∙ ap (λ n. holders_from 0 c.args.traces.now (replicate n (length c.args.traces.now))) c.len.ensures in
      let now = c.loop-number.invariant.1 t (omega arith) ∙ ap (λ hs. parent_by c.args.flow.now.nodes hs (trace_at c.args.traces.now t).nodes t) holders in
      subst (IsParent (code_nodes c.args.flow.now.nodes) c.args.traces.now t) (sym now) (parent_is c.args.flow.now valid c.args.traces.now t lt);
}
