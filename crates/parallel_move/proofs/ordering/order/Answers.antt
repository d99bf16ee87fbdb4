use Rattle.std.proofs.Common.{sym, subst, List}
use Rattle.parallel_move.specs.Steps.{CarriesOut}
use Rattle.parallel_move.specs.declared.step.Step.{Step}
use Rattle.parallel_move.proofs.Linking.{done, carries}
use Rattle.parallel_move.proofs.ordering.order.Goals as goal

pub returns-clause-steps : goal.returns-clause-steps
returns-clause-steps c d = done c.args.moves.now d c.in_ok-entries.entries.items c.as_mut_slice-entries.result.now c.count_readers.new.entries c.make_free.new.entries c.new-steps.result.items c.make_free.new.steps.items c.break_cycles.new.steps.items c.in_ok-entries.ensures c.as_mut_slice-entries.ensures.value c.count_readers.ensures c.new-steps.ensures.items c.in_ok-make_free.ensures.steps c.in_ok-break_cycles.ensures

pub returns-clause-carries : goal.returns-clause-carries
returns-clause-carries c d =
    let e = done c.args.moves.now d c.in_ok-entries.entries.items c.as_mut_slice-entries.result.now c.count_readers.new.entries c.make_free.new.entries c.new-steps.result.items c.make_free.new.steps.items c.break_cycles.new.steps.items c.in_ok-entries.ensures c.as_mut_slice-entries.ensures.value c.count_readers.ensures c.new-steps.ensures.items c.in_ok-make_free.ensures.steps c.in_ok-break_cycles.ensures in
    subst (λ (x : List Step). CarriesOut x c.args.moves.now) (sym e) (carries c.args.moves.now d)
