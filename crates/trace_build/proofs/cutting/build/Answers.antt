use Rattle.std.proofs.Common.{◌≡◌, ◌∙◌, sym, ap, subst, replicate, true, length, refl}
use Rattle.std.proofs.lemmas.List.{length-replicate}
use Rattle.trace_build.specs.Traces.{traces_of}
use Rattle.trace_build.specs.Cuts.{lists_of, AllTraces, IsPartition}
use Rattle.trace_build.proofs.Partition.{all_once, all_traces}
use Rattle.trace_build.proofs.cutting.build.Goals as goal

pub returns-clause-partition : goal.returns-clause-partition
returns-clause-partition c =
    let e : lists_of c.in_ok-cut.field-0.items ≡ traces_of c.args.builder c.args.flow.now.nodes = c.in_ok-cut.ensures ∙ ap (traces_of c.args.builder) c.as_slice-nodes.ensures in
    subst (IsPartition c.args.flow.now) (sym e) (all_once c.args.builder c.args.flow.now.nodes c.args.flow.now refl)

pub returns-clause-paths : goal.returns-clause-paths
returns-clause-paths c valid =
    let e : lists_of c.in_ok-cut.field-0.items ≡ traces_of c.args.builder c.args.flow.now.nodes = c.in_ok-cut.ensures ∙ ap (traces_of c.args.builder) c.as_slice-nodes.ensures in
    subst (AllTraces c.args.flow.now) (sym e) (all_traces c.args.flow.now valid c.args.builder (length c.args.flow.now.nodes) (replicate (length c.args.flow.now.nodes) true) (length-replicate (length c.args.flow.now.nodes) true))
