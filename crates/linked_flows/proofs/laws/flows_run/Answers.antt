use Rattle.linked_flows.proofs.Run.{runs}
use Rattle.linked_flows.proofs.laws.flows_run.Goals as goal

pub returns : goal.returns
returns c = record {
  agrees = λ k frame cuts extra input few ready image small. runs k frame cuts extra input few ready image small;
}
