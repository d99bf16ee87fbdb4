use Rattle.alloc_audit.proofs.Passes.{node_passes, all_pass}
use Rattle.alloc_audit.proofs.Sounds.{node_walked, all_walked}
use Rattle.alloc_audit.proofs.laws.verdict_is_exact.Goals as goal

pub returns-clause-node_passes : goal.returns-clause-node_passes
returns-clause-node_passes c = node_passes

pub returns-clause-node_walked : goal.returns-clause-node_walked
returns-clause-node_walked c = node_walked

pub returns-clause-all_pass : goal.returns-clause-all_pass
returns-clause-all_pass c k fs lives cuts outs = all_pass k 0 fs lives cuts outs

pub returns-clause-all_walked : goal.returns-clause-all_walked
returns-clause-all_walked c = all_walked
