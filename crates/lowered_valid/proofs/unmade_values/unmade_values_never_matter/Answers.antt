use Rattle.std.proofs.Common.{[]}
use Rattle.lowered_valid.proofs.Safe.{all_safe}
use Rattle.lowered_valid.proofs.Stepping.{run_same, carries}
use Rattle.ssa_core.specs.Procedures.{procedures}
use Rattle.lowered_valid.specs.Contents.Agree.{BetweenBodies}
use Rattle.lowered_valid.proofs.unmade_values.unmade_values_never_matter.Goals as goal

pub returns-clause-runs : goal.returns-clause-runs
returns-clause-runs c ps code contents valid bare n w = run_same (procedures ps) (all_safe ps valid bare) code contents n [] (BetweenBodies w)

pub returns-clause-carries : goal.returns-clause-carries
returns-clause-carries c ps code contents valid bare = carries (procedures ps) (all_safe ps valid bare) code contents
