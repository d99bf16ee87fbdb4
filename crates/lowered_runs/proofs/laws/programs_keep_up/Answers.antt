use Rattle.lowered_runs.proofs.Claimed.{keeps_up}
use Rattle.lowered_runs.proofs.Samples.{sample_runs, some_calls, some_hands}
use Rattle.lowered_runs.proofs.laws.programs_keep_up.Goals as goal

pub returns : goal.returns
returns c = record {
  all = λ p input constants code n h. keeps_up p input constants code n h;
  some = sample_runs;
  calls = λ b v. some_calls b v;
  hands = λ b v. some_hands b v;
}
