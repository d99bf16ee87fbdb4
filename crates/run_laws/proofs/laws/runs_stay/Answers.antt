use Rattle.run_laws.proofs.BoundedRuns.{run-longer, run-one_end, run-grows}
use Rattle.run_laws.proofs.laws.runs_stay.Goals as goal

pub returns : goal.returns
returns c = record {
  over = λ f m j s out h. run-longer f m j s out h;
  one = λ f m j s out a b. run-one_end f m j s out a b;
  written = λ f m n s out le. run-grows f m n s out le;
}
