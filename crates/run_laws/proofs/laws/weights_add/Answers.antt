use Rattle.run_laws.proofs.Weights.{weigh-append, weigh-map, weigh-flat_map, Within-length}
use Rattle.run_laws.proofs.laws.weights_add.Goals as goal

pub returns : goal.returns
returns c = record {
  append = λ h a b. weigh-append h a b;
  mapped = λ h f ps. weigh-map h f ps;
  words = λ h words ps. weigh-flat_map h words ps;
  bounds = λ all ps h. Within-length all ps h;
}
