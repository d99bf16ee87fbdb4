use Rattle.run_laws.proofs.Walks.{Walk-append, run-Walk}
use Rattle.run_laws.proofs.laws.walks_compose.Goals as goal

pub returns : goal.returns
returns c = record {
  append = λ y ps qs s t u v w a b. Walk-append y ps qs s t u v w a b;
  runs = λ y ps s w t h k out. run-Walk y ps s w t h k out;
}
