use Rattle.std.proofs.Common.{IsTrue}
use Rattle.run_laws.proofs.Layers.{carries_through}
use Rattle.run_laws.proofs.laws.layers_compose.Goals as goal

pub returns : goal.returns
returns c = λ x y z least fewest lowest words bits similar alike same equal one two.
    carries_through x y z least fewest lowest words bits (λ a b. IsTrue (similar a b)) (λ a b. IsTrue (alike a b)) (λ a b. IsTrue (same a b)) (λ a b. IsTrue (equal a b)) one two
