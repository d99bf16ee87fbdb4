use Rattle.std.proofs.Common.{IsTrue}
use Rattle.run_laws.proofs.Lowering.{keeps_down}
use Rattle.run_laws.proofs.laws.carrying_out_keeps_up.Goals as goal

pub returns : goal.returns
returns c = λ x y least words all places similar same carries fits n o s a sim keeps.
    keeps_down x y least words all places (λ a b. IsTrue (similar a b)) (λ a b. IsTrue (same a b)) carries fits n o s a sim keeps
