use Rattle.std.proofs.Common.{refl}
use Rattle.ob_types.specs.Trees.{Array}
use Rattle.held_stores.proofs.Stores.{stands_apart}
use Rattle.held_stores.proofs.laws.parts_are_one_or_apart.Goals as goal

pub returns-clause-same : goal.returns-clause-same
returns-clause-same c = λ g k tags a b t x y room p q. stands_apart g k tags a b t t x y room refl p q

pub returns-clause-arrays : goal.returns-clause-arrays
returns-clause-arrays c = λ g k tags a b n m e x y room p q. stands_apart g k tags a b (Array n e) (Array m e) x y room refl p q
