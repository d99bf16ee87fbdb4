use Rattle.ob_judge.specs.Modules.{no_modules}
use Rattle.later_types.proofs.Rooteds.{type_rooted}
use Rattle.later_types.proofs.scopes.types_stay_rooted.Goals as goal

pub returns : goal.returns
returns c = λ p x s t a is points rooted. type_rooted p no_modules x s t a is points rooted
