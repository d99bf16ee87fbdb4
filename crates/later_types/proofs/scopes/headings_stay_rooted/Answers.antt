use Rattle.ob_judge.specs.Modules.{no_modules}
use Rattle.later_types.proofs.Rooteds.{heading_rooted}
use Rattle.later_types.proofs.scopes.headings_stay_rooted.Goals as goal

pub returns : goal.returns
returns c = λ p f name x is_local s t l a is points rooted. heading_rooted p no_modules f name x is_local s t l a is points rooted
