use Rattle.judged_outlines.proofs.ends.Modules.{constants_offered}
use Rattle.judged_outlines.proofs.ends.laws.offered_constants_are_in_range.Goals as goal

pub returns : goal.returns
returns g = λ p m c s t read ends i d. constants_offered p read m c ends s t i d
