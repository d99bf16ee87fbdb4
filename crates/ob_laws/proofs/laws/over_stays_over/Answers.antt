use Rattle.ob_laws.proofs.Longer.{over_with_more}
use Rattle.ob_laws.proofs.laws.over_stays_over.Goals as goal

pub returns : goal.returns
returns c = over_with_more
