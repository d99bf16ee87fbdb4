use Rattle.ob_laws.proofs.Adds.{adds_at_most}
use Rattle.ob_laws.proofs.laws.only_adds.Goals as goal

pub returns : goal.returns
returns c = adds_at_most
