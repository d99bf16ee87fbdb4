use Rattle.ob_laws.proofs.Fuel.{fuel_is_free}
use Rattle.ob_laws.proofs.laws.fuel_is_free.Goals as goal

pub returns : goal.returns
returns c = fuel_is_free
