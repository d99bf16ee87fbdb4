use Rattle.held_stores.proofs.Starting.{first_held}
use Rattle.held_stores.proofs.laws.first_stores_are_held.Goals as goal

pub returns : goal.returns
returns c = λ p packed l code constants input is small are stand low bytes. first_held p packed l is code constants input small are stand low bytes
