use Rattle.held_stores.proofs.Stores.{stands_part, stands_covered, stands_later}
use Rattle.held_stores.proofs.laws.parts_stand.Goals as goal

pub returns-clause-node : goal.returns-clause-node
returns-clause-node c = stands_part

pub returns-clause-there : goal.returns-clause-there
returns-clause-there c = stands_covered

pub returns-clause-later : goal.returns-clause-later
returns-clause-later c = stands_later
