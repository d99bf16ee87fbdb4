use Rattle.held_stores.proofs.Allocation.{held_with, later_with}
use Rattle.held_stores.proofs.laws.new_objects_keep.Goals as goal

pub returns-clause-held : goal.returns-clause-held
returns-clause-held c = λ g k s m n r held few known small size. held_with g k s m n r held few known small size

pub returns-clause-later : goal.returns-clause-later
returns-clause-later c = λ g k frame s n r. later_with g k frame s n r
