use Rattle.held_stores.proofs.Stores.{load_is, store_held}
use Rattle.held_stores.proofs.laws.scalars_are_cells.Goals as goal

pub returns-clause-load : goal.returns-clause-load
returns-clause-load c = load_is

pub returns-clause-store : goal.returns-clause-store
returns-clause-store c = λ g k s m a f x v old y held may is at value small. store_held g k s m a f x v old y held may is at value small
