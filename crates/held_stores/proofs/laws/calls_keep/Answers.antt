use Rattle.held_stores.proofs.Calls.{held_push, held_pop}
use Rattle.held_stores.proofs.laws.calls_keep.Goals as goal

pub returns-clause-comes : goal.returns-clause-comes
returns-clause-comes c = λ g k call s cs m m2 even laid few held beyond long firsts. held_push g k call even laid few s cs m m2 held beyond long firsts

pub returns-clause-goes : goal.returns-clause-goes
returns-clause-goes c = λ g k call s t m0 m even old grows held. held_pop g k call even s t m0 m old grows held
