use Rattle.text_laws.proofs.one_fault.Firsts.{one_fault, only_memory}
use Rattle.text_laws.proofs.one_fault.laws.texts_have_one_first_fault.Goals as goal

pub returns-clause-fault : goal.returns-clause-fault
returns-clause-fault c = let k = c.texts_are_read_once.ensures in λ texts a b x y f g. one_fault k.text k.fault k.apart texts a b x y f g

pub returns-clause-apart : goal.returns-clause-apart
returns-clause-apart c = let k = c.texts_are_read_once.ensures in λ texts p a h x. only_memory k.text k.fault k.apart texts p a h x
