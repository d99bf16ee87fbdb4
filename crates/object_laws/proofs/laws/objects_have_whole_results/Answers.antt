use Rattle.object_laws.proofs.Whole.{whole_results}
use Rattle.object_laws.proofs.laws.objects_have_whole_results.Goals as goal

pub returns : goal.returns
returns c = λ a b texts objects p cuts policy builder regs h x well are.
    whole_results c.texts_are_read_once.ensures.text c.starts_have_alike_flows.ensures a b policy builder regs texts p x well cuts are objects h
