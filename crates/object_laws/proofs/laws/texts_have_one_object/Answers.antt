use Rattle.object_laws.proofs.One.{one_object_of_texts}
use Rattle.object_laws.proofs.laws.texts_have_one_object.Goals as goal

pub returns : goal.returns
returns c = λ a b texts one other policy builder regs x y. one_object_of_texts a b policy builder regs c.texts_have_one_lowering.ensures texts one other x y
