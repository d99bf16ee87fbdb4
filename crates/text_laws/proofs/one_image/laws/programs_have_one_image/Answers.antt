use Rattle.text_laws.proofs.one_image.Cuts.{one_list, one_image}
use Rattle.text_laws.proofs.one_image.laws.programs_have_one_image.Goals as goal

pub returns : goal.returns
returns c = λ a b p cuts others image another policy builder regs x y. (one_list a b policy builder regs p cuts others image another x y, one_image a b policy builder regs p cuts others image another x y)
