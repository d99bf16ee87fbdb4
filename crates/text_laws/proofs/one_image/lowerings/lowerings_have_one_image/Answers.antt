use Rattle.text_laws.proofs.one_image.Cuts.{one_list, one_image}
use Rattle.text_laws.proofs.one_image.Moved.{moved}
use Rattle.text_laws.proofs.one_image.lowerings.lowerings_have_one_image.Goals as goal

pub returns : goal.returns
returns c = λ a b p q cuts others image another policy builder regs h x y.
    let z = moved b p q others another h y in
    (one_list a b policy builder regs p cuts others image another x z, one_image a b policy builder regs p cuts others image another x z)
