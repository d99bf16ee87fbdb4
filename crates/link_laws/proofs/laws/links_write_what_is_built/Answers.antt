use Rattle.link_laws.proofs.Links.{of_files}
use Rattle.link_laws.proofs.laws.links_write_what_is_built.Goals as goal

pub returns : goal.returns
returns c = λ a b texts objects made held out names contents verdict policy builder regs are x.
    of_files c.objects_link_as_built.ensures.pass c.objects_link_as_built.ensures.image c.objects_link_as_built.ensures.code
    c.texts_have_one_first_fault.ensures.fault c.texts_have_one_first_fault.ensures.apart c.texts_have_one_lowering.ensures
    a b policy builder regs texts objects are made x held out names contents verdict
