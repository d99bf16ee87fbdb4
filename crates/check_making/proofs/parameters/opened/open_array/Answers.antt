use Rattle.check_making.proofs.Growing.{settled_grown, makes_still}
use Rattle.check_types.specs.TypeMeaning.{type_shape}
use Rattle.check_making.proofs.parameters.LegalTypes.{open_legal}
use Rattle.check_making.proofs.parameters.opened.open_array.Goals as goal

pub returns-in-Ok-clause-settled : goal.returns-in-Ok-clause-settled
returns-in-Ok-clause-settled c =
    let h = c.in-Ok.ensures in
    settled_grown c.args.round.now c.args.state.now c.requires.settled c.open_array.new.self h.built h.grows

pub returns-in-Ok-clause-makes : goal.returns-in-Ok-clause-makes
returns-in-Ok-clause-makes c = λ m makes.
    let h = c.in-Ok.ensures in
    makes_still c.args.round.now c.args.state.now c.requires.settled c.open_array.new.self h.built h.grows m makes h.known

pub returns-in-Ok-clause-legal : goal.returns-in-Ok-clause-legal
returns-in-Ok-clause-legal c = λ legal.
    let s = c.args.state.now in
    let h = c.in-Ok.ensures in
    open_legal s c.open_array.new.self c.requires.settled.built h.built h.grows h.known c.in-Ok.of (type_shape s.types.table.types c.args.element) h.shape h.entries h.signatures legal
