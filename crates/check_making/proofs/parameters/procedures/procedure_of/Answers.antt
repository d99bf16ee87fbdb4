use Rattle.check_making.proofs.Growing.{settled_grown, makes_still}
use Rattle.check_making.proofs.parameters.LegalTypes.{procedure_legal}
use Rattle.check_making.proofs.parameters.procedures.procedure_of.Goals as goal

pub returns-in-Ok-clause-settled : goal.returns-in-Ok-clause-settled
returns-in-Ok-clause-settled c =
    let h = c.in-Ok.ensures in
    settled_grown c.args.round.now c.args.state.now c.requires.settled c.procedure.new.self h.built h.grows

pub returns-in-Ok-clause-makes : goal.returns-in-Ok-clause-makes
returns-in-Ok-clause-makes c = λ m makes.
    let h = c.in-Ok.ensures in
    makes_still c.args.round.now c.args.state.now c.requires.settled c.procedure.new.self h.built h.grows m makes h.known

pub returns-in-Ok-clause-legal : goal.returns-in-Ok-clause-legal
returns-in-Ok-clause-legal c = λ x is listed result legal.
    let s = c.args.state.now in
    let h = c.in-Ok.ensures in
    procedure_legal s c.procedure.new.self c.requires.settled.built h.built h.grows h.known c.args.heading x is c.number-outcome.result c.number-outcome.ensures.entry c.number-outcome.ensures.shape c.in-Ok.of h.shape h.entries h.signatures
    listed result legal

pub returns-in-Ok-clause-shape : goal.returns-in-Ok-clause-shape
returns-in-Ok-clause-shape c = λ x is. record {
  shape_is = cc (is.listed.formals, is.result_is, c.number-outcome.ensures.shape, c.in-Ok.ensures.shape);
  element = c.in-Ok.ensures.element;
}
