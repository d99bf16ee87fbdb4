use Rattle.std.proofs.Common.{ap, subst, ◌∙◌, arith}
use Rattle.object_form.specs.Faults.{Tells}
use Rattle.object_form.specs.Reading.{object_in}
use Rattle.object_form.proofs.Objects.{is_found, is_writable, object_again}
use Rattle.object_form.proofs.reading.read_object.Goals as goal

pub returns-clause-found : goal.returns-clause-found
returns-clause-found c = is_found c.args.bytes.now c.whole.result (λ i. omega (arith, c.type_inv.bytes i)) c.whole.ensures

pub returns-clause-writable : goal.returns-clause-writable
returns-clause-writable c = is_writable c.args.bytes.now c.whole.result (λ i. omega (arith, c.type_inv.bytes i)) c.whole.ensures

pub returns-clause-only : goal.returns-clause-only
returns-clause-only c = λ object fits e. subst (Tells c.whole.result) (ap object_in e ∙ object_again object fits) c.whole.ensures
