use Rattle.std.proofs.Common.{ap, subst, ◌∙◌, arith}
use Rattle.trace_notes.specs.Notes.{Tells, notes_in}
use Rattle.trace_notes.proofs.Notes.{is_found, is_notable, notes_again}
use Rattle.trace_notes.proofs.reading.read_notes.Goals as goal

pub returns-clause-found : goal.returns-clause-found
returns-clause-found c = is_found c.args.bytes.now c.results_in.result (λ i. omega (arith, c.type_inv.bytes i)) c.results_in.ensures

pub returns-clause-notable : goal.returns-clause-notable
returns-clause-notable c = is_notable c.args.bytes.now c.results_in.result (λ i. omega (arith, c.type_inv.bytes i)) c.results_in.ensures

pub returns-clause-only : goal.returns-clause-only
returns-clause-only c = λ outs fits e. subst (Tells c.results_in.result) (ap notes_in e ∙ notes_again outs fits) c.results_in.ensures
