use Rattle.std.proofs.Common.{◌∙◌, ◌||◌, ap, ap₂, sym}
use Rattle.ssa_lowered.specs.Variables.{lent_by_answer}
use Rattle.ssa_assigned.specs.Assigned.{has}
use Rattle.ssa_tables.specs.lent.Lent.{lent_by_statements}
use Rattle.ssa_tables.proofs.lent.Rows.{list_of}
use Rattle.ssa_tables.proofs.lent.statements.lend_in_body.Goals as goal

pub returns : goal.returns
returns c = λ x.
    let q = c.args.procedure.now in
    ap (λ l. has l x) c.from_vec.ensures
    ∙ c.in_ok-lend_answer.ensures x
    ∙ ap (λ b. b || lent_by_answer q.answer x) (c.in_ok-lend_all.ensures x ∙ ap₂ (λ l ss. has l x || lent_by_statements ss x) c.new-found.ensures.items c.as_slice.ensures ∙ sym (list_of q.body x))
