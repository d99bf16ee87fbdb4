use Rattle.std.proofs.Common.{◌∙◌, ap, sym}
use Rattle.ssa_statements.proofs.Straight.{steps_number}
use Rattle.ob_types.specs.Meaning.{is_byte}
use Rattle.ssa_exprs.specs.Tables.{small_in, named_in, expr_in}
use Rattle.ssa_lowered.specs.Statements.{change_number}
use Rattle.ssa_lowered.specs.Values.{home_of}
use Rattle.ssa_statements.proofs.Joining.{steps_as}
use Rattle.ssa_statements.proofs.simple.step.Goals as goal

pub returns : goal.returns
returns c = λ p here s.
    let byte_is = c.is_byte.ensures ∙ ap is_byte c.kind_in.ensures in
    steps_as (ap (λ k. change_number c.args.op (home_of (named_in p here c.args.d.now) (small_in p c.args.d.now)) (expr_in p here c.args.x.now.form).value k) (sym byte_is))
    (steps_number c.args.op c.is_byte.result (c.in_ok-h.ensures p here s) (c.in_ok-n.ensures p here s) c.in_ok-v.ensures c.in_ok-w.ensures c.in_ok-test_byte.ensures c.in_ok-change.ensures)
