use Rattle.std.proofs.Common.{◌∙◌, ap, sym, arith}
use Rattle.ssa_statements.proofs.Straight.{steps_out_string}
use Rattle.ob_types.specs.Meaning.{length_of_kind}
use Rattle.ssa_exprs.specs.Tables.{named_in}
use Rattle.ssa_lowered.specs.Data.{layout}
use Rattle.ssa_lowered.specs.Statements.{out_string}
use Rattle.ssa_statements.proofs.Joining.{steps_as}
use Rattle.ssa_statements.proofs.simple.out_string.Goals as goal

pub returns : goal.returns
returns c = λ p here s.
    let n_is = c.length_of_kind.ensures.is ∙ ap length_of_kind c.kind_in.ensures in
    steps_as (ap (out_string (layout p.types).character (named_in p here c.args.d.now)) (sym n_is))
    (steps_out_string (layout p.types).character c.length_of_kind.result (c.in_ok-h.ensures p here s) (c.in_ok-a.ensures (omega arith)) c.in_ok-l.ensures c.in_ok-s.ensures c.in_ok-act.ensures)
