use Rattle.std.proofs.Common.{◌∙◌, ap, sym, to_z-of_z, w64}
use Rattle.ssa_statements.proofs.Straight.{steps_advance}
use Rattle.ssa_exprs.proofs.Giving.{gives_as}
use Rattle.wrapping_numbers.specs.Numbers.{unsigned}
use Rattle.ssa_lowered.specs.Values.{const}
use Rattle.ssa_statements.proofs.simple.advance.Goals as goal

pub returns : goal.returns
returns c = λ p here s.
    steps_advance (c.in_ok-h.ensures p here s) (c.in_ok-from.ensures p here s) c.in_ok-v.ensures (gives_as (ap const (sym (c.cast_unsigned.ensures ∙ ap unsigned (to_z-of_z {w = w64} {z = c.args.step} c.ranges.step)))) c.in_ok-k.ensures) c.in_ok-w.ensures c.in_ok-change.ensures
