use Rattle.std.proofs.Common.{◌∙◌, ap, sym, to_z-of_z, w64}
use Rattle.wrapping_numbers.specs.Numbers.{unsigned}
use Rattle.ssa_lowered.specs.Values.{const}
use Rattle.ssa_exprs.proofs.Giving.{gives_as, gives_give}
use Rattle.ssa_exprs.proofs.Forks.{tests_branch}
use Rattle.ssa_exprs.proofs.Chains.{tests_to}
use Rattle.ssa_statements.proofs.cases.related.Goals as goal

pub returns : goal.returns
returns c =
    tests_to c.in_ok-close.ensures.closed
    (tests_branch c.args.cond c.args.yes c.args.no c.args.next (gives_give _ c.args.v) (gives_as (ap const (sym (c.cast_unsigned.ensures ∙ ap unsigned (to_z-of_z {w = w64} {z = c.args.n} c.ranges.n)))) c.in_ok-k.ensures))
