use Rattle.std.proofs.Common.{◌∙◌, None, ap, ap₂, to_z-of_z, w64}
use Rattle.ssa_exprs.proofs.Giving.{gives_give}
use Rattle.block_runs.specs.declared.end.End.TheVariants.{Branch}
use Rattle.ssa_exprs.specs.Making.{closed}
use Rattle.ssa_exprs.proofs.Forks.{tests_branch}
use Rattle.ssa_exprs.proofs.Chains.{tests_to}
use Rattle.ssa_exprs.proofs.Parts.{gives_load}
use Rattle.ssa_statements.specs.Meeting.{limit_condition}
use Rattle.ssa_statements.proofs.simple.reached.Goals as goal

pub returns : goal.returns
returns c = λ p here s.
    let g = gives_load (c.in_ok-h.ensures p here s) c.in_ok-a.ensures in
    tests_to (c.in_ok-close.ensures.closed ∙ ap₂ (λ k f. closed c.current.new.b (Branch k c.in_ok-a.a c.args.last c.args.yes c.args.no) 0 f None) (c.bound.ensures ∙ ap limit_condition (to_z-of_z {w = w64} {z = c.args.step} c.ranges.step)) c.freq-freq.ensures)
    (tests_branch (limit_condition c.args.step) c.args.yes c.args.no c.args.b.now.freq g (gives_give _ c.args.last))
