use Rattle.std.proofs.Common.{slice_get, ap, sym, ◌∙◌}
use Rattle.std.proofs.lemmas.Option.{slice_get-get_or, slice_get_past}
use Rattle.ssa_exprs.specs.Tables.{parameter_in}
use Rattle.ssa_lowered.specs.Pieces.{give}
use Rattle.ssa_lowered.specs.Values.{At}
use Rattle.ssa_exprs.proofs.Giving.{gives_give, gives_as, gives_bind}
use Rattle.ssa_exprs.proofs.walk.parameter.Goals as goal

pub returns-then-k-parameters : goal.returns-then-k-parameters
returns-then-k-parameters c = λ p here s. gives_as (s.parameter c.args.k ∙ ap parameter_in (ap (λ xs. slice_get xs c.args.k) (sym c.as_slice-parameters.ensures) ∙ slice_get-get_or c.as_slice-parameters.result.now c.args.k _ c.if-k-parameters.true)) (gives_give _ _)

pub returns-in_ok-a : goal.returns-in_ok-a
returns-in_ok-a c = λ p here s. gives_as (s.parameter c.args.k ∙ ap parameter_in (ap (λ xs. slice_get xs c.args.k) (sym c.as_slice-parameters.ensures) ∙ slice_get_past c.as_slice-parameters.result.now c.args.k c.if-k-parameters.false)) (gives_bind (λ a. give (At a)) c.in_ok-a.ensures (gives_give _ _))
