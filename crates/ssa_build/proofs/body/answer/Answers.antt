use Rattle.std.proofs.Common.{ap, Some}
use Rattle.ssa_lowered.specs.Data.{layout}
use Rattle.ssa_lowered.specs.Lowered.{answer}
use Rattle.ssa_lowered.specs.Pieces.{give}
use Rattle.ssa_exprs.proofs.Giving.{gives_as, gives_bind, gives_give}
use Rattle.ssa_build.proofs.body.answer.Goals as goal

pub returns-in_ok-v-in-Some : goal.returns-in_ok-v-in-Some
returns-in_ok-v-in-Some c = λ p here s. gives_as (ap (answer p (layout p.types) here) c.in-Some.is) (gives_bind (λ v. give (Some v)) (c.in_ok-v-in-Some.ensures p here s) (gives_give _ (Some c.in_ok-v-in-Some.v)))
