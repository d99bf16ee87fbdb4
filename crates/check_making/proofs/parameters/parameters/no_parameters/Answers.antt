use Rattle.std.proofs.Common.{refl, sym, subst}
use Rattle.ob_judge.specs.Parameters.{no_parameters as none_listed}
use Rattle.check_making.specs.parameters.Listed.{IsListed}
use Rattle.check_making.proofs.parameters.parameters.no_parameters.Goals as goal

pub returns : goal.returns
returns c = λ t. subst (λ fs. IsListed t (record { formals = fs; words = 0 }) none_listed) (sym c.new.ensures) (record { formals = refl; parameters = refl; words = refl; before = tt })
