use Rattle.ssa_lowered.proofs.Layouts.{field_within, fields_apart, behind_base}
use Rattle.ssa_lowered.proofs.laws.fields_lie_apart.Goals as goal

pub returns-clause-within : goal.returns-clause-within
returns-clause-within c = λ w t l is fine r n k at. field_within w t l is fine r n k at

pub returns-clause-before : goal.returns-clause-before
returns-clause-before c = λ w t l is r n m k lt at. fields_apart w t l is r n m k lt at

pub returns-clause-behind : goal.returns-clause-behind
returns-clause-behind c = λ w t l is r b n at. behind_base w t l is r b n at
