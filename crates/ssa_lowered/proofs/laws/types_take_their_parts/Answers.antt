use Rattle.ssa_lowered.proofs.Layouts.{scalar_takes, array_takes, record_takes}
use Rattle.ssa_lowered.proofs.laws.types_take_their_parts.Goals as goal

pub returns-clause-scalar : goal.returns-clause-scalar
returns-clause-scalar c = λ w t l is fine k f at. scalar_takes w t l is fine k f at

pub returns-clause-array : goal.returns-clause-array
returns-clause-array c = λ w t l is fine k n e at. array_takes w t l is fine k n e at

pub returns-clause-whole : goal.returns-clause-whole
returns-clause-whole c = λ w t l is fine k r at. record_takes w t l is fine k r at
