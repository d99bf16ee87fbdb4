use Rattle.std.proofs.Common.{arith}
use Rattle.object_form.proofs.writing.put_source.Goals as goal

pub returns-clause-typed : goal.returns-clause-typed
returns-clause-typed c = λ i. omega (arith, c.type_inv.source i)
